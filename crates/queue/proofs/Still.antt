-- A still queue: no own answer and no AUTH comes first in it.
use mathlib.Core.Path.{◌≡◌, refl, sym, subst}
use mathlib.Core.Bool.{Bool, true, false}
use mathlib.Core.List.{List, [], ◌∷◌}
use Prim.Native.Nat.{ℕ, zero, suc, ◌<◌}
use native.Mathlib.Omega.{arith}
use lib.Dec.{leb, ltb}
use lib.ListN.{length, drop, get_or}
use borrow.Author.Tests.{leb-true, leb-false, ltb-true}
use Rattle.rules.specs.Octets.{choose}
use Rattle.rules.specs.Replies.{auth_at_head}
use Rattle.rules.specs.declared.Kind.{Kind}
use Rattle.queue.specs.Kinds.{kind_of, queue_of, answers_at_head, is_still}
use Rattle.queue.proofs.Answers.{none-owed, none_kept, one-owed}

low-answers : (m : ℕ) → m < 2 → (ks : List Kind) → answers_at_head (kind_of m ∷ ks) ≡ 0
unfolding answers_at_head kind_of choose
low-answers zero h ks = refl
low-answers (suc zero) h ks = refl
low-answers (suc (suc m)) h ks = absurd (omega arith)

low-auth : (m : ℕ) → m < 2 → (ks : List Kind) → auth_at_head (kind_of m ∷ ks) ≡ false
unfolding auth_at_head kind_of choose
low-auth zero h ks = refl
low-auth (suc zero) h ks = refl
low-auth (suc (suc m)) h ks = absurd (omega arith)

module _ (kinds : List ℕ) (n owed : ℕ) where
  -- behind the first n kinds there is none, or one with a low number
  still-cases : (P : List Kind → Type 0) → P [] → ((m : ℕ) → m < 2 → (ks : List Kind) → P (kind_of m ∷ ks))
      → (past : Bool) → leb (length kinds) n ≡ past → (b : Bool) → leb owed n ≡ b → choose b true (ltb (get_or kinds n 0) 2) ≡ true
      → P (drop n (queue_of kinds owed))
  unfolding choose
  still-cases P none low past p true e h = subst P (sym (none-owed kinds n owed (leb-true owed n e))) none
  still-cases P none low true p false e h = subst P (sym (none_kept kinds n owed (leb-true (length kinds) n p))) none
  still-cases P none low false p false e h =
      subst P (sym (one-owed kinds n owed (leb-false owed n e) (leb-false (length kinds) n p)))
      (low (get_or kinds n 0) (ltb-true (get_or kinds n 0) 2 h) _)

  pub still-answers : is_still kinds n owed ≡ true → answers_at_head (drop n (queue_of kinds owed)) ≡ 0
  unfolding is_still answers_at_head
  still-answers = still-cases (λ (ks : List Kind). answers_at_head ks ≡ 0) refl low-answers (leb (length kinds) n) refl (leb owed n) refl

  pub still-auth : is_still kinds n owed ≡ true → auth_at_head (drop n (queue_of kinds owed)) ≡ false
  unfolding is_still auth_at_head
  still-auth = still-cases (λ (ks : List Kind). auth_at_head ks ≡ false) refl low-auth (leb (length kinds) n) refl (leb owed n) refl
