-- The EPSV argument, by the tests that the code makes.
use mathlib.Core.Path.{◌≡◌, refl, sym}
use mathlib.Core.Bool.{Bool, true, false}
use mathlib.Core.List.{List, [], ◌∷◌}
use Rattle.std.specs.Prelude.{Option, Some, None}
use Prim.Native.Nat.{ℕ, ◌+◌, ◌<◌}
use native.Mathlib.Omega.{arith}
use borrow.Author.Tests.{eq-eqb, ne_eqb}
use lib.Dec.{eqb}
use lib.ListN.{length, drop}
use Rattle.rules.specs.Octets.{oct, choose, is_empty, within, every, run, digit, value, number, alike}
use Rattle.rules.specs.Commands.{epsv_argument}
use Rattle.rules.specs.declared.EpsvArgument.{EpsvArgument}
use Rattle.octets.specs.Numbers.{between}
use Rattle.octets.proofs.Ranges.{is_within, within-bounds}
use Rattle.octets.proofs.Runs.{run_length, every-reached, every-short}
use Rattle.octets.proofs.Values.{number_digits}
use Rattle.octets.proofs.Choices.{chosen, passed}

empty : (s : List ℕ) → length s ≡ 0 → is_empty s ≡ true
empty [] h = refl
empty (x ∷ s) h = absurd (omega arith)

not-empty : (s : List ℕ) → (length s ≡ 0 → ⊥) → is_empty s ≡ false
not-empty [] h = absurd (h refl)
not-empty (x ∷ s) h = refl

-- an EPSV argument is empty, or all digits, or a text, by its length and the position e where its digits end
pub epsv-empty : (a : List ℕ) → length a ≡ 0 → EpsvArgument.Passive ≡ epsv_argument a
unfolding epsv_argument
epsv-empty a h = chosen _ refl (empty a h) refl

module _ (a : List ℕ) (e : ℕ) (r : EpsvArgument) (filled : length a ≡ 0 → ⊥) (ends : e ≡ 0 + run digit (drop 0 a)) where
  pub epsv-digits : e ≡ length a → r ≡ choose (eqb (value a) 2) EpsvArgument.Passive EpsvArgument.OtherProtocol → r ≡ epsv_argument a
  unfolding epsv_argument
  epsv-digits h k = passed _ refl (not-empty a filled) (chosen _ refl (every-reached digit a e ends (omega arith)) k)

  pub epsv-text : (e ≡ length a → ⊥) → r ≡ choose (alike a (oct "ALL")) EpsvArgument.All EpsvArgument.Other → r ≡ epsv_argument a
  unfolding epsv_argument
  epsv-text h k = passed _ refl (not-empty a filled) (passed _ refl (every-short digit a e ends (omega (arith, run_length digit a))) k)

within_by : (n v : ℕ) (b : Bool) → within n n v ≡ b → b ≡ eqb v n
within_by n v true h = let bounds = within-bounds n n v h in sym (eq-eqb v n (omega arith))
within_by n v false h =
    sym
    (ne_eqb v n
    (λ e. let inside = is_within n n v (omega arith) (omega arith) in let z : ◌≡◌ {A = ℕ} 0 1 = cc in omega arith))

-- what the code makes of a protocol number that it read
abbrev pub asks : Option ℕ → EpsvArgument
asks (Some n) = EpsvArgument.Passive
asks None = EpsvArgument.OtherProtocol

asks-by : (v : ℕ) (b : Bool) → asks (choose b (Some v) None) ≡ choose b EpsvArgument.Passive EpsvArgument.OtherProtocol
unfolding choose
asks-by v true = refl
asks-by v false = refl

-- the digits of one number n, read as n to n, are that number or are not
pub asks-for : (n : ℕ) (s : List ℕ) (r : Option ℕ) → 0 < length s → every digit s ≡ true → r ≡ number (length s) n n s → asks r ≡ choose (eqb (value s) n) EpsvArgument.Passive EpsvArgument.OtherProtocol
unfolding between
asks-for n s r h d e =
    rw (e, number_digits (length s) n n s (is_within 1 (length s) (length s) (omega arith) (omega arith)) d, within_by n (value s) _ refl)
    (asks-by (value s) _)
