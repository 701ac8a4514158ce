-- The numbers of the kinds, moved to the front.
use mathlib.Core.Path.{◌≡◌, sym, ap, ◌∙◌}
use mathlib.Core.List.{List, ◌++◌}
use Prim.Native.Nat.{ℕ, ◌+◌, ◌-◌, ◌≤◌}
use native.Mathlib.Omega.{arith}
use Rattle.std.specs.List.{copy_within}
use Rattle.std.proofs.lemmas.List.{drop-take}
use lib.ListN.{length, take, drop, length-take, take-append-drop, drop_of_length-le}
use borrow.Author.Tests.{le-leb}
use Rattle.octets.proofs.Choices.{choose-true}
use Rattle.queue.specs.Kinds.{shifted, shifted_in}

-- where no more are owed than leave, none is moved
pub none-shifted : (kinds : List ℕ) (by owed : ℕ) → owed ≤ by → shifted kinds by owed ≡ kinds
unfolding shifted
none-shifted kinds by owed h =
    let zero : owed - by ≡ 0 = omega arith in
    rw (drop_of_length-le (take owed kinds) {i = by} (simp length-take (omega arith)), zero)

-- by no positions
pub shifted_none : (kinds : List ℕ) (owed : ℕ) → shifted kinds 0 owed ≡ kinds
unfolding shifted
shifted_none kinds owed =
    let all : owed - 0 ≡ owed = omega arith in
    ap (λ (n : ℕ). take owed kinds ++ drop n kinds) all ∙ take-append-drop owed kinds

-- the kinds behind the first ones, copied to the front where they lie
pub copied : (kinds : List ℕ) (by owed : ℕ) → by ≤ owed → copy_within kinds by owed 0 ≡ shifted kinds by owed
unfolding shifted
copied kinds by owed h =
    let all : by + (owed - by) ≡ owed = omega arith in
    let zero : 0 + (owed - by) ≡ owed - by = omega arith in
    ap (λ (n : ℕ). take (owed - by) (drop by kinds) ++ drop n kinds) zero
    ∙ ap (λ (l : List ℕ). l ++ drop (owed - by) kinds) (sym (drop-take by (owed - by) kinds) ∙ ap (λ (n : ℕ). drop by (take n kinds)) all)

-- what an array that has all kinds owed becomes
pub shifted_in_lem : (kinds : List ℕ) (by owed : ℕ) → owed ≤ length kinds → shifted_in kinds by owed ≡ shifted kinds by owed
shifted_in_lem kinds by owed h = choose-true (shifted kinds by owed) kinds (le-leb owed (length kinds) h)
