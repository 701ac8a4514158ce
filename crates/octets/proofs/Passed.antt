-- Laws of `passed`: it goes over two texts joined, is the text itself where no octet is 255, and at most doubles its length.
use mathlib.Core.Path.{◌≡◌, refl, ap, ◌∙◌}
use mathlib.Core.Bool.{Bool, true, false}
use mathlib.Core.List.{List, [], ◌∷◌, ◌++◌}
use Prim.Native.Nat.{ℕ, suc, ◌*◌, ◌≤◌}
use native.Mathlib.Omega.{arith}
use lib.Dec.{eqb}
use lib.ListN.{length}
use borrow.Author.Tests.{not-true}
use Rattle.rules.specs.Octets.{iac, choose, every, is_not}
use Rattle.rules.specs.Lines.{passed}
use Rattle.octets.proofs.Ranges.{and_both}
use Rattle.octets.proofs.Choices.{choose-false}

-- by what the first octet is
append-by : (x : ℕ) (p q r : List ℕ) (b : Bool) → r ≡ p ++ q
    → choose b (iac ∷ iac ∷ r) (x ∷ r) ≡ choose b (iac ∷ iac ∷ p) (x ∷ p) ++ q
unfolding choose
append-by x p q r true e = ap (λ (l : List ℕ). iac ∷ iac ∷ l) e
append-by x p q r false e = ap (λ (l : List ℕ). x ∷ l) e

pub passed-append : (a b : List ℕ) → passed (a ++ b) ≡ passed a ++ passed b
unfolding passed
passed-append [] b = refl
passed-append (x ∷ a) b = append-by x (passed a) (passed b) (passed (a ++ b)) (eqb x iac) (passed-append a b)

pub passed-itself : (xs : List ℕ) → every (is_not iac) xs ≡ true → passed xs ≡ xs
unfolding passed every
passed-itself [] h = refl
passed-itself (x ∷ xs) h =
    let each = and_both (is_not iac x) (every (is_not iac) xs) h in
    choose-false _ (x ∷ passed xs) (not-true (eqb x iac) each.0) ∙ ap (λ (l : List ℕ). x ∷ l) (passed-itself xs each.1)

-- a length that lies between n and 2 * n
abbrev Between : ℕ → ℕ → Type 0
Between n m = (n ≤ m) × (m ≤ 2 * n)

between-by : (x n : ℕ) (p : List ℕ) (b : Bool) → Between n (length p) → Between (suc n) (length (choose b (iac ∷ iac ∷ p) (x ∷ p)))
unfolding choose
between-by x n p true h = (omega (arith, h.0), omega (arith, h.1))
between-by x n p false h = (omega (arith, h.0), omega (arith, h.1))

between : (xs : List ℕ) → Between (length xs) (length (passed xs))
unfolding passed
between [] = (omega arith, omega arith)
between (x ∷ xs) = between-by x (length xs) (passed xs) (eqb x iac) (between xs)

pub passed-least : (xs : List ℕ) → length xs ≤ length (passed xs)
passed-least xs = (between xs).0

pub passed-most : (xs : List ℕ) → length (passed xs) ≤ 2 * length xs
passed-most xs = (between xs).1
