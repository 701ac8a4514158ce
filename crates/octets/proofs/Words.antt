-- Laws of `alike` at an index.
use mathlib.Core.Path.{◌≡◌, refl, sym, ap, ◌∙◌}
use mathlib.Core.Bool.{Bool, true, false, ◌&&◌}
use mathlib.Core.List.{List, [], ◌∷◌, map}
use Prim.Native.Nat.{ℕ, suc}
use native.Mathlib.Omega.{arith}
use lib.Dec.{eqb}
use lib.ListN.{length, length-map}
use Rattle.std.specs.Cmp.Lexicographic.{pointwise}
use Rattle.std.specs.List.{list_all, zip}
use Rattle.std.specs.Char.{to_ascii_uppercase}
use Rattle.std.proofs.lemmas.Bool.Decides.{nat_tests}
use Rattle.rules.specs.Octets.{choose, equal, capital, alike}

-- lists of two lengths differ
pub equal-lengths : (xs ys : List ℕ) → (length xs ≡ length ys → ⊥) → equal xs ys ≡ false
unfolding equal
equal-lengths [] [] h = absurd (h refl)
equal-lengths [] (y ∷ ys) h = refl
equal-lengths (x ∷ xs) [] h = refl
equal-lengths (x ∷ xs) (y ∷ ys) h = unequal (eqb x y) (equal-lengths xs ys (λ e. h (ap suc e)))
  where
    unequal : (b : Bool) → equal xs ys ≡ false → (b && equal xs ys) ≡ false
    unequal true e = e
    unequal false e = refl

pub alike-lengths : (s w : List ℕ) → (length s ≡ length w → ⊥) → alike s w ≡ false
unfolding alike
alike-lengths s w h = equal-lengths (map capital s) w (λ e. h (sym (length-map s capital) ∙ e))

-- the library's capitals are the same ones, and so is its test of two texts of one length, octet by octet
upper : (x : ℕ) → to_ascii_uppercase x ≡ capital x
unfolding capital choose
upper x = grind (arith, nat_tests)

pub alike-zipped : (s w : List ℕ) → length s ≡ length w → list_all (λ (p : ℕ × ℕ). eqb (to_ascii_uppercase p.0) p.1) (zip s w) ≡ alike s w
unfolding alike equal
alike-zipped [] [] h = refl
alike-zipped [] (y ∷ w) h = absurd (omega arith)
alike-zipped (x ∷ s) [] h = absurd (omega arith)
alike-zipped (x ∷ s) (y ∷ w) h = rw (upper x) (ap (λ (b : Bool). eqb (capital x) y && b) (alike-zipped s w (omega arith)))

-- the library's comparison of two texts says the same
pub equal-pointwise : (a b : List ℕ) → pointwise eqb a b ≡ equal a b
unfolding equal
equal-pointwise [] [] = refl
equal-pointwise [] (y ∷ b) = refl
equal-pointwise (x ∷ a) [] = refl
equal-pointwise (x ∷ a) (y ∷ b) = ap (λ (e : Bool). eqb x y && e) (equal-pointwise a b)
