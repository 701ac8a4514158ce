-- Laws of `choose`: in a chain of tests, by what its test is, and for what holds of both choices.
use mathlib.Core.Path.{◌≡◌, refl, ap}
use mathlib.Core.Bool.{Bool, true, false}
use Rattle.rules.specs.Octets.{choose}

-- what a branch on a test's result b returns is what the definition's `choose` gives for the test t
pub chosen : {A : Type 0} {t b : Bool} {x : A} (y : A) {r : A} → b ≡ t → b ≡ true → r ≡ x → r ≡ choose t x y
unfolding choose
chosen y e h k = rw (← e, h) k

pub passed : {A : Type 0} {t b : Bool} (x : A) {y r : A} → b ≡ t → b ≡ false → r ≡ y → r ≡ choose t x y
unfolding choose
passed x e h k = rw (← e, h) k

-- by what the test is
pub choose-true : {A : Type 0} {b : Bool} (x y : A) → b ≡ true → choose b x y ≡ x
unfolding choose
choose-true x y e = ap (λ (c : Bool). choose c x y) e

pub choose-false : {A : Type 0} {b : Bool} (x y : A) → b ≡ false → choose b x y ≡ y
unfolding choose
choose-false x y e = ap (λ (c : Bool). choose c x y) e

-- what holds of both choices, or of each under its test, holds of the one made
pub either : {A : Type 0} (P : A → Type 0) (b : Bool) (x y : A) → P x → P y → P (choose b x y)
unfolding choose
either P true x y p q = p
either P false x y p q = q

pub by-test : {A : Type 0} (P : A → Type 0) (b : Bool) (x y : A) → (b ≡ true → P x) → (b ≡ false → P y) → P (choose b x y)
unfolding choose
by-test P true x y p q = p refl
by-test P false x y p q = q refl
