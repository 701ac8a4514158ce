-- A test that two facts refute together.
use mathlib.Core.Path.{◌≡◌, refl}
use mathlib.Core.Bool.{Bool, true, false, ◌&&◌}
use Prim.Native.Nat.{ℕ, ◌≤◌}
use borrow.Author.Tests.{leb-true}
use lib.Dec.{leb}
use Rattle.rules.specs.Octets.{within}

pub and-not : (a b : Bool) → (a ≡ true → b ≡ true → ⊥) → a && b ≡ false
and-not true true out = absurd (out refl refl)
and-not true false out = refl
and-not false b out = refl

pub within-not : (lo hi x : ℕ) → (lo ≤ x → x ≤ hi → ⊥) → within lo hi x ≡ false
within-not lo hi x out = and-not (leb lo x) (leb x hi) (λ p q. out (leb-true lo x p) (leb-true x hi q))
