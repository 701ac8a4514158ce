-- What a comparison of the code says of the test `within`.
use mathlib.Core.Path.{◌≡◌, refl}
use mathlib.Core.Bool.{Bool, true, false, ◌&&◌, and-false}
use Prim.Native.Nat.{ℕ, ◌<◌, ◌≤◌}
use native.Mathlib.Omega.{arith}
use borrow.Author.Tests.{le-leb, lt-leb, leb-true}
use lib.Dec.{leb}
use Rattle.rules.specs.Octets.{within}

pub is_within : (lo hi x : ℕ) → lo ≤ x → x ≤ hi → within lo hi x ≡ true
is_within lo hi x h k = rw (le-leb lo x h, le-leb x hi k)

pub is_below : (lo hi x : ℕ) → x < lo → within lo hi x ≡ false
is_below lo hi x h = rw (lt-leb lo x h)

pub is-above : (lo hi x : ℕ) → hi < x → within lo hi x ≡ false
is-above lo hi x h = rw (lt-leb x hi h) (and-false (leb lo x))

pub and_both : (a b : Bool) → (a && b) ≡ true → (a ≡ true) × (b ≡ true)
and_both true b e = (refl, e)
and_both false b e = let z : ◌≡◌ {A = ℕ} 0 1 = cc in absurd (omega arith)

pub within-bounds : (lo hi x : ℕ) → within lo hi x ≡ true → (lo ≤ x) × (x ≤ hi)
within-bounds lo hi x e =
    let both = and_both (leb lo x) (leb x hi) e in
    (leb-true lo x both.0, leb-true x hi both.1)
