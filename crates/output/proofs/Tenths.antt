-- A tenth as a product divided by a power of two.
use mathlib.Core.Path.{◌≡◌}
use Prim.Native.Nat.{ℕ, ◌*◌, ◌/◌, ◌<◌}
use native.Mathlib.Omega.{arith}

-- Ten times 52,429 is 2^19, which is 524,288, and 2 more. So the product of 10 q + r is q times 2^19 and 2 q + 52,429 r
-- more, which is less than 2^19 while q is below 26,214. The bound is lower, 81,920: up to there the product is within 32 bits too.
pub tenth-by-product : (n : ℕ) → n < 81920 → (n * 52429 < 4294967296) × (n * 52429 / 524288 ≡ n / 10)
tenth-by-product n h = (omega arith, omega arith)
