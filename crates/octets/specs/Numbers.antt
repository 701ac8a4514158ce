-- Numbers within bounds.
use Rattle.std.specs.Prelude.{Option, None, Some, ℕ}
use Rattle.rules.specs.Octets.{choose, within}

-- the number n, if it is lo to hi
unfoldable pub between : ℕ → ℕ → ℕ → Option ℕ
between lo hi n = choose (within lo hi n) (Some n) None
