-- What a test in the code tells.
use Rattle.std.specs.Prelude.{◌≡◌, Bool, ℕ, ◌<◌}

-- a call of it on an octet gives what p says
abbrev pub Tests : (ℕ → Bool → Type 0) → (ℕ → Bool) → Type 0
Tests gives p = (x : ℕ) (b : Bool) → x < 256 → gives x b → b ≡ p x
