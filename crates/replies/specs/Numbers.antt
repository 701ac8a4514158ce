-- A number of a 227 line, as the code hands it on.
use Rattle.std.specs.Prelude.{List, ℕ, ◌+◌, drop, Option, option_map}
use Rattle.rules.specs.Octets.{digit, run, front, number}

-- "a whole run of 1 to 3 digits, 0 to 255", at a position of s, with the position where its digits end
unfoldable pub number_at : List ℕ → ℕ → Option (ℕ × ℕ)
number_at s at = option_map (λ n. (n, at + run digit (drop at s))) (number 3 0 255 (front digit (drop at s)))
