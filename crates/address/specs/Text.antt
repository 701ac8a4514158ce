-- What the readers of this crate answer, by what the definitions of `rules` say.
use Rattle.std.specs.Prelude.{◌≡◌, List, ℕ, ◌+◌, leb, length, take, drop}
use Rattle.std.specs.Prelude.{Option, None, Some}
use Rattle.rules.specs.Octets.{choose}
use Rattle.rules.specs.Address.{Halves}

-- what is read by a reader that may refuse: the octets, unless it did
abbrev pub read_by : Option (Unit {0}) → List ℕ → Option (List ℕ)
read_by None octets = None
read_by (Some done) octets = Some octets

-- a reading of at most sixteen octets: a longer one is no part of an address
unfoldable pub within_sixteen : Option (List ℕ) → Option (List ℕ)
within_sixteen None = None
within_sixteen (Some a) = choose (leb (length a) 16) (Some a) None

-- two readings are the same, or both are no part of an address
pub record Reads (r o : Option (List ℕ)) : Type 0 where
  pub same : within_sixteen r ≡ within_sixteen o

-- what stands before and after two octets at n, if they are there
abbrev pub halves_at : Option ℕ → List ℕ → Halves
halves_at None t = None
halves_at (Some n) t = Some (take n t, drop (n + 2) t)
