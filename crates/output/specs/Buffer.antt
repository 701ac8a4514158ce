-- A lent buffer with octets put into it: all of them, or none where they do not fit.
use Rattle.std.specs.Prelude.{◌≡◌, Bool, List, ◌++◌, ℕ, ◌+◌, ◌≤◌, leb, length, take, drop}
use Rattle.rules.specs.Octets.{choose}

-- whether src has room from `at` on
unfoldable pub fits_at : List ℕ → ℕ → List ℕ → Bool
fits_at out at src = leb (at + length src) (length out)

-- the buffer with src from `at` on; as it was where src does not fit
unfoldable pub put_at : List ℕ → ℕ → List ℕ → List ℕ
put_at out at src = choose (fits_at out at src) (take at out ++ (src ++ drop (at + length src) out)) out

-- the next position: `at` itself where nothing was written
unfoldable pub position_after : List ℕ → ℕ → List ℕ → ℕ
position_after out at src = choose (fits_at out at src) (at + length src) at

-- what a writer promises: src is put whole or not at all, and the next position returned
abbrev pub Put : List ℕ → ℕ → List ℕ → ℕ → List ℕ → Type 0
Put out at src next after = (next ≡ position_after out at src) × (after ≡ put_at out at src)

-- what a writer of a part of a line promises: a part that has room is put
abbrev pub PutInRoom : List ℕ → ℕ → List ℕ → ℕ → List ℕ → Type 0
PutInRoom out at part next after = at + length part ≤ length out → Put out at part next after
