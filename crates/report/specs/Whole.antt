-- What the parts are together: whole-report, part-most, room-enough, goes_on, few-parts and all-written of proofs/ show these claims.
use Rattle.std.specs.Prelude.{◌≡◌, Ok, Err, ℕ, ◌≤◌, length, take}
use mathlib.Core.List.{List, [], ◌∷◌, ◌++◌, flatten}
use Rattle.output.specs.Buffer.{put_at}
use Rattle.fields.specs.Report.{report}
use Rattle.report.specs.declared.NoPart.{NoPart}
use Rattle.report.specs.declared.Replay.{Replay}
use Rattle.report.specs.declared.Part.{Part}
use Rattle.report.specs.Replays.{first_text, first_part, next_text, next_part}

-- ---- the whole report

-- what the calls of `next` left at the front of their buffers, each called with the replay that the last returned, until no entry is left
pub data Parts (file : List ℕ) : Replay → List (List ℕ) → Type 0 where
  no_parts : {r : Replay} → r.left ≡ 0 → Parts file r []
  more : {r : Replay} {p : Part} {ps : List (List ℕ)} (out : List ℕ) → next_part file r (length out) ≡ Ok p
      → Parts file p.replay ps → Parts file r (take p.written (put_at out 0 (next_text file r)) ∷ ps)

-- `start`'s part and then those, joined, are the report, for every file and whatever buffers had the room
abbrev pub WholeReport : Type 0
WholeReport =
    (file out : List ℕ) (p : Part) (ps : List (List ℕ)) → first_part file (length out) ≡ Ok p → Parts file p.replay ps
    → take p.written (put_at out 0 (first_text file)) ++ flatten ps ≡ report file

-- ---- the room

-- numbers of 2, 4 and 1 digits, four spaces and an LF, two fields of 3 for each of 16,384 octets, and STOPPED with its LF
unfoldable pub most_part : ℕ
most_part = 98324

-- no part is longer than that
abbrev pub PartMost : Type 0
PartMost = (file : List ℕ) → (length (first_text file) ≤ most_part) × ((r : Replay) → length (next_text file r) ≤ most_part)

-- with that much room no part lacks it
abbrev pub RoomEnough : Type 0
RoomEnough =
    (file : List ℕ) (room : ℕ) → most_part ≤ room
    → ((p : Part) × (first_part file room ≡ Ok p)) × ((r : Replay) → next_part file r room ≡ Err NoPart.NoRoom → ⊥)

-- ---- how it goes on

-- where calls of `start` and `next` lead, with any room; after a call that wrote no part the replay stands where it stood
pub data Reached (file : List ℕ) : Replay → Type 0 where
  started : {p : Part} (room : ℕ) → first_part file room ≡ Ok p → Reached file p.replay
  called : {r : Replay} {p : Part} (room : ℕ) → Reached file r → next_part file r room ≡ Ok p → Reached file p.replay

-- while an entry is left, a call with that much room writes its part
abbrev pub NextWritten : Type 0
NextWritten =
    (file : List ℕ) (r : Replay) (room : ℕ) → Reached file r → 1 ≤ r.left → most_part ≤ room
    → (p : Part) × (next_part file r room ≡ Ok p)

-- `start`'s part is followed by at most 48
abbrev pub FewParts : Type 0
FewParts =
    (file : List ℕ) (room : ℕ) (p : Part) (ps : List (List ℕ)) → first_part file room ≡ Ok p → Parts file p.replay ps
    → length ps ≤ 48

-- and with a buffer of that size there are such parts: WholeReport is no empty promise
abbrev pub AllWritten : Type 0
AllWritten =
    (file out : List ℕ) → most_part ≤ length out
    → (p : Part) × ((first_part file (length out) ≡ Ok p) × ((ps : List (List ℕ)) × Parts file p.replay ps))
