-- A replay writes the report of a session file part by part: the header or the refusal, then the line of each entry.
use Rattle.std.specs.Prelude.{Result, Ok, Err, is_ok, Bool, ◌&&◌, not, List, [], ◌++◌, ℕ, ◌+◌, ◌-◌, ◌*◌, eqb, leb, ltb, length, take, drop}
use Rattle.rules.specs.Octets.{oct, choose}
use Rattle.setups.specs.Setups.{dead_session}
use Rattle.files.specs.declared.FileFault.{FileFault}
use Rattle.files.specs.Contents.{Entry, entry_of, count, table_end, verdict, verdict_number}
use Rattle.fields.specs.Report.{Done, run_entry, entry_line, header_line, refused_line}
use Rattle.report.specs.declared.NoPart.{NoPart}
use Rattle.report.specs.declared.Replay.{Replay}
use Rattle.report.specs.declared.Part.{Part}

-- ---- a part

-- a text that has room is written and the replay goes on; one that has none is not
unfoldable pub part_of : List ℕ → ℕ → Replay → Result Part NoPart
part_of text room then =
    choose (leb (length text) room) (Ok (record { written = length text; replay = then })) (Err NoPart.NoRoom)

-- ---- the first part

-- "the single line `REFUSED 7` .. or `REFUSED 8`", or "a header with the entry count"
unfoldable pub first_text_by : Result Unit FileFault → List ℕ → List ℕ
first_text_by (Err fault) file = refused_line (verdict_number (Err fault))
first_text_by (Ok done) file = header_line (count file)

-- the text of a file's first part
unfoldable pub first_text : List ℕ → List ℕ
first_text file = first_text_by (verdict file) file

-- no entry is left
unfoldable pub no_replay : Replay
no_replay = record { session = dead_session; number = 0; body = 0; left = 0 }

-- all entries are left: "A table of contents first, then the bodies"
unfoldable pub first_replay_by : Result Unit FileFault → List ℕ → Replay
first_replay_by (Err fault) file = no_replay
first_replay_by (Ok done) file =
    record { session = dead_session; number = 0; body = table_end file; left = count file }

-- where the replay of a file stands after its first part
unfoldable pub first_replay : List ℕ → Replay
first_replay file = first_replay_by (verdict file) file

-- the first part of a file, by the room in the buffer
unfoldable pub first_part : List ℕ → ℕ → Result Part NoPart
first_part file room = part_of (first_text file) room (first_replay file)

-- ---- the part of an entry

-- the table's entry at which the replay stands
abbrev pub entry_at : List ℕ → Replay → Entry
entry_at file r = entry_of (drop (2 + 4 * r.number) file)

-- a file of this verdict is not refused
abbrev pub is_accepted : Result Unit FileFault → Bool
is_accepted v = is_ok v

-- an entry is left, and it and its body lie within a file that is not refused
unfoldable pub is_due : List ℕ → Replay → Bool
is_due file r =
    not (eqb r.left 0) && is_accepted (verdict file) && ltb r.number (count file)
    && leb (r.body + (entry_at file r).length) (length file)

-- what the entry does at which the replay stands
unfoldable pub done_at : List ℕ → Replay → Done
done_at file r = run_entry r.session (entry_at file r).kind (take (entry_at file r).length (drop r.body file))

-- "After an answer other than 0 it writes `STOPPED` and no more"
unfoldable pub entry_text : ℕ → Done → List ℕ
entry_text n d = entry_line n d ++ choose (eqb d.number 0) [] (oct "STOPPED\n")

-- the text of that entry's part: nothing where none is due
unfoldable pub next_text : List ℕ → Replay → List ℕ
next_text file r = choose (is_due file r) (entry_text r.number (done_at file r)) []

-- the entries left after one: "After an answer other than 0 .. no more"
unfoldable pub left_after : ℕ → ℕ → ℕ
left_after answer left = choose (eqb answer 0) (left - 1) 0

-- "Bodies follow without gaps"
unfoldable pub next_replay : List ℕ → Replay → Replay
next_replay file r =
    let d = done_at file r in
    record {
      session = d.session;
      number = r.number + 1;
      body = r.body + (entry_at file r).length;
      left = left_after d.number r.left;
    }

-- the part of that entry, by the room in the buffer; where none is due, the replay is over
unfoldable pub next_part : List ℕ → Replay → ℕ → Result Part NoPart
next_part file r room =
    choose (is_due file r) (part_of (next_text file r) room (next_replay file r)) (Err NoPart.Over)
