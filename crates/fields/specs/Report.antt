-- "It writes a header with the entry count, then per entry .."
use Rattle.std.specs.Prelude.{Result, Ok, Err, Bool, ◌&&◌, not, List, [], ◌∷◌, ◌++◌, ℕ, zero, suc, ◌+◌, ◌/◌, ◌%◌, eqb, ltb, take, drop}
use Rattle.rules.specs.Octets.{oct, lf, space, choose, is_empty, within, decimal}
use Rattle.rules.specs.Answers.{answer_number}
use Rattle.records.specs.declared.Session.{Session}
use Rattle.setups.specs.Setups.{prepared_from, dead_session}
use Rattle.session.specs.Calls.{Outcome, arrived, end_called}
use Rattle.files.specs.declared.FileFault.{FileFault}
use Rattle.files.specs.Contents.{Entry, count, table_end, table_of, verdict, verdict_number}

-- "The replay uses 16,384 octets for each out buffer, emptied per entry"
unfoldable pub out_room : ℕ
out_room = 16384

-- ---- fields

-- a lower-case hex digit
unfoldable pub hex_glyph : ℕ → ℕ
hex_glyph n = choose (ltb n 10) (48 + n) (87 + n)

-- "Octets 33 to 126 but `-` and `\` stand as themselves, others as `\` and two lower-case hex digits"
unfoldable pub stands_as_itself : ℕ → Bool
stands_as_itself x = within 33 126 x && not (eqb x 45) && not (eqb x 92)

-- an octet in a field: itself, or "`\` and two lower-case hex digits"
unfoldable pub shown : ℕ → List ℕ
shown x = choose (stands_as_itself x) (x ∷ []) (92 ∷ hex_glyph (x / 16) ∷ hex_glyph (x % 16) ∷ [])

-- octets in a field, one behind the other
unfoldable pub shown_all : List ℕ → List ℕ
shown_all [] = []
shown_all (x ∷ xs) = shown x ++ shown_all xs

-- "empty is `-`"
unfoldable pub field : List ℕ → List ℕ
field xs = choose (is_empty xs) (oct "-") (shown_all xs)

-- ---- an entry

-- what an entry did: octets taken, the answer's number, what was written, and the record then
pub record Done : Type 0 where
  pub taken : ℕ
  pub number : ℕ
  pub to_server : List ℕ
  pub to_client : List ℕ
  pub session : Session

-- what an arrival or an end did
abbrev pub done_by : Outcome → Done
done_by o =
    record {
      taken = o.called.taken;
      number = answer_number o.called.answer;
      to_server = o.to_server;
      to_client = o.to_client;
      session = o.called.session;
    }

-- what a setup did, by its body: "the client's IPv6 address .., its mapped IPv4 address .. and a flag octet"
unfoldable pub set_up : List ℕ → Done
set_up body =
    let p = prepared_from body in
    record { taken = 0; number = answer_number p.answer; to_server = []; to_client = []; session = p.session }

-- kinds 0 and 1 are arrivals, 2 and 3 ends, 4 the setup
unfoldable pub run_entry : Session → ℕ → List ℕ → Done
run_entry s zero body = done_by (arrived s 0 body out_room out_room)
run_entry s (suc zero) body = done_by (arrived s 1 body out_room out_room)
run_entry s (suc (suc zero)) body = done_by (end_called s 0 out_room out_room)
run_entry s (suc (suc (suc zero))) body = done_by (end_called s 1 out_room out_room)
run_entry s (suc (suc (suc (suc k)))) body = set_up body

-- "number, taken (0 for setup and ends), answer, octets to the server, octets to the client"
unfoldable pub entry_line : ℕ → Done → List ℕ
entry_line n d =
    decimal n ++ (space ∷ decimal d.taken ++ (space ∷ decimal d.number ++ (space ∷ field d.to_server ++ (space ∷ field d.to_client ++ (lf ∷ [])))))

-- "After an answer other than 0 it writes `STOPPED` and no more"
unfoldable pub entry_lines : Session → ℕ → List Entry → List ℕ → List ℕ
entry_lines s n [] bodies = []
entry_lines s n (e ∷ es) bodies =
    let d = run_entry s e.kind (take e.length bodies) in
    let more = entry_lines d.session (suc n) es (drop e.length bodies) in
    entry_line n d ++ choose (eqb d.number 0) more (oct "STOPPED\n")

-- ---- the report

-- "a header with the entry count"
abbrev pub header_line : ℕ → List ℕ
header_line count = oct "FTP64 REPORT " ++ (decimal count ++ (lf ∷ []))

-- "then per entry .."
unfoldable pub accepted_report : List ℕ → List ℕ
accepted_report file = header_line (count file) ++ entry_lines dead_session 0 (table_of file) (drop (table_end file) file)

-- "Refused by the single line `REFUSED 7` .. or `REFUSED 8`"
unfoldable pub refused_line : ℕ → List ℕ
refused_line number = oct "REFUSED " ++ (decimal number ++ (lf ∷ []))

-- the single line of a refusal, or the report of a file that is not refused
unfoldable pub report_by : Result Unit FileFault → List ℕ → List ℕ
report_by (Err fault) file = refused_line (verdict_number (Err fault))
report_by (Ok done) file = accepted_report file

-- what the replay writes for a file
unfoldable pub report : List ℕ → List ℕ
report file = report_by (verdict file) file

-- this page's definitions, for a proof that computes with them
unfoldable pub report-opened : Unit {0}
unfolding out_room hex_glyph stands_as_itself shown shown_all field set_up run_entry entry_line entry_lines accepted_report refused_line report_by report
report-opened = tt
