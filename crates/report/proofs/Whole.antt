-- The parts joined are the report, and they are few.
use mathlib.Core.Path.{◌≡◌, refl, sym, ap, ◌∙◌}
use mathlib.Core.Bool.{Bool, true, false}
use mathlib.Core.List.{List, ◌++◌, append-nil, append_assoc, flatten}
use Prim.Native.Nat.{ℕ, ◌+◌, ◌-◌, ◌<◌, ◌≤◌}
use native.Mathlib.Omega.{arith}
use lib.Dec.{eqb}
use lib.ListN.{length}
use Rattle.rules.specs.Octets.{choose}
use Rattle.std.specs.Prelude.{Result, Ok, Err}
use Rattle.files.specs.declared.FileFault.{FileFault}
use Rattle.files.specs.Contents.{table_of, verdict, verdict_number}
use Rattle.fields.specs.Report.{accepted_report, refused_line, report_by, report}
use Rattle.files.proofs.Accepted.{accepted}
use Rattle.report.specs.declared.NoPart.{NoPart}
use Rattle.report.specs.declared.Replay.{Replay}
use Rattle.report.specs.declared.Part.{Part}
use Rattle.report.specs.Replays.{no_replay, first_text_by, first_text, first_replay_by, first_replay, done_at, next_text, left_after, next_replay, next_part}
use Rattle.report.specs.Whole.{Parts, no_parts, more, WholeReport, FewParts}
use Rattle.report.proofs.Due.{due}
use Rattle.report.proofs.Standing.{first-wrote, next-wrote, front-text, Stands, call-stands, part-stands, rest_text, rest-none, rest-next}

-- ---- the parts of the entries

entries-joined : {file : List ℕ} {r : Replay} {ps : List (List ℕ)} → Stands file r → Parts file r ps → flatten ps ≡ rest_text file r
unfolding flatten
entries-joined {file} {r} s (no_parts h) = sym (rest-none file r h)
entries-joined {file} {r} s (more {p = p} {ps = ps} out h rest) =
    let w = next-wrote file r (length out) h in
    let some = (due file r w.0).some in
    let text = front-text out (next_text file r) w.1.fits w.1.written in
    let behind : flatten ps ≡ rest_text file (next_replay file r) = entries-joined (call-stands file r (length out) h s) rest ∙ ap (rest_text file) w.1.replay in
    rw (text, behind) (sym (rest-next file r (s some) some))

-- ---- the report

by-verdict : (file : List ℕ) (v : Result Unit FileFault) → first_text_by v file ++ rest_text file (first_replay_by v file) ≡ report_by v file
unfolding first_text_by first_replay_by no_replay report_by verdict_number accepted_report rest_text table_of
by-verdict file (Err fault) =
    let line = refused_line (verdict_number (Err fault)) in ap (λ (l : List ℕ). line ++ l) (rest-none file no_replay refl) ∙ append-nil line
by-verdict file (Ok tt) = simp append_assoc

first-joined : (file : List ℕ) → first_text file ++ rest_text file (first_replay file) ≡ report file
unfolding first_text first_replay report
first-joined file = by-verdict file (verdict file)

pub whole-report : WholeReport
whole-report file out p ps h rest =
    let w = first-wrote file (length out) h in
    let text = front-text out (first_text file) w.fits w.written in
    let behind : flatten ps ≡ rest_text file (first_replay file) = entries-joined (part-stands file (length out) h) rest ∙ ap (rest_text file) w.replay in
    rw (text, behind) (first-joined file)

-- ---- how many

by-test : (left : ℕ) (b : Bool) → 1 ≤ left → choose b (left - 1) 0 + 1 ≤ left
unfolding choose
by-test left true h = omega arith
by-test left false h = omega arith

pub after_less : (answer left : ℕ) → 1 ≤ left → left_after answer left + 1 ≤ left
unfolding left_after
after_less answer left h = by-test left (eqb answer 0) h

parts-left : {file : List ℕ} {r : Replay} {ps : List (List ℕ)} → Parts file r ps → length ps ≤ r.left
unfolding next_replay
parts-left (no_parts h) = omega arith
parts-left {file} {r} (more {ps = ps} out h rest) =
    let w = next-wrote file r (length out) h in
    let less = parts-left rest in
    let then = ap (λ (x : Replay). x.left) w.1.replay in
    omega (arith, after_less (done_at file r).number r.left (due file r w.0).some)

-- the calls of `next` that a result leaves: one for each entry left, and the one that says that none is
abbrev pub calls_left : Result Part NoPart → ℕ
calls_left (Ok p) = p.replay.left + 1
calls_left (Err why) = 0

fewer-by : (file : List ℕ) (r : Replay) (room : ℕ) (q : Result Part NoPart) → next_part file r room ≡ q → calls_left q < r.left + 1
unfolding next_replay
fewer-by file r room (Ok p) e =
    let w = next-wrote file r room e in
    omega (arith, ap (λ (x : Replay). x.left) w.1.replay, after_less (done_at file r).number r.left (due file r w.0).some)
fewer-by file r room (Err why) e = omega arith

pub fewer-calls : (file : List ℕ) (r : Replay) (room : ℕ) → calls_left (next_part file r room) < r.left + 1
fewer-calls file r room = fewer-by file r room (next_part file r room) refl

first-few : (file : List ℕ) (v : Result Unit FileFault) → verdict file ≡ v → (first_replay_by v file).left ≤ 48
unfolding first_replay_by no_replay
first-few file (Err fault) e = omega arith
first-few file (Ok tt) e = (accepted file e).few

first-left : (file : List ℕ) → (first_replay file).left ≤ 48
unfolding first_replay
first-left file = first-few file (verdict file) refl

pub few-parts : FewParts
few-parts file room p ps h rest =
    omega (arith, parts-left rest, ap (λ (x : Replay). x.left) (first-wrote file room h).replay, first-left file)
