-- What a call that wrote a part shows, and what holds of every replay that calls lead to.
use mathlib.Core.Path.{◌≡◌, refl, sym, ap, ◌∙◌}
use mathlib.Core.Bool.{Bool, true, false}
use mathlib.Core.List.{List, [], ◌∷◌, ◌++◌, append-nil}
use Prim.Native.Nat.{ℕ, suc, ◌+◌, ◌-◌, ◌*◌, ◌≤◌}
use native.Mathlib.Numerals.{add-one}
use native.Mathlib.Omega.{arith}
use lib.Dec.{eqb, leb}
use lib.ListN.{length, take, drop}
use lib.Seq.{drop-drop}
use borrow.Author.Tests.{ne_eqb, lt-ltb, le-leb, leb-true}
use Rattle.rules.specs.Octets.{oct, choose}
use Rattle.output.specs.Buffer.{put_at}
use Rattle.output.proofs.Placing.{take-put-at}
use Rattle.records.specs.declared.Session.{Session}
use Rattle.std.specs.Prelude.{Result, Ok, Err}
use Rattle.files.specs.declared.FileFault.{FileFault}
use Rattle.files.specs.Contents.{Entry, entries, count, table_of, bodies_length, verdict}
use Rattle.fields.specs.Report.{entry_line, entry_lines}
use Rattle.files.proofs.Tables.{entries_next}
use Rattle.files.proofs.Accepted.{accepted}
use Rattle.report.specs.declared.NoPart.{NoPart}
use Rattle.report.specs.declared.Replay.{Replay}
use Rattle.report.specs.declared.Part.{Part}
use Rattle.report.specs.Replays.{part_of, no_replay, first_replay_by, first_replay, first_text, first_part, entry_at, is_due, done_at, entry_text, next_text, left_after, next_replay, next_part}
use Rattle.report.specs.Whole.{Reached, started, called}
use Rattle.report.proofs.Due.{due}
use Rattle.report.proofs.Parts.{due-text, due-part}

-- ---- a part that was written

-- it had room, and the replay goes on behind it
pub record Wrote (p : Part) (text : List ℕ) (room : ℕ) (then : Replay) : Type 0 where
  pub fits : length text ≤ room
  pub written : p.written ≡ length text
  pub replay : p.replay ≡ then

abbrev pub whole : List ℕ → Replay → Part
whole text then = record { written = length text; replay = then }

by-room : (text : List ℕ) (room : ℕ) (then : Replay) {p : Part} (b : Bool) → leb (length text) room ≡ b
    → choose b (Ok (whole text then)) (Err NoPart.NoRoom) ≡ Ok p → Wrote p text room then
unfolding choose
by-room text room then {p} true t e =
    let same : whole text then ≡ p = cc in record { fits = leb-true (length text) room t; written = rw (← same); replay = rw (← same) }
by-room text room then false t e = absurd (let z : ◌≡◌ {A = ℕ} 0 1 = cc in omega arith)

part-wrote : (text : List ℕ) (room : ℕ) (then : Replay) {p : Part} → part_of text room then ≡ Ok p → Wrote p text room then
unfolding part_of
part-wrote text room then h = by-room text room then (leb (length text) room) refl h

pub first-wrote : (file : List ℕ) (room : ℕ) {p : Part} → first_part file room ≡ Ok p → Wrote p (first_text file) room (first_replay file)
unfolding first_part
first-wrote file room h = part-wrote (first_text file) room (first_replay file) h

module _ (file : List ℕ) (r : Replay) (room : ℕ) {p : Part} where
  by-due : (b : Bool) → is_due file r ≡ b → next_part file r room ≡ Ok p → is_due file r ≡ true
  unfolding next_part choose
  by-due true t e = t
  by-due false t e = let o : Err NoPart.Over ≡ Ok p = rw t at e in absurd (let z : ◌≡◌ {A = ℕ} 0 1 = cc in omega arith)

  pub next-wrote : next_part file r room ≡ Ok p → (is_due file r ≡ true) × Wrote p (next_text file r) room (next_replay file r)
  next-wrote h =
      let d = by-due (is_due file r) refl h in
      (d, part-wrote (next_text file r) room (next_replay file r) (sym (due-part file r d room) ∙ h))

-- what lies at the front of the buffer is the text
pub front-text : (out text : List ℕ) {n : ℕ} → length text ≤ length out → n ≡ length text → take n (put_at out 0 text) ≡ text
front-text out text h e =
    let all : 0 + length text ≡ length text = omega arith in
    rw (e, ← all) (take-put-at out 0 text (omega arith))

-- ---- where an entry is left

pub record Going (file : List ℕ) (r : Replay) : Type 0 where
  pub right : verdict file ≡ Ok tt
  pub numbers : r.number + r.left ≡ count file
  pub bodies : r.body + bodies_length (entries r.left (drop (2 + 4 * r.number) file)) ≡ length file

abbrev pub Stands : List ℕ → Replay → Type 0
Stands file r = 1 ≤ r.left → Going file r

by-verdict : (file : List ℕ) (v : Result Unit FileFault) → verdict file ≡ v → Stands file (first_replay_by v file)
unfolding first_replay_by no_replay table_of
by-verdict file (Err fault) e h = absurd (omega arith)
by-verdict file (Ok tt) e h = record { right = e; numbers = omega arith; bodies = sym (accepted file e).total }

first-stands : (file : List ℕ) → Stands file (first_replay file)
unfolding first_replay
first-stands file = by-verdict file (verdict file) refl

-- the entries left are the next one and the others
module _ (file : List ℕ) (r : Replay) (g : Going file r) (some : 1 ≤ r.left) where
  abbrev others : List Entry
  others = entries (r.left - 1) (drop (2 + 4 * r.number + 4) file)

  listed : entries r.left (drop (2 + 4 * r.number) file) ≡ entry_at file r ∷ others
  listed = entries_next file (2 + 4 * r.number) r.left (omega arith)

  split : bodies_length (entries r.left (drop (2 + 4 * r.number) file)) ≡ (entry_at file r).length + bodies_length others
  unfolding bodies_length
  split = rw listed

  pub is-due : is_due file r ≡ true
  unfolding is_due
  is-due =
      rw (ne_eqb r.left 0 (λ (z : r.left ≡ 0). omega arith), g.right, lt-ltb r.number (count file) (omega (arith, g.numbers)), le-leb (r.body + (entry_at file r).length) (length file) (omega (arith, g.bodies, split)))

left-some : (answer left : ℕ) (b : Bool) → 1 ≤ choose b (left - 1) 0 → choose b (left - 1) 0 ≡ left - 1
unfolding choose
left-some answer left true h = refl
left-some answer left false h = absurd (omega arith)

-- where an entry is left behind this one
next-stands : (file : List ℕ) (r : Replay) → Going file r → 1 ≤ r.left → Stands file (next_replay file r)
unfolding next_replay left_after
next-stands file r g some h =
    let less : choose (eqb (done_at file r).number 0) (r.left - 1) 0 ≡ r.left - 1 = left-some (done_at file r).number r.left (eqb (done_at file r).number 0) h in
    let place : 2 + 4 * (r.number + 1) ≡ 2 + 4 * r.number + 4 = omega arith in
    record {
      right = g.right;
      numbers = rw less (omega (arith, g.numbers));
      bodies = rw (less, place) (omega (arith, g.bodies, split file r g some));
    }

-- ---- of every replay that calls lead to

pub after-stands : (file : List ℕ) (r : Replay) → is_due file r ≡ true → Stands file r → Stands file (next_replay file r)
after-stands file r d s = let some = (due file r d).some in next-stands file r (s some) some

pub call-stands : (file : List ℕ) (r : Replay) (room : ℕ) {p : Part} → next_part file r room ≡ Ok p → Stands file r → Stands file p.replay
call-stands file r room h s = let w = next-wrote file r room h in rw w.1.replay (after-stands file r w.0 s)

pub part-stands : (file : List ℕ) (room : ℕ) {p : Part} → first_part file room ≡ Ok p → Stands file p.replay
part-stands file room h = rw (first-wrote file room h).replay (first-stands file)

pub reached-stands : (file : List ℕ) (r : Replay) → Reached file r → Stands file r
reached-stands file r (started room h) = part-stands file room h
reached-stands file r (called {r = before} room before-reached h) = call-stands file before room h (reached-stands file before before-reached)

-- ---- what is left of the report

unfoldable pub rest_text : List ℕ → Replay → List ℕ
rest_text file r = entry_lines r.session r.number (entries r.left (drop (2 + 4 * r.number) file)) (drop r.body file)

lines_none : (s : Session) (n left : ℕ) (table bodies : List ℕ) → left ≡ 0 → entry_lines s n (entries left table) bodies ≡ []
unfolding entries entry_lines
lines_none s n left table bodies h = rw h

pub rest-none : (file : List ℕ) (r : Replay) → r.left ≡ 0 → rest_text file r ≡ []
unfolding rest_text
rest-none file r h = lines_none r.session r.number r.left (drop (2 + 4 * r.number) file) (drop r.body file) h

-- a line, STOPPED or the lines behind it
by_answer : (line rest : List ℕ) (b : Bool) → line ++ choose b rest (oct "STOPPED\n") ≡ (line ++ choose b [] (oct "STOPPED\n")) ++ choose b rest []
unfolding choose
by_answer line rest true = rw (append-nil line)
by_answer line rest false = sym (append-nil (line ++ oct "STOPPED\n"))

rest-after : (file : List ℕ) (s : Session) (n left size body : ℕ) (b : Bool)
    → choose b (entry_lines s (suc n) (entries (left - 1) (drop (2 + 4 * n + 4) file)) (drop size (drop body file))) []
    ≡ entry_lines s (n + 1) (entries (choose b (left - 1) 0) (drop (2 + 4 * (n + 1)) file)) (drop (body + size) file)
unfolding choose entries entry_lines
rest-after file s n left size body true =
    let place : 2 + 4 * suc n ≡ 2 + 4 * n + 4 = omega arith in
    rw (add-one n, place, drop-drop size body file)
rest-after file s n left size body false = refl

pub rest-next : (file : List ℕ) (r : Replay) → Going file r → 1 ≤ r.left → rest_text file r ≡ next_text file r ++ rest_text file (next_replay file r)
unfolding rest_text entry_lines entry_text next_replay left_after done_at
rest-next file r g some =
    let d = done_at file r in
    rw (due-text file r (is-due file r g some), listed file r g some)
    (by_answer (entry_line r.number d) _ (eqb d.number 0)
    ∙ ap (λ (l : List ℕ). entry_text r.number d ++ l) (rest-after file d.session r.number r.left (entry_at file r).length r.body (eqb d.number 0)))
