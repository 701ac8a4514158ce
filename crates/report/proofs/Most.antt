-- How long a part is at most, and that a buffer of that size never lacks room.
use mathlib.Core.Path.{◌≡◌, refl, ◌∙◌}
use mathlib.Core.Bool.{Bool, true, false}
use mathlib.Core.List.{List, [], ◌∷◌}
use Rattle.std.specs.Prelude.{Option, None, Some}
use Prim.Native.Nat.{ℕ, zero, suc, ◌*◌, ◌/◌, ◌%◌, ◌<◌, ◌≤◌}
use native.Mathlib.Omega.{arith}
use lib.Dec.{eqb, leb}
use lib.ListN.{length, take, drop, length-append}
use borrow.Author.Tests.{le-leb, leb-true, eqb-true, eqb-false}
use Rattle.rules.specs.Octets.{oct, choose}
use Rattle.rules.specs.Answers.{Side, side_of, fits, answer_number}
use Rattle.rules.specs.declared.Answer.{Answer}
use Rattle.rules.specs.declared.Answer.TheVariants as a
use Rattle.output.proofs.Decimal.{decimal-most}
use Rattle.records.specs.declared.Session.{Session}
use Rattle.steps.specs.Steps.{Step}
use Rattle.setups.specs.Setups.{prepared_from}
use Rattle.session.specs.Calls.{Outcome, refused, unless_refused, outcome, state_of, arrived, end_step, end_outcome, end_called}
use Rattle.records.specs.Sound.{refusal_of}
use Rattle.steps.specs.Takes.{takes}
use Rattle.octets.proofs.Ranges.{and_both}
use Rattle.steps.proofs.Fits.{takes-fit}
use Rattle.std.specs.Prelude.{Result, Ok, Err}
use Rattle.files.specs.declared.FileFault.{FileFault}
use Rattle.files.specs.declared.FileFault.TheVariants.{WrongLength, WrongTable}
use Rattle.files.specs.Contents.{count, verdict, verdict_number}
use Rattle.fields.specs.Report.{Done, out_room, stands_as_itself, hex_glyph, shown, shown_all, field, set_up, run_entry, done_by}
use Rattle.fields.proofs.Fields.{line-of-parts, line-length, header-length, refused-length}
use Rattle.files.proofs.Accepted.{accepted}
use Rattle.report.specs.declared.NoPart.{NoPart}
use Rattle.report.specs.declared.Replay.{Replay}
use Rattle.report.specs.Replays.{part_of, first_text_by, first_text, first_part, first_replay, entry_at, is_due, done_at, entry_text, next_text, next_replay, next_part}
use Rattle.report.specs.Whole.{Parts, most_part, PartMost, RoomEnough, Reached, NextWritten, AllWritten}
use Rattle.report.specs.Whole as parts
use Rattle.report.proofs.Due.{due}
use Rattle.report.proofs.Runs.{told-arrived, told-ended}
use Rattle.report.proofs.Parts.{due-part}
use Rattle.report.proofs.Standing.{Stands, whole, is-due, reached-stands, part-stands, after-stands}
use Rattle.report.proofs.Whole.{after_less}

-- ---- fields

shown_by : (x : ℕ) (b : Bool) → length (choose b (x ∷ []) (92 ∷ hex_glyph (x / 16) ∷ hex_glyph (x % 16) ∷ [])) ≤ 3
unfolding choose
shown_by x true = omega arith
shown_by x false = omega arith

shown-most : (x : ℕ) → length (shown x) ≤ 3
unfolding shown
shown-most x = shown_by x (stands_as_itself x)

all_most : (xs : List ℕ) → length (shown_all xs) ≤ 3 * length xs
unfolding shown_all
all_most [] = omega arith
all_most (x ∷ xs) = rw length-append (omega (arith, shown-most x, all_most xs))

field-most : (xs : List ℕ) (n : ℕ) → 1 ≤ n → length xs ≤ n → length (field xs) ≤ 3 * n
unfolding field choose
field-most [] n h k = omega arith
field-most (x ∷ xs) n h k = omega (arith, all_most (x ∷ xs))

-- ---- what an entry did

answer-most : (r : Answer) → answer_number r ≤ 6
answer-most a.Done = omega arith
answer-most a.QueueFull = omega arith
answer-most a.NoRoom = omega arith
answer-most a.UnknownDirection = omega arith
answer-most a.BadRecord = omega arith
answer-most a.BadSetup = omega arith
answer-most a.DirectionEnded = omega arith

-- a call writes at most what its buffers have room for
record Roomy (o : Outcome) (m n : ℕ) : Type 0 where
  server : length o.to_server ≤ m
  client : length o.to_client ≤ n

roomy-unless : (r : Option Answer) (s : Session) (o : Outcome) (m n : ℕ) → Roomy o m n → Roomy (unless_refused r s o) m n
unfolding unless_refused refused
roomy-unless None s o m n w = w
roomy-unless (Some x) s o m n w = record { server = omega arith; client = omega arith }

roomy-arrived : (s : Session) (d : ℕ) (octets : List ℕ) (m n : ℕ) → Roomy (arrived s d octets m n) m n
unfolding arrived outcome
roomy-arrived s d octets m n =
    let t = takes s.fixed (side_of d) (state_of s) octets m n in
    let w = takes-fit s.fixed (side_of d) (state_of s) octets m n in
    roomy-unless (refusal_of s d) s (outcome s (side_of d) t) m n (record { server = w.server; client = w.client })

roomy-end : (s : Session) (d : Side) (t : Step) (m n : ℕ) (b : Bool) → fits t.to_server t.to_client m n ≡ b → Roomy (end_outcome s d t b) m n
unfolding end_outcome outcome refused fits
roomy-end s d t m n true e =
    let w = and_both (leb (length t.to_server) m) (leb (length t.to_client) n) e in
    record { server = leb-true (length t.to_server) m w.0; client = leb-true (length t.to_client) n w.1 }
roomy-end s d t m n false e = record { server = omega arith; client = omega arith }

roomy-ended : (s : Session) (d m n : ℕ) → Roomy (end_called s d m n) m n
unfolding end_called
roomy-ended s d m n =
    let t = end_step (side_of d) (state_of s) in
    let b = fits t.to_server t.to_client m n in
    roomy-unless (refusal_of s d) s (end_outcome s (side_of d) t b) m n (roomy-end s (side_of d) t m n b refl)

record Small (d : Done) (n : ℕ) : Type 0 where
  taken : d.taken ≤ n
  number : d.number ≤ 6
  server : length d.to_server ≤ 16384
  client : length d.to_client ≤ 16384

small-arrival : (s : Session) (k : ℕ) (body : List ℕ) → Small (done_by (arrived s k body out_room out_room)) (length body)
unfolding out_room
small-arrival s k body =
    let w = roomy-arrived s k body out_room out_room in
    record {
      taken = (told-arrived s k body out_room out_room).taken;
      number = answer-most (arrived s k body out_room out_room).called.answer;
      server = w.server;
      client = w.client;
    }

small-end : (s : Session) (k n : ℕ) → Small (done_by (end_called s k out_room out_room)) n
unfolding out_room
small-end s k n =
    let w = roomy-ended s k out_room out_room in
    record {
      taken = omega (arith, (told-ended s k out_room out_room).taken);
      number = answer-most (end_called s k out_room out_room).called.answer;
      server = w.server;
      client = w.client;
    }

small-entry : (s : Session) (k : ℕ) (body : List ℕ) → Small (run_entry s k body) (length body)
unfolding run_entry set_up
small-entry s zero body = small-arrival s 0 body
small-entry s (suc zero) body = small-arrival s 1 body
small-entry s (suc (suc zero)) body = small-end s 0 (length body)
small-entry s (suc (suc (suc zero))) body = small-end s 1 (length body)
small-entry s (suc (suc (suc (suc k)))) body =
    record { taken = omega arith; number = answer-most (prepared_from body).answer; server = omega arith; client = omega arith }

-- ---- the parts

stop-most : (b : Bool) → length (choose b [] (oct "STOPPED\n")) ≤ 8
unfolding choose
stop-most true = omega arith
stop-most false = omega arith

text-most : (n : ℕ) (d : Done) (m : ℕ) → n < 100 → m < 10000 → Small d m → length (entry_text n d) ≤ most_part
unfolding entry_text most_part
text-most n d m h k w =
    rw (length-append, ← line-of-parts n d, line-length n d.taken d.number d.to_server d.to_client)
    (omega (arith, stop-most (eqb d.number 0), decimal-most 1 n (omega arith), decimal-most 3 d.taken (omega (arith, w.taken)), decimal-most 0 d.number (omega (arith, w.number)), field-most d.to_server 16384 (omega arith) w.server, field-most d.to_client 16384 (omega arith) w.client))

take-most : (n : ℕ) (l : List ℕ) → length (take n l) ≤ n
take-most zero l = omega arith
take-most (suc n) [] = omega arith
take-most (suc n) (x ∷ l) = omega (arith, take-most n l)

next-most : (file : List ℕ) (r : Replay) (b : Bool) → is_due file r ≡ b → length (next_text file r) ≤ most_part
unfolding done_at next_text choose most_part
next-most file r true e =
    let d = due file r e in
    let body = take (entry_at file r).length (drop r.body file) in
    rw e (text-most r.number (done_at file r) (length body) (omega (arith, d.number)) (omega (arith, take-most (entry_at file r).length (drop r.body file), d.right.most))
    (small-entry r.session (entry_at file r).kind body))
next-most file r false e = rw e (omega arith)

first-most : (file : List ℕ) (v : Result Unit FileFault) → verdict file ≡ v → length (first_text_by v file) ≤ most_part
unfolding first_text_by verdict_number most_part
first-most file (Err WrongLength) e = omega (arith, refused-length 7, decimal-most 0 7 (omega arith))
first-most file (Err WrongTable) e = omega (arith, refused-length 8, decimal-most 0 8 (omega arith))
first-most file (Ok tt) e = omega (arith, header-length (count file), decimal-most 1 (count file) (omega (arith, (accepted file e).few)))

pub part-most : PartMost
unfolding first_text
part-most file = (first-most file (verdict file) refl, λ r. next-most file r (is_due file r) refl)

-- ---- the room

part-written : (text : List ℕ) (room : ℕ) (then : Replay) → length text ≤ room → part_of text room then ≡ Ok (whole text then)
unfolding part_of choose
part-written text room then h = rw (le-leb (length text) room h)

due-written : (file : List ℕ) (r : Replay) (room : ℕ) → most_part ≤ room → is_due file r ≡ true
    → next_part file r room ≡ Ok (whole (next_text file r) (next_replay file r))
due-written file r room h d =
    due-part file r d room ∙ part-written (next_text file r) room (next_replay file r) (omega (arith, (part-most file).1 r))

never-full : (file : List ℕ) (r : Replay) (room : ℕ) → most_part ≤ room → (b : Bool) → is_due file r ≡ b → next_part file r room ≡ Err NoPart.NoRoom → ⊥
unfolding next_part choose
never-full file r room h true d e = let w = due-written file r room h d in let z : ◌≡◌ {A = ℕ} 0 1 = cc in omega arith
never-full file r room h false d e = let o : Err NoPart.Over ≡ Err NoPart.NoRoom = rw d at e in let z : ◌≡◌ {A = ℕ} 0 1 = cc in omega arith

first-written : (file : List ℕ) (room : ℕ) → most_part ≤ room → first_part file room ≡ Ok (whole (first_text file) (first_replay file))
unfolding first_part
first-written file room h = part-written (first_text file) room (first_replay file) (omega (arith, (part-most file).0))

pub room-enough : RoomEnough
room-enough file room h = ((_, first-written file room h), λ r. never-full file r room h (is_due file r) refl)

pub goes_on : NextWritten
goes_on file r room reached more h = (_, due-written file r room h (is-due file r (reached-stands file r reached more) more))

-- none, where none is left
unless-none : (file : List ℕ) (r : Replay) (b : Bool) → eqb r.left 0 ≡ b → (1 ≤ r.left → (ps : List (List ℕ)) × Parts file r ps)
    → (ps : List (List ℕ)) × Parts file r ps
unless-none file r true e f = ([], parts.no_parts (eqb-true r.left 0 e))
unless-none file r false e f = f (omega (arith, eqb-false r.left 0 e))

-- where at most n entries are left
written_from : (n : ℕ) (file out : List ℕ) (r : Replay) → Stands file r → r.left ≤ n → most_part ≤ length out → (ps : List (List ℕ)) × Parts file r ps
unfolding next_replay
written_from zero file out r s h room = unless-none file r (eqb r.left 0) refl (λ (one : 1 ≤ r.left). absurd (omega arith))
written_from (suc n) file out r s h room =
    unless-none file r (eqb r.left 0) refl
    (λ (one : 1 ≤ r.left).
    let d = is-due file r (s one) one in
    let next : Replay = next_replay file r in
    let less : next.left ≤ n = omega (arith, after_less (done_at file r).number r.left one) in
    let rest = written_from n file out next (after-stands file r d s) less room in
    (_, parts.more out (due-written file r (length out) room d) rest.1))

pub all-written : AllWritten
all-written file out room =
    let r : Replay = first_replay file in
    let h = first-written file (length out) room in
    (whole (first_text file) r, (h, written_from r.left file out r (part-stands file (length out) h) (omega arith) room))
