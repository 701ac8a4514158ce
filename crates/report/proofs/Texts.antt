-- A text that is put at the front of a buffer as a part of the report.
use mathlib.Core.Path.{◌≡◌, refl}
use mathlib.Core.Bool.{Bool, true, false}
use mathlib.Core.List.{List, ◌++◌, append-nil}
use Prim.Native.Nat.{ℕ, ◌+◌, ◌-◌, ◌≤◌}
use native.Mathlib.Nat.{zero-add}
use native.Mathlib.Omega.{arith}
use lib.Dec.{eqb, leb}
use lib.ListN.{length, length-append}
use borrow.Author.Tests.{eq-eqb, ne_eqb}
use Rattle.rules.specs.Octets.{oct, choose}
use Rattle.rules.specs.Answers.{answer_number}
use Rattle.rules.specs.declared.Answer.{Answer}
use Rattle.rules.specs.declared.Answer.TheVariants as a
use Rattle.output.specs.Buffer.{fits_at, position_after}
use Rattle.std.specs.Prelude.{Result, Ok, Err}
use Rattle.fields.specs.Report.{Done, entry_line}
use Rattle.fields.specs.Parts.{done_of}
use Rattle.fields.proofs.Fields.{line-of-parts, line-length}
use Rattle.report.specs.declared.NoPart.{NoPart}
use Rattle.report.specs.declared.Replay.{Replay}
use Rattle.report.specs.declared.Part.{Part}
use Rattle.report.specs.Replays.{part_of, entry_text, left_after}

-- ---- a part

abbrev pub part_by : ℕ → Replay → Result Part NoPart
part_by n then = choose (eqb n 0) (Err NoPart.NoRoom) (Ok (record { written = n; replay = then }))

by-room : (n : ℕ) (then : Replay) → 1 ≤ n → (b : Bool)
    → part_by (choose b n 0) then ≡ choose b (Ok (record { written = n; replay = then })) (Err NoPart.NoRoom)
unfolding choose
by-room n then some true = rw (ne_eqb n 0 (λ (z : n ≡ 0). omega arith))
by-room n then some false = refl

-- as many octets are written as the text has, or none, which no text has
pub part-put : (text out : List ℕ) (then : Replay) {n : ℕ} → 1 ≤ length text → n ≡ position_after out 0 text
    → part_by n then ≡ part_of text (length out) then
unfolding part_of position_after fits_at
part-put text out then some p = rw (p, zero-add (length text)) (by-room (length text) then some (leb (length text) (length out)))

-- ---- the text of an entry

module _ (n : ℕ) (d : Done) where
  pub goes_on : d.number ≡ 0 → entry_text n d ≡ entry_line n d
  unfolding entry_text choose
  goes_on h = rw (eq-eqb d.number 0 h) (append-nil (entry_line n d))

  pub stops : (d.number ≡ 0 → ⊥) → entry_text n d ≡ entry_line n d ++ oct "STOPPED\n"
  unfolding entry_text choose
  stops h = rw (ne_eqb d.number 0 h)

  pub stop-length : (d.number ≡ 0 → ⊥) → length (entry_text n d) ≡ 8 + length (entry_line n d)
  stop-length h = rw (stops h, length-append) (omega arith)

  -- the line does not show the record
  pub text-of-parts : entry_text n (done_of d.taken d.number d.to_server d.to_client) ≡ entry_text n d
  unfolding entry_text entry_line done_of
  text-of-parts = refl

  pub text-some : 1 ≤ length (entry_text n d)
  unfolding entry_text
  text-some =
      rw (length-append, ← line-of-parts n d, line-length (n) d.taken d.number d.to_server d.to_client) (omega arith)

-- the same of the parts that the line shows
module _ (taken answer : ℕ) (to_server to_client : List ℕ) where
  pub other : (answer ≡ 0 → ⊥) → (done_of taken answer to_server to_client).number ≡ 0 → ⊥
  unfolding done_of
  other h = h

pub at_zero : (n taken answer : ℕ) (to_server to_client : List ℕ) → answer ≡ 0
    → entry_text n (done_of taken answer to_server to_client) ≡ entry_line n (done_of taken answer to_server to_client)
unfolding done_of
at_zero n taken answer to_server to_client h = goes_on n (done_of taken answer to_server to_client) h

-- ---- the entries left

some_number : (r : Answer) → (r ≡ a.Done → ⊥) → answer_number r ≡ 0 → ⊥
some_number a.Done h = λ (z : answer_number a.Done ≡ 0). h refl
some_number a.QueueFull h = λ (z : answer_number a.QueueFull ≡ 0). omega arith
some_number a.NoRoom h = λ (z : answer_number a.NoRoom ≡ 0). omega arith
some_number a.UnknownDirection h = λ (z : answer_number a.UnknownDirection ≡ 0). omega arith
some_number a.BadRecord h = λ (z : answer_number a.BadRecord ≡ 0). omega arith
some_number a.BadSetup h = λ (z : answer_number a.BadSetup ≡ 0). omega arith
some_number a.DirectionEnded h = λ (z : answer_number a.DirectionEnded ≡ 0). omega arith

pub none_after : (r : Answer) (left : ℕ) → (r ≡ a.Done → ⊥) → 0 ≡ left_after (answer_number r) left
unfolding left_after choose
none_after r left h = rw (ne_eqb (answer_number r) 0 (some_number r h))

pub one_less : (r : Answer) (left : ℕ) → r ≡ a.Done → left - 1 ≡ left_after (answer_number r) left
unfolding left_after choose
one_less r left h = rw h
