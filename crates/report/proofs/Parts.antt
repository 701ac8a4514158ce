-- What start and next promise, from what they put.
use mathlib.Core.Path.{◌≡◌, refl, sym, ap, ◌∙◌}
use mathlib.Core.Bool.{true, false}
use mathlib.Core.List.{List}
use Prim.Native.Nat.{ℕ, ◌+◌, ◌-◌, ◌*◌, ◌≤◌}
use native.Mathlib.Omega.{arith}
use lib.ListN.{length, get_or, take, drop}
use Rattle.rules.specs.Octets.{choose}
use Rattle.rules.specs.Answers.{answer_number}
use Rattle.output.specs.Buffer.{put_at, position_after}
use Rattle.output.proofs.Placing.{nothing_put}
use Rattle.std.specs.Prelude.{Result, Ok, Err}
use Rattle.files.specs.declared.FileFault.{FileFault}
use Rattle.records.specs.declared.Session.{Session}
use Rattle.setups.specs.Setups.{dead_session}
use Rattle.files.specs.Contents.{pair_at, count, table_end, verdict}
use Rattle.fields.specs.Report.{Done, run_entry, header_line}
use Rattle.fields.specs.Parts.{done_of}
use Rattle.files.proofs.Tables.{kind_at, length_at}
use Rattle.fields.proofs.Fields.{header-length}
use Rattle.report.specs.declared.NoPart.{NoPart}
use Rattle.report.specs.declared.Replay.{Replay}
use Rattle.report.specs.declared.Part.{Part}
use Rattle.report.specs.declared.EntryRan.{EntryRan}
use Rattle.report.specs.Ran.{done_in}
use Rattle.report.specs.Replays.{part_of, first_text_by, first_text, first_replay_by, first_replay, first_part, entry_at, is_due, done_at, entry_text, next_text, left_after, next_replay, next_part}
use Rattle.report.proofs.Texts.{part_by, part-put, text-of-parts, text-some}
use Rattle.report.proofs.Runs.{Kept}

-- ---- the first part

-- what was put is the text of the file's verdict
pub first-put : (file out : List ℕ) (v : Result Unit FileFault) {n : ℕ} {p : Result Part NoPart} {then : Replay} {out' : List ℕ} → verdict file ≡ v
    → then ≡ first_replay_by v file → 1 ≤ length (first_text_by v file) → n ≡ position_after out 0 (first_text_by v file)
    → out' ≡ put_at out 0 (first_text_by v file) → p ≡ part_by n then
    → (p ≡ first_part file (length out)) × (out' ≡ put_at out 0 (first_text file))
unfolding first_part first_text first_replay
first-put file out v e t some place put p =
    rw e (p ∙ (rw t (part-put (first_text_by v file) out (first_replay_by v file) some place)), put)

-- the header, whose count the code read
pub header-put : (file out : List ℕ) {n k : ℕ} {s : Session} {p : Result Part NoPart} {out' : List ℕ} → verdict file ≡ Ok tt
    → n ≡ pair_at file 0 → s ≡ dead_session → k ≡ position_after out 0 (header_line n) → out' ≡ put_at out 0 (header_line n)
    → p ≡ part_by k (record { session = s; number = 0; body = 2 + 4 * n; left = n })
    → (p ≡ first_part file (length out)) × (out' ≡ put_at out 0 (first_text file))
unfolding first_text_by first_replay_by table_end count
header-put file out e c s place put p =
    first-put file out (Ok tt) e (rw (s, c)) (omega (arith, header-length (pair_at file 0))) (place ∙ rw c) (put ∙ rw c) p

-- ---- no part

pub over : (file : List ℕ) (r : Replay) (out : List ℕ) → is_due file r ≡ false
    → (Err NoPart.Over ≡ next_part file r (length out)) × (out ≡ put_at out 0 (next_text file r))
unfolding next_part next_text choose
over file r out h = rw h (refl, (nothing_put out 0).1)

-- ---- the part of an entry

module _ (file : List ℕ) (r : Replay) (e : is_due file r ≡ true) where
  pub due-text : next_text file r ≡ entry_text r.number (done_at file r)
  unfolding next_text choose
  due-text = rw e

  pub due-part : (room : ℕ) → next_part file r room ≡ part_of (next_text file r) room (next_replay file r)
  unfolding next_part choose
  due-part room = rw e

  module _ (l : ℕ) (long : l ≡ pair_at file (2 + 4 * r.number + 2)) where
    -- the entry as the code ran it
    abbrev pub ran_at : Done
    ran_at = run_entry r.session (get_or file (2 + 4 * r.number) 0) (take (r.body + l - r.body) (drop r.body file))

    same_length : (entry_at file r).length ≡ l
    same_length = length_at file (2 + 4 * r.number) ∙ sym long

    same-done : ran_at ≡ done_at file r
    unfolding done_at
    same-done = let all : r.body + l - r.body ≡ l = omega arith in rw (all, same_length, kind_at file (2 + 4 * r.number))

    module _ (ran : EntryRan) (to_server to_client : List ℕ) (k : Kept ran_at ran to_server to_client) where
      abbrev pub written_text : List ℕ
      written_text = entry_text r.number (done_of ran.taken (answer_number ran.answer) (take ran.written.server to_server) (take ran.written.client to_client))

      same_text : written_text ≡ next_text file r
      unfolding done_in
      same_text =
          text-of-parts r.number (done_in ran to_server to_client) ∙ (ap (entry_text r.number) (k.0 ∙ same-done) ∙ sym due-text)

      same-replay : {left : ℕ} → left ≡ left_after (answer_number ran.answer) r.left
          → ◌≡◌ {A = Replay} (record { session = ran.session; number = r.number + 1; body = r.body + l; left = left }) (next_replay file r)
      unfolding next_replay done_in
      same-replay q = rw (q, ← (k.0 ∙ same-done), same_length)

      pub next-put : (out : List ℕ) {n left : ℕ} {p : Result Part NoPart} {out' : List ℕ} → left ≡ left_after (answer_number ran.answer) r.left
          → n ≡ position_after out 0 written_text → out' ≡ put_at out 0 written_text
          → p ≡ part_by n (record { session = ran.session; number = r.number + 1; body = r.body + l; left = left })
          → (p ≡ next_part file r (length out)) × (out' ≡ put_at out 0 (next_text file r))
      next-put out {n} q place put p =
          let some : 1 ≤ length (next_text file r) = rw due-text (text-some r.number (done_at file r)) in (
            p ∙ (ap (part_by n) (same-replay q)
                ∙ (part-put (next_text file r) out (next_replay file r) some (place ∙ ap (position_after out 0) same_text) ∙ sym (due-part (length out)))),
            put ∙ ap (put_at out 0) same_text,
          )
