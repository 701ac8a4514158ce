use mathlib.Core.Logic.{⊎_elim}
use mathlib.Core.Path.{◌≡◌, sym, ◌∙◌}
use Prim.Native.Nat.{◌+◌, ◌-◌, ◌*◌}
use native.Mathlib.Omega.{arith}
use Rattle.octets.proofs.Ranges.{is_below, is-above}
use Rattle.files.proofs.Tables.{no-count, wrong-count, table-cut, no-setup, wrong-setup, after-setup, setup-again, entry-wrong, entry-right, total_right, total-wrong}
use Rattle.files.proofs.judge.Goals as goal
use Rattle.files.proofs.judge.Goals.{then-file-ne4-via-then-file-ne4, then-file-ne4-via-else-file-ne4+then-not-good_entry, then-file-at-eq4-via-then-file-at-eq4, then-file-at-eq4-via-else-file-at-eq4+then-not-good_entry-2}

pub returns-then-file-lt2 : goal.returns-then-file-lt2
returns-then-file-lt2 c = sym (no-count c.args.file.now c.if-file-lt2.true)

pub returns-then-entries-lt1 : goal.returns-then-entries-lt1
returns-then-entries-lt1 c =
    let a = c.args in
    let wrong = wrong-count a.file.now c.pair_at-entries.result c.if-file-lt2.false c.pair_at-entries.ensures.result in
    ⊎_elim (λ low. sym (wrong (is_below 1 48 _ low))) (λ high. sym (wrong (is-above 1 48 _ high.1))) c.then-entries-lt1.either

pub returns-then-file-table_end : goal.returns-then-file-table_end
returns-then-file-table_end c =
    let a = c.args in
    sym (table-cut a.file.now c.pair_at-entries.result c.if-file-lt2.false c.pair_at-entries.ensures.result (omega arith) (omega arith) c.if-file-table_end.true)

pub returns-then-file-ne4 : goal.returns-then-file-ne4
returns-then-file-ne4 c =
    let a = c.args in
    let entries = c.pair_at-entries in
    elim c.then-file-ne4.branch [
      | then-file-ne4-via-then-file-ne4 w ↦
          sym (no-setup a.file.now entries.result c.if-file-lt2.false entries.ensures.result (omega arith) (omega arith) c.if-file-table_end.false w.if-file-ne4.true)
      | then-file-ne4-via-else-file-ne4+then-not-good_entry w ↦
          sym (wrong-setup a.file.now entries.result c.if-file-lt2.false entries.ensures.result (omega arith) (omega arith) c.if-file-table_end.false (sym w.good_entry.ensures ∙ w.if-not-good_entry.true))
    ]

pub loop-i-init : goal.loop-i-init
loop-i-init c =
    let a = c.args in
    record {
      decides =
          after-setup a.file.now c.pair_at-entries.result c.if-file-lt2.false c.pair_at-entries.ensures.result (omega arith) (omega arith) c.if-file-table_end.false
          c.pair_at.result c.pair_at.ensures.result c.if-file-ne4.false (sym c.good_entry.ensures ∙ c.if-not-good_entry.false);
      within = omega arith;
      few = omega arith;
    }

pub returns-then-file-at-eq4 : goal.returns-then-file-at-eq4
returns-then-file-at-eq4 c =
    let a = c.args in
    let l = c.loop-i in
    elim c.then-file-at-eq4.branch [
      | then-file-at-eq4-via-then-file-at-eq4 w ↦
          sym (l.invariant.decides ∙ setup-again a.file.now _ l.total _ _ (omega arith) w.if-file-at-eq4.true)
      | then-file-at-eq4-via-else-file-at-eq4+then-not-good_entry-2 w ↦
          sym (l.invariant.decides ∙ entry-wrong a.file.now _ l.total _ _ (omega arith) (sym w.good_entry-else-file-at-eq4.ensures ∙ w.if-not-good_entry-2.true))
    ]

pub loop-i-preserved : goal.loop-i-preserved
loop-i-preserved c =
    let a = c.args in
    let l = c.loop-i in
    let n = c.pair_at-entries.result in
    let fewer : n - l.i - 1 ≡ n - (l.i + 1) = omega arith in
    let further : 2 + 4 * l.i + 4 ≡ 2 + 4 * (l.i + 1) = omega arith in
    record {
      decides =
          rw (← fewer, ← further)
          (l.invariant.decides ∙ entry-right a.file.now _ l.total _ _ (omega arith)
          c.pair_at-total.result c.pair_at-total.ensures.result c.if-file-at-eq4.false (sym c.good_entry-else-file-at-eq4.ensures ∙ c.if-not-good_entry-2.false));
      within = l.invariant.within;
      few = omega arith;
    }

pub returns-then-file-total : goal.returns-then-file-total
returns-then-file-total c =
    let l = c.loop-i in
    sym (l.invariant.decides ∙ total-wrong c.args.file.now _ l.total _ _ (omega arith) c.if-file-total.true)

pub returns : goal.returns
returns c =
    let l = c.loop-i in
    sym (l.invariant.decides ∙ total_right c.args.file.now _ l.total _ _ (omega arith) c.if-file-total.false)
