use mathlib.Core.Path.{sym, ◌∙◌}
use native.Mathlib.Omega.{arith}
use borrow.Author.Tests.{eqb-true, eqb-false}
use Rattle.fields.proofs.Fields.{field-empty, field-shown, subtracted, shown-full, shown-taken, shown-done}
use Rattle.fields.proofs.room_after.Goals as goal

pub returns-then-is_empty : goal.returns-then-is_empty
returns-then-is_empty c =
    let a = c.args in
    rw (field-empty a.octets.now (eqb-true _ 0 (sym c.if-is_empty.ensures))) (subtracted a.room 1 c.checked_sub.result c.checked_sub.ensures)

pub loop-x-init : goal.loop-x-init
loop-x-init c = let s = c.args.octets.now in rw (field-shown s (eqb-false _ 0 (sym c.if-is_empty.ensures)))

pub returns-in_err-left : goal.returns-in_err-left
returns-in_err-left c =
    let l = c.loop-x in
    let n = c.shown_length in
    c.from_residual.ensures
    ∙ sym (l.invariant ∙ shown-full c.args.octets.now l.left l.x-index n.result c.loop-x-test.true n.ensures (omega (arith, c.in_err-left.ensures)))

pub loop-x-preserved : goal.loop-x-preserved
loop-x-preserved c =
    let l = c.loop-x in
    let n = c.shown_length in
    let left = c.in_ok-left.ensures in
    rw left.1 (l.invariant ∙ shown-taken c.args.octets.now l.left l.x-index n.result c.loop-x-test.true n.ensures left.0)

pub returns : goal.returns
returns c =
    let l = c.loop-x in
    sym (l.invariant ∙ shown-done c.args.octets.now l.left l.x-index c.loop-x-test.false)
