use mathlib.Core.Path.{sym}
use native.Mathlib.Omega.{arith}
use lib.ListN.{length-take, length-drop}
use Rattle.rules.specs.Octets.{choose}
use Rattle.address.proofs.Parts.{position-in}
use Rattle.address.proofs.Texts.{rest_part, groups-on, groups-refused, groups-end}
use Rattle.address.proofs.Octets.push_groups.Goals as goal

pub returns-in_err-push_group : goal.returns-in_err-push_group
returns-in_err-push_group c =
    rw c.from_residual.ensures (groups-refused _ _ _ c.loop-end.invariant.0 _ (sym c.in-Some.ensures) c.in_err-push_group.ensures)

pub overflow_add-rest : goal.overflow_add-rest
overflow_add-rest c = omega (arith, position-in 58 c.loop-end.rest.now c.in-Some.end (sym c.in-Some.ensures))

pub loop-end-preserved : goal.loop-end-preserved
loop-end-preserved c =
    (rw rest_part (groups-on _ _ _ c.loop-end.invariant.0 _ (sym c.in-Some.ensures) c.in_ok-push_group.ensures), simp (length-take, length-drop) (omega arith))

pub returns-then-ends : goal.returns-then-ends
unfolding choose
returns-then-ends c =
    groups-end _ _ _ c.loop-end.invariant.0 (sym c.in_default.ensures) (rw c.if-ends.true c.push_last.ensures)

pub returns-else-ends : goal.returns-else-ends
unfolding choose
returns-else-ends c =
    groups-end _ _ _ c.loop-end.invariant.0 (sym c.in_default.ensures) (rw c.if-ends.false c.push_group-else-ends.ensures)
