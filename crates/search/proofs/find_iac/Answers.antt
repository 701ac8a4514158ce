use Rattle.std.proofs.Common.{refl, ap, not}
use borrow.Author.Tests.{eq-eqb, ne_eqb}
use Rattle.rules.specs.Octets.{iac, is_not}
use Rattle.octets.proofs.Runs.{run_step, run-found, run-ended}
use Rattle.search.proofs.Blocks.{ordinary-over}
use Rattle.search.proofs.find_iac.Goals as goal

pub loop-i-init : goal.loop-i-init
loop-i-init c = ordinary-over _ _ _ _ c.ordinary_end-i.ensures refl

pub loop-i-preserved : goal.loop-i-preserved
loop-i-preserved c =
    let l = c.loop-i in
    ordinary-over _ _ _ _ c.ordinary_end-i-in-loop-i.ensures
    (run_step (is_not iac) _ l.i _ c.loop-i-test.true (ap not (ne_eqb _ iac c.if-octets-i.true)) l.invariant)

pub returns-else-octets-i : goal.returns-else-octets-i
returns-else-octets-i c =
    let l = c.loop-i in
    run-found (is_not iac) _ l.i _ c.loop-i-test.true (ap not (eq-eqb _ iac c.if-octets-i.false)) l.invariant

pub returns-after-loop-i : goal.returns-after-loop-i
returns-after-loop-i c = run-ended (is_not iac) _ _ _ c.loop-i-test.false c.loop-i.invariant
