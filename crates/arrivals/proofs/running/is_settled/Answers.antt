-- Where nothing leaves the queue the state is settled if AUTH is not first, or the server is through with nothing held.
use mathlib.Core.Path.{ap}
use mathlib.Core.Bool.{not}
use mathlib.Core.Path.{sym, ◌∙◌}
use mathlib.Core.Bool.{false≢true}
use borrow.Author.Tests.{not-true, not-false}
use Rattle.telnet.proofs.Layers.{clear-is}
use Rattle.steps.specs.Settled.{Through}
use Rattle.steps.specs.Takes.{state_from}
use Rattle.steps.proofs.Settles.{planned-by}
use Rattle.steps.proofs.Quiet.{quiet-plain, quiet_through, through-passing, through-ended}
use Rattle.arrivals.specs.Runs.{Quiet}
use Rattle.arrivals.proofs.running.is_settled.Goals as goal
use Rattle.arrivals.proofs.running.is_settled.Goals.{After-is_passing}

-- the server is through
module _ (c : After-is_passing) where
  quiet : Through c.args.control.server.place c.args.control.server.held c.args.control.down.telnet → Quiet c.args.control c.args.kinds
  quiet through command reply =
      let a = c.args in
      let p = c.planned-plan in
      let plan = planned-by a.control a.kinds 0 c.blocked.ensures p.ensures.result command reply in
      quiet_through (state_from a.control command reply a.kinds) p.result plan c.if-plan-ne0.false through

pub returns-then-plan-ne0 : goal.returns-then-plan-ne0
returns-then-plan-ne0 c = λ e. absurd (false≢true e)

pub returns-then-not-plan : goal.returns-then-not-plan
returns-then-not-plan c = λ _ command reply.
    let a = c.args in
    let p = c.planned-plan in
    let plan = planned-by a.control a.kinds 0 c.blocked.ensures p.ensures.result command reply in
    quiet-plain (state_from a.control command reply a.kinds) p.result plan c.if-plan-ne0.false (not-true _ c.if-not-plan.true)

pub returns-then-server-ne0 : goal.returns-then-server-ne0
returns-then-server-ne0 c = λ e. absurd (false≢true e)

pub returns-then-is_passing : goal.returns-then-is_passing
returns-then-is_passing c = λ _.
    quiet (goal.at.returns-then-is_passing c).After-is_passing (through-passing c.args.control.server c.args.control.down.telnet c.if-server-ne0.false (clear-is _ (sym c.is_clear.ensures ∙ not-false _ (ap not c.if-not-is_clear.false))) (sym c.is_passing.ensures ∙ c.if-is_passing.true))

pub returns : goal.returns
returns c = λ e.
    let a = c.args in
    quiet (goal.at.returns c).After-is_passing (through-ended a.control.server a.control.down.telnet c.if-server-ne0.false (clear-is _ (sym c.is_clear.ensures ∙ not-false _ (ap not c.if-not-is_clear.false))) (sym c.has_ended.ensures ∙ e))
