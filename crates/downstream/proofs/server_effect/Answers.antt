-- By the cases of the place.
use mathlib.Core.Path.{◌∙◌}
use Rattle.downstream.specs.Downstream.{reply_effect}
use Rattle.downstream.proofs.Places.{server-place, server-flowing}
use Rattle.downstream.proofs.server_effect.Goals as goal

pub returns-in-Holding : goal.returns-in-Holding
returns-in-Holding c = c.hold_reply.ensures ∙ server-place _ _ _ _ _ _ c.in-Holding.is

pub returns-in-Flowing : goal.returns-in-Flowing
returns-in-Flowing c = c.flow_reply.ensures ∙ server-flowing _ _ _ _ _ _ ∙ server-place _ _ _ _ _ _ c.in-Flowing.is

pub returns-in-Passing : goal.returns-in-Passing
unfolding reply_effect
returns-in-Passing c = c.unremoved.ensures ∙ server-place _ _ _ _ _ _ c.in-Passing.is

pub returns-in-Ended : goal.returns-in-Ended
unfolding reply_effect
returns-in-Ended c = c.unremoved-in-Ended.ensures ∙ server-place _ _ _ _ _ _ c.in-Ended.is
