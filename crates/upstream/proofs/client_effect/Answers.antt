-- By the cases of the place.
use mathlib.Core.Path.{◌∙◌}
use Rattle.upstream.specs.Upstream.{place_effect}
use Rattle.upstream.proofs.Places.{client-place, client-flowing}
use Rattle.upstream.proofs.client_effect.Goals as goal

pub returns-in-Holding : goal.returns-in-Holding
returns-in-Holding c = c.hold_effect.ensures ∙ client-place _ _ _ _ _ c.in-Holding.is

pub returns-in-Flowing : goal.returns-in-Flowing
returns-in-Flowing c = c.flow_effect.ensures ∙ client-flowing _ _ _ _ _ ∙ client-place _ _ _ _ _ c.in-Flowing.is

pub returns-in-Passing : goal.returns-in-Passing
unfolding place_effect
returns-in-Passing c = c.unowed.ensures ∙ client-place _ _ _ _ _ c.in-Passing.is

pub returns-in-Ended : goal.returns-in-Ended
unfolding place_effect
returns-in-Ended c = c.unowed-in-Ended.ensures ∙ client-place _ _ _ _ _ c.in-Ended.is
