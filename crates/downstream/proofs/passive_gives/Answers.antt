-- By the cases of what the 227 reader says.
use mathlib.Core.Path.{ap, sym, ◌∙◌}
use Rattle.downstream.specs.Downstream.{passive_effect}
use Rattle.downstream.proofs.Foreign.{named}
use Rattle.downstream.proofs.passive_gives.Goals as goal

pub returns-in-Some : goal.returns-in-Some
returns-in-Some c =
    named _ _ c.named_gives.ensures c.is_foreign.ensures c.in-Some.is
    ∙ ap (passive_effect _) c.passive_reply.ensures

pub returns-in-None : goal.returns-in-None
unfolding passive_effect
returns-in-None c = ap (passive_effect _) (sym c.in-None.is ∙ c.passive_reply.ensures)
