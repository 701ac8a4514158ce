-- `steps::settling::direction_then` meets its contract: by whether AUTH is first.
use mathlib.Core.Path.{sym, ◌∙◌}
use Rattle.octets.proofs.Choices.{choose-true, choose-false}
use Rattle.steps.proofs.settling.direction_then.Goals as goal

pub returns-then-auth : goal.returns-then-auth
returns-then-auth c = c.passes_from_now.ensures ∙ sym (choose-true _ _ c.if-auth.true)

pub returns : goal.returns
returns c = c.copied.ensures ∙ sym (choose-false _ _ c.if-auth.false)
