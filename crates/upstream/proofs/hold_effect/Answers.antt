-- By the test on LF.
use mathlib.Core.Path.{ap, ◌∙◌}
use borrow.Author.Tests.{eq-eqb, ne_eqb}
use Rattle.rules.specs.Commands.{command}
use Rattle.upstream.specs.Upstream.{judged_effect, join_effect, place_effect}
use Rattle.upstream.proofs.hold_effect.Goals as goal

pub returns-then-x-eq-LF : goal.returns-then-x-eq-LF
unfolding place_effect
returns-then-x-eq-LF c = rw (eq-eqb _ _ c.if-x-eq-LF.true)
    (c.judged_effect.ensures ∙ ap (judged_effect _) (c.command.ensures ∙ ap (command _ _) c.first_octets-octets.ensures))

pub returns : goal.returns
unfolding place_effect
returns c = rw (ne_eqb _ _ c.if-x-eq-LF.false) (c.join_effect.ensures ∙ ap (join_effect _ _) c.first_octets-octets.ensures)
