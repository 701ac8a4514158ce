-- By the test on LF.
use mathlib.Core.Path.{ap, ◌∙◌}
use borrow.Author.Tests.{eq-eqb, ne_eqb}
use Rattle.rules.specs.Lines.{content}
use Rattle.downstream.specs.Downstream.{whole_line, reply_effect}
use Rattle.downstream.proofs.hold_reply.Goals as goal

pub returns-then-x-eq-LF : goal.returns-then-x-eq-LF
unfolding reply_effect
returns-then-x-eq-LF c = rw (eq-eqb _ _ c.if-x-eq-LF.true)
    (c.whole_line.ensures ∙ ap (whole_line _ _ _) (c.content.ensures ∙ ap content c.first_octets.ensures))

pub returns : goal.returns
unfolding reply_effect
returns c = rw (ne_eqb _ _ c.if-x-eq-LF.false) c.reply_octet.ensures
