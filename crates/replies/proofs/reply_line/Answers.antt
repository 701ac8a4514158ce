-- Inside or outside, by the opening code.
use borrow.Author.Tests.{eq-eqb, ne_eqb}
use Rattle.rules.specs.Octets.{choose}
use Rattle.rules.specs.Replies.{reply_line}
use Rattle.replies.proofs.reply_line.Goals as goal

pub returns-then-opening-eq0 : goal.returns-then-opening-eq0
unfolding reply_line choose
returns-then-opening-eq0 c = rw (eq-eqb _ 0 c.if-opening-eq0.true) c.line_outside.ensures

pub returns-else-opening-eq0 : goal.returns-else-opening-eq0
unfolding reply_line choose
returns-else-opening-eq0 c = rw (ne_eqb _ 0 c.if-opening-eq0.false) c.line_inside.ensures
