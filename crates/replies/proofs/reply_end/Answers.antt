-- `replies::reply_end` meets its contract, by its test.
use borrow.Author.Tests.{eq-eqb, ne_eqb}
use Rattle.rules.specs.Octets.{choose}
use Rattle.rules.specs.Replies.{reply_end}
use Rattle.replies.proofs.reply_end.Goals as goal

pub returns-then-content-eq49 : goal.returns-then-content-eq49
unfolding reply_end choose
returns-then-content-eq49 c = rw (eq-eqb _ 49 c.if-content-eq49.true)

pub returns-else-content-eq49 : goal.returns-else-content-eq49
unfolding reply_end choose
returns-else-content-eq49 c = rw (ne_eqb _ 49 c.if-content-eq49.false)
