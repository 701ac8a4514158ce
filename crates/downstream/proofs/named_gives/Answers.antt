-- By the test.
use Rattle.rules.specs.Octets.{choose}
use Rattle.downstream.proofs.named_gives.Goals as goal

pub returns-then-refused : goal.returns-then-refused
unfolding choose
returns-then-refused c = rw c.if-refused.true

pub returns : goal.returns
unfolding choose
returns c = rw c.if-refused.false
