-- By the test on the opening code.
use borrow.Author.Tests.{eq-eqb, ne_eqb}
use Rattle.rules.specs.Octets.{choose}
use Rattle.downstream.proofs.final_gives.Goals as goal

pub returns-then-opening-ne0 : goal.returns-then-opening-ne0
unfolding choose
returns-then-opening-ne0 c = rw (ne_eqb _ 0 c.if-opening-ne0.true)

pub returns : goal.returns
unfolding choose
returns c = rw (eq-eqb _ 0 c.if-opening-ne0.false) c.head_gives.ensures
