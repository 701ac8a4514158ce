-- `report::part_of`: by the octets written.
use borrow.Author.Tests.{eq-eqb, ne_eqb}
use Rattle.rules.specs.Octets.{choose}
use Rattle.report.proofs.part_of.Goals as goal

pub returns-then-written-eq0 : goal.returns-then-written-eq0
unfolding choose
returns-then-written-eq0 c = let a = c.args in rw (eq-eqb a.written 0 c.if-written-eq0.true)

pub returns : goal.returns
unfolding choose
returns c = let a = c.args in rw (ne_eqb a.written 0 c.if-written-eq0.false)
