-- By the test on LF.
use mathlib.Core.Path.{refl}
use borrow.Author.Tests.{eq-eqb, ne_eqb}
use Rattle.octets.proofs.Choices.{chosen, passed}
use Rattle.downstream.proofs.flow_reply.Goals as goal

pub returns-then-x-eq-LF : goal.returns-then-x-eq-LF
returns-then-x-eq-LF c = chosen _ refl (eq-eqb _ _ c.if-x-eq-LF.true) c.flowing_line.ensures

pub returns : goal.returns
returns c = passed _ refl (ne_eqb _ _ c.if-x-eq-LF.false) c.unremoved.ensures
