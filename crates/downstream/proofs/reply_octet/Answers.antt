-- By the test on the number of octets.
use native.Mathlib.Omega.{arith}
use Rattle.downstream.specs.Downstream.{reply_octet}
use Rattle.octets.proofs.Choices.{chosen, passed}
use Rattle.downstream.proofs.reply_octet.Goals as goal

pub overflow_add-held : goal.overflow_add-held
overflow_add-held c = omega (arith, c.is_held.ensures.fits c.if-is_held.true)

pub returns-then-is_held : goal.returns-then-is_held
unfolding reply_octet
returns-then-is_held c = chosen _ c.is_held.ensures.result c.if-is_held.true c.unremoved.ensures

pub returns : goal.returns
unfolding reply_octet
returns c = passed _ c.is_held.ensures.result c.if-is_held.false c.unremoved-2.ensures
