-- Each part of the effect by its own function, from the first four octets.
use Rattle.downstream.specs.Downstream.{flowing_line}
use Rattle.downstream.proofs.flowing_line.Goals as goal

pub returns : goal.returns
unfolding flowing_line
returns c = cc
