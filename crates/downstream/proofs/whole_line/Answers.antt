-- Each part of the effect by its own function, from one reading of the line.
use Rattle.downstream.specs.Downstream.{whole_line}
use Rattle.downstream.proofs.whole_line.Goals as goal

pub returns : goal.returns
unfolding whole_line
returns c = cc
