-- `image::counts_at`: its two numbers.
use Rattle.image.specs.Image.{counts_at}
use Rattle.image.proofs.counts_at.Goals as goal

pub returns : goal.returns
unfolding counts_at
returns c = cc
