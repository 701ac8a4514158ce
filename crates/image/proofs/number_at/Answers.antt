-- `image::number_at`: the four octets, each below 256.
use Rattle.image.specs.Image.{count_at}
use Rattle.image.proofs.number_at.Goals as goal

pub returns : goal.returns
unfolding count_at
returns c = cc
