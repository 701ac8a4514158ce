-- `image::put_number`: the number's octets are put.
use Rattle.std.proofs.Common.{ℕ, List, subst}
use Rattle.output.specs.Buffer.{Put}
use Rattle.image.specs.Image.{four_octets}
use Rattle.image.proofs.put_number.Goals as goal

pub returns : goal.returns
unfolding four_octets
returns c = subst (λ (octets : List ℕ). Put c.args.out.now c.args.at octets c.put.result c.put.new.out) c.to_le_bytes.ensures c.put.ensures
