-- `image::refusal_in`: what its parts say.
use Rattle.std.proofs.Common.{refl}
use Rattle.image.proofs.Reading.{refused-by-parts}
use Rattle.image.proofs.refusal_in.Goals as goal

pub returns : goal.returns
returns c =
    refused-by-parts c.args.image.now c.args.direction c.control_in-control.ensures refl c.refusal_on.ensures
