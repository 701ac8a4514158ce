-- `image::refusal_at`: an unknown direction, what is no image, or what the record of the image says.
use mathlib.Core.Path.{ap}
use mathlib.Core.Bool.{not}
use Rattle.records.specs.Sound.{refusal_of}
use Rattle.records.proofs.Refusals.{unknown}
use Rattle.image.proofs.Reading.{image-size, refused-no-image, refused-image}
use Rattle.image.proofs.refusal_at.Goals as goal

pub returns-then-direction-ge2 : goal.returns-then-direction-ge2
unfolding refusal_of
returns-then-direction-ge2 c = unknown c.args.direction _ _ c.if-direction-ge2.true

pub returns-then-not-is_image : goal.returns-then-not-is_image
returns-then-not-is_image c =
    let a = c.args in
    refused-no-image a.image.now a.direction c.is_image.ensures (ap not c.if-not-is_image.true) c.if-direction-ge2.false

pub refusal_in-requires : goal.refusal_in-requires
refusal_in-requires c =
    image-size c.args.image.now c.is_image.ensures (ap not c.if-not-is_image.false)

pub returns : goal.returns
returns c =
    let a = c.args in
    refused-image a.image.now a.direction c.is_image.ensures (ap not c.if-not-is_image.false) c.refusal_in.ensures
