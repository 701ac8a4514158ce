-- `image::read_image`: the fields of an image, or the record of a refused setup.
use mathlib.Core.Path.{ap}
use mathlib.Core.Bool.{not}
use Rattle.std.proofs.Common.{◌∙◌}
use Rattle.image.proofs.Reading.{image-size, no-image, is-image}
use Rattle.image.proofs.read_image.Goals as goal

pub returns-then-not-is_image : goal.returns-then-not-is_image
returns-then-not-is_image c = c.dead.ensures ∙ no-image c.args.image.now c.is_image.ensures (ap not c.if-not-is_image.true)

pub fields-requires : goal.fields-requires
fields-requires c = image-size c.args.image.now c.is_image.ensures (ap not c.if-not-is_image.false)

pub returns : goal.returns
returns c = c.fields.ensures ∙ is-image c.args.image.now c.is_image.ensures (ap not c.if-not-is_image.false)
