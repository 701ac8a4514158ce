-- `image::bit`: by its two cases.
use mathlib.Core.Path.{◌≡◌, ◌∙◌}
use mathlib.Core.Bool.{Bool, true, false}
use Rattle.std.proofs.Common.{refl}
use mir.Val.{bool_byte}
use Rattle.image.specs.Image.{mark_of}
use Rattle.image.proofs.bit.Goals as goal

marked : (set : Bool) → bool_byte set ≡ mark_of set
unfolding mark_of
marked true = refl
marked false = refl

pub returns : goal.returns
returns c = c.from.ensures ∙ marked c.args.set
