-- `fashlemor::fashlemor_offset`: the offset of the record that was read.
use mathlib.Core.Path.{refl}
use Rattle.fashlemor.specs.Host.{offset_number, offset_after}
use Rattle.fashlemor.proofs.Calls.{offset-told}
use Rattle.fashlemor.proofs.fashlemor_offset.Goals as goal

pub returns-in_default : goal.returns-in_default
unfolding offset_number offset_after
returns-in_default c =
    let a = c.args in let both = offset-told a.image.now a.direction a.out.now c.read_image-session.ensures c.narrowed.ensures c.offset.ensures c.in_default.is c.from.ensures refl in record { number = both.0; offset = both.1 }

pub returns : goal.returns
unfolding offset_number offset_after
returns c =
    let a = c.args in let both = offset-told a.image.now a.direction a.out.now c.read_image-session.ensures c.narrowed.ensures c.offset.ensures c.in-Some.is c.from-2.ensures refl in record { number = both.0; offset = both.1 }
