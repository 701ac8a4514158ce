-- `image::ending::put_end` meets its contract: four fields are stored.
use Rattle.std.proofs.Common.{refl, ◌∙◌, arith, length-set}
use Rattle.records.specs.Sound.{side_if}
use Rattle.image.proofs.Again.{image-long}
use Rattle.image.proofs.Changing.{fields-low, end-stored}
use Rattle.image.proofs.ending.put_end.Goals as goal

pub number_at-before-requires : goal.number_at-before-requires
number_at-before-requires c =
    let long = image-long c.args.image.now c.requires.0 in
    let low = fields-low (side_if c.args.from_client) in
    omega arith

pub bounds-image-at : goal.bounds-image-at
bounds-image-at c =
    let long = image-long c.args.image.now c.requires.0 in
    let low = fields-low (side_if c.args.from_client) in
    omega arith

pub bounds-image-at-2 : goal.bounds-image-at-2
bounds-image-at-2 c =
    let long = image-long c.args.image.now c.requires.0 in
    let low = fields-low (side_if c.args.from_client) in
    simp length-set (omega arith)

pub shape_of-image : goal.shape_of-image
shape_of-image c =
    let first = c.put_number.auto.out in
    let second = c.put_number-2.auto.out in
    second ∙ (simp length-set at first)

pub returns : goal.returns
returns c =
    end-stored c.args.image.now c.requires.0 (λ i. omega (arith, c.slice_known-1.given i)) (side_if c.args.from_client) c.args.n
    c.fields_at-at.ensures.place c.fields_at-at.ensures.telnet c.fields_at-at.ensures.held c.fields_at-at.ensures.written
    c.number_at-before.ensures refl (rw (c.place_number.ensures, c.telnet_number.ensures) at c.put_number.ensures.1) c.put_number-2.ensures.1
