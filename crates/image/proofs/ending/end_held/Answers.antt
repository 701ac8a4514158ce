-- `image::ending::end_held` meets its contract: by the room for what is held and for an unfinished command.
use Rattle.std.proofs.Common.{◌≡◌, ℕ, ◌+◌, ◌≤◌, List, ap, ◌∙◌, arith}
use Rattle.rules.specs.Answers.{Side}
use Rattle.rules.specs.Telnet.{unfinished}
use Rattle.places.specs.declared.Direction.{Direction}
use Rattle.records.specs.Layout.{image_size}
use Rattle.records.specs.Sound.{direction_of, side_if}
use Rattle.records.specs.Controls.{unfinished_of}
use Rattle.records.proofs.Sides.{unfinished-read}
use Rattle.image.specs.Image.{control_in}
use Rattle.image.proofs.Again.{image-long}
use Rattle.image.proofs.Endings.{line_low, held_low, passed-few, no-room-left, few-put, ended-left}
use Rattle.image.proofs.ending.end_held.Goals as goal
use Rattle.image.proofs.ending.end_held.Goals.{After-fields_at-at}

-- the direction, what it holds and what has come of a command, and where its line lies
module _ (c : After-fields_at-at) where
  abbrev image : List ℕ
  image = c.args.image.now

  abbrev out : List ℕ
  out = c.args.out.now

  abbrev side : Side
  side = side_if c.args.from_client

  held-read : c.direction_of-direction.result.held ≡ (direction_of side (control_in image)).held
  held-read = ap (λ (x : Direction). x.held) (c.direction_of-direction.ensures ∙ ap (direction_of side) c.control_in-control.ensures)

  begun : unfinished c.unfinished_of-tail.result ≡ unfinished_of side (control_in image)
  begun = unfinished-read side _ c.unfinished_of-tail.ensures ∙ ap (unfinished_of side) c.control_in-control.ensures

  -- the held octets lie in the image
  within : c.fields_at-at.result.line + c.direction_of-direction.result.held ≤ image_size
  within =
      let low = held_low image side c.requires.1 held-read in
      let first = line_low side c.fields_at-at.ensures.line in
      omega arith

pub control_in-control-requires : goal.control_in-control-requires
control_in-control-requires c =
    image-long c.args.image.now c.requires.0

pub overflow_add-held : goal.overflow_add-held
overflow_add-held c = let in_image = within (goal.at.overflow_add-held c).After-fields_at-at in omega arith

pub slice_bounds-held-end : goal.slice_bounds-held-end
slice_bounds-held-end c =
    let in_image = within (goal.at.slice_bounds-held-end c).After-fields_at-at in
    let long = image-long c.args.image.now c.requires.0 in
    omega arith

pub overflow_add-passed_length : goal.overflow_add-passed_length
overflow_add-passed_length c =
    omega
    (arith, c.passed_length.ensures, c.unfinished_length.ensures.most, passed-few c.args.image.now c.args.out.now c.requires.0 (side_if c.args.from_client) (held-read (goal.at.overflow_add-passed_length c).After-fields_at-at) c.requires.1 c.fields_at-at.ensures.line)

pub returns-then-out-passed_length : goal.returns-then-out-passed_length
returns-then-out-passed_length c =
    no-room-left c.args.image.now c.args.out.now c.requires.0 (side_if c.args.from_client) (held-read (goal.at.returns-then-out-passed_length c).After-fields_at-at) c.requires.1 c.fields_at-at.ensures.line (begun (goal.at.returns-then-out-passed_length c).After-fields_at-at) c.passed_length.ensures
    c.unfinished_length.ensures.result (λ i. omega (arith, c.slice_known-1.given i)) c.if-out-passed_length.true c.nothing_written.ensures

pub returns : goal.returns
returns c =
    let l = (goal.at.returns c).After-fields_at-at in
    ended-left c.args.image.now c.args.out.now c.requires.0 (side_if c.args.from_client) (held-read l) c.requires.1 c.fields_at-at.ensures.line (begun l)
    c.passed_length.ensures c.unfinished_length.ensures.result c.if-out-passed_length.false c.put_passed-next.ensures c.put_unfinished-n.ensures
    c.written_from.ensures c.put_end.ensures

pub put_end-requires : goal.put_end-requires
put_end-requires c =
    let l = (goal.at.put_end-requires c).After-fields_at-at in (
      c.requires.0,
      few-put c.args.image.now c.args.out.now c.requires.0 (side_if c.args.from_client) (held-read l) c.requires.1 c.fields_at-at.ensures.line (begun l)
          c.passed_length.ensures c.unfinished_length.ensures.result c.if-out-passed_length.false c.put_passed-next.ensures
          c.put_unfinished-n.ensures c.unfinished_length.ensures.most,
    )
