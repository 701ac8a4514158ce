-- `records::unfinished_of` meets its contract: by whether the side's octets are read as lines.
use mathlib.Core.Bool.{not}
use mathlib.Core.Path.{◌≡◌, sym, ap, ◌∙◌}
use mathlib.Core.Bool.{Bool}
use borrow.Author.Tests.{not-true, not-false}
use Rattle.rules.specs.declared.Layer.{Layer}
use Rattle.places.specs.declared.Direction.{Direction}
use Rattle.places.specs.Places.{is_in_lines}
use Rattle.records.specs.declared.Control.{Control}
use Rattle.records.specs.Sound.{side_if, direction_of}
use Rattle.records.proofs.unfinished_of.Goals as goal

-- what the code's test says of the side's place
read-as-lines : (c : Control) (from : Bool) {d : Direction} {b : Bool} → d ≡ direction_of (side_if from) c → b ≡ is_in_lines d.place
    → is_in_lines (direction_of (side_if from) c).place ≡ b
read-as-lines c from e f = sym (f ∙ ap (λ (d : Direction). is_in_lines d.place) e)

pub returns-then-not-in_lines : goal.returns-then-not-in_lines
returns-then-not-in_lines c =
    let a = c.args in
    let place = read-as-lines a.control a.from_client c.direction_of.ensures c.in_lines.ensures in
    rw (place ∙ not-true _ (ap not c.if-not-in_lines.true))

pub returns : goal.returns
returns c =
    let a = c.args in
    let place = read-as-lines a.control a.from_client c.direction_of.ensures c.in_lines.ensures in
    rw (place ∙ not-false _ (ap not c.if-not-in_lines.false)) (ap (λ (l : Layer). l.telnet) c.layer_of-layer.ensures)
