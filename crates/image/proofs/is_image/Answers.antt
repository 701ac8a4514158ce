-- `image::is_image`: too few octets, a mark with no value, or what the Telnet states say.
use mathlib.Core.Path.{ap}
use mathlib.Core.Bool.{not}
use Rattle.image.proofs.Reading.{too_short, no-mark, no_place, by-telnets}
use Rattle.image.proofs.is_image.Goals as goal

pub returns-then-image-lt-SIZE : goal.returns-then-image-lt-SIZE
returns-then-image-lt-SIZE c = too_short c.args.image.now c.if-image-lt-SIZE.true

pub returns-then-not-at_most : goal.returns-then-not-at_most
returns-then-not-at_most c = no-mark c.args.image.now c.if-image-lt-SIZE.false c.at_most.ensures (ap not c.if-not-at_most.true)

pub returns-then-not-at_most-2 : goal.returns-then-not-at_most-2
returns-then-not-at_most-2 c =
    no_place c.args.image.now c.if-image-lt-SIZE.false c.at_most.ensures (ap not c.if-not-at_most.false) c.at_most-2.ensures (ap not c.if-not-at_most-2.true)

pub returns : goal.returns
returns c =
    by-telnets c.args.image.now c.if-image-lt-SIZE.false c.at_most.ensures (ap not c.if-not-at_most.false) c.at_most-2.ensures (ap not c.if-not-at_most-2.false)
    c.at_most-3.ensures
