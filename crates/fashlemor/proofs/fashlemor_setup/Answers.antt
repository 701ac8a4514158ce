-- `fashlemor::fashlemor_setup`: by the room for the record.
use Rattle.fashlemor.proofs.Calls.{no_room, room, setup-told}
use Rattle.fashlemor.proofs.fashlemor_setup.Goals as goal

pub returns-then-room-lt-SIZE : goal.returns-then-room-lt-SIZE
returns-then-room-lt-SIZE c =
    let image = c.args.image.now in
    let p = c.setup_from-p in let both = setup-told image p.ensures (no_room image p.result c.if-room-lt-SIZE.true c.from.ensures) c.put_image.ensures in record { number = both.0; «record» = both.1 }

pub returns : goal.returns
returns c =
    let image = c.args.image.now in
    let p = c.setup_from-p in let both = setup-told image p.ensures (room image p.result c.if-room-lt-SIZE.false c.from-2.ensures) c.put_image.ensures in record { number = both.0; «record» = both.1 }
