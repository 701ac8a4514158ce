-- `gives::put_passed` meets its contract: there is no room, or all are put.
use mathlib.Core.Path.{ap}
use mathlib.Core.Bool.{not}
use Rattle.rules.specs.Lines.{passed}
use Rattle.output.proofs.Placing.{refused, room}
use Rattle.gives.proofs.put_passed.Goals as goal

pub returns-then-not-has_room : goal.returns-then-not-has_room
returns-then-not-has_room c =
    let a = c.args in
    refused a.out.now a.at (passed a.held.now) c.has_room.ensures c.passed_length-n.ensures (ap not c.if-not-has_room.true)

pub returns : goal.returns
returns c =
    let a = c.args in
    c.put_counted.ensures
    (room a.out.now a.at (passed a.held.now) c.has_room.ensures c.passed_length-n.ensures (ap not c.if-not-has_room.false))
