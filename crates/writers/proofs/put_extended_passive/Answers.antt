-- `writers::put_extended_passive` meets its contract: the text, the port and the text after it put one after another, where all have room.
use mathlib.Core.Path.{ap}
use mathlib.Core.Bool.{not}
use mathlib.Core.List.{◌++◌}
use Rattle.rules.specs.Octets.{oct, decimal}
use Rattle.rules.specs.Replies.{extended_passive_line}
use Rattle.output.proofs.Placing.{joined, refused, room}
use Rattle.writers.proofs.put_extended_passive.Goals as goal

pub returns-then-not-has_room : goal.returns-then-not-has_room
returns-then-not-has_room c =
    let a = c.args in
    refused a.out.now a.at (extended_passive_line a.port) c.has_room.ensures
    c.extended_passive_length.ensures (ap not c.if-not-has_room.true)

pub returns : goal.returns
unfolding extended_passive_line
returns c =
    let a = c.args in
    joined a.out.now a.at (oct "229 Entering Extended Passive Mode (|||") (decimal a.port ++ oct "|)\r\n")
    (λ _. c.put-next.ensures)
    (joined c.put-next.new.out c.put-next.result (decimal a.port) (oct "|)\r\n") (λ _. c.put_decimal-next.ensures)
    (λ _. c.put.ensures))
    (room a.out.now a.at (extended_passive_line a.port) c.has_room.ensures
    c.extended_passive_length.ensures (ap not c.if-not-has_room.false))
