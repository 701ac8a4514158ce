-- `steps::octet::client_octet` meets its contract: it measures what its turn gives and what settling writes, and then writes both, or leaves all as it was.
use mathlib.Core.Path.{◌≡◌, sym, ap, ◌∙◌}
use mathlib.Core.List.{◌++◌}
use native.Mathlib.Omega.{arith}
use lib.ListN.{length}
use Rattle.rules.specs.Lines.{most_held}
use Rattle.steps.specs.Takes.{command_in, reply_in}
use Rattle.steps.proofs.Halves.{rest_from, rest_from_lem, command-size, reply-size, held-command, held-reply, held-rest}
use Rattle.steps.proofs.Octets.{unfit-done, client-planned, client-size, client-no-room, client-no-room-2, client-after}
use Rattle.steps.proofs.octet.client_octet.Goals as goal

pub slice_bounds-command-end-2 : goal.slice_bounds-command-end-2
slice_bounds-command-end-2 c =
    sym (command-size c.args.lines.now c.requires.lengths)

pub given_length-requires : goal.given_length-requires
given_length-requires c =
    let size = command-size c.args.lines.now c.requires.lengths in
    let held = c.requires.bounds.command in
    (omega arith, held)

pub returns-then-to_server-written : goal.returns-then-to_server-written
returns-then-to_server-written c =
    let a = c.args in
    let t = c.client_turn-t in
    let n = c.given_length in
    unfit-done _ _
    (client-no-room a.fixed a.control (command_in a.lines.now) (reply_in a.lines.now) a.kinds a.x t.result t.ensures a.to_server.now a.to_client.now a.written c.requires.bounds n.result n.ensures c.if-to_server-written.true)
    c.requires.bounds

pub returns-then-to_client-written : goal.returns-then-to_client-written
returns-then-to_client-written c =
    let a = c.args in
    let t = c.client_turn-t in
    let m = c.settled_length in
    let size = reply-size a.lines.now c.requires.lengths in
    unfit-done _ _
    (client-no-room-2 a.fixed a.control (command_in a.lines.now) (reply_in a.lines.now) a.kinds a.x t.result t.ensures a.to_server.now a.to_client.now a.written c.requires.bounds m.result (client-size a.fixed a.control (command_in a.lines.now) (reply_in a.lines.now) a.kinds a.x t.result t.ensures (rest_from_lem most_held a.lines.now) c.tail_length-tail.ensures.result m.ensures) c.if-to_client-written.true)
    c.requires.bounds

pub slice_bounds-put_given-end-2 : goal.slice_bounds-put_given-end-2
slice_bounds-put_given-end-2 c =
    sym (command-size c.args.lines.now c.requires.lengths)

pub put_given-at-requires : goal.put_given-at-requires
put_given-at-requires c =
    let size = command-size c.args.lines.now c.requires.lengths in
    let held = c.requires.bounds.command in
    omega arith

pub slice_bounds-hold-end-2 : goal.slice_bounds-hold-end-2
slice_bounds-hold-end-2 c =
    sym (command-size c.args.lines.now c.requires.lengths)

pub settle-s-requires : goal.settle-s-requires
settle-s-requires c =
    let a = c.args in
    let t = c.client_turn-t in
    let m = c.settled_length in
    let held = c.hold in
    let lines = a.lines.now in
    let seen = rest_from most_held (held.new.line ++ reply_in lines) in
    let rest : seen ≡ reply_in lines = held-rest lines c.requires.lengths a.control.client.held a.x t.result.gives held.new.line held.ensures in
    let size : length seen ≡ most_held = ap length rest ∙ reply-size lines c.requires.lengths in
    let measured = client-size a.fixed a.control (command_in a.lines.now) seen a.kinds a.x t.result t.ensures (rest_from_lem most_held lines ∙ sym rest) c.tail_length-tail.ensures.result m.ensures in
    let fits = c.if-to_client-written.false in
    let within = c.requires.bounds.client in
    let counted = t.ensures.counted in
    let most = counted.reply in record { planned = client-planned a.fixed a.control (command_in a.lines.now) seen a.kinds a.x t.result t.ensures; counts = (t.ensures.removable, counted.owed, omega arith); room = omega arith }

pub returns : goal.returns
returns c =
    let a = c.args in
    let t = c.client_turn-t in
    let n = c.given_length in
    let m = c.settled_length in
    let put = c.put_given-at in
    let held = c.hold in
    let s = c.settle-s in
    let size = reply-size a.lines.now c.requires.lengths in
    let given = n.ensures in
    let measured = client-size a.fixed a.control (command_in a.lines.now) (reply_in a.lines.now) a.kinds a.x t.result t.ensures (rest_from_lem most_held a.lines.now) c.tail_length-tail.ensures.result m.ensures in
    let first = c.if-to_server-written.false in
    let second = c.if-to_client-written.false in
    let server = c.requires.bounds.server in
    let client = c.requires.bounds.client in
    let lines = a.lines.now in
    let gives = t.result.gives in
    let count = a.control.client.held in
    client-after a.fixed a.control (command_in a.lines.now) (reply_in a.lines.now) a.kinds a.x t.result t.ensures a.to_server.now a.to_client.now a.written c.requires.bounds s.result (command_in (held.new.line ++ reply_in lines)) (rest_from most_held (held.new.line ++ reply_in lines)) (reply_in (held.new.line ++ reply_in lines)) put.new.out s.new.out put.result
    (omega arith) (omega arith) put.ensures.0 put.ensures.1
    (held-command lines c.requires.lengths count a.x gives held.new.line held.ensures)
    (held-rest lines c.requires.lengths count a.x gives held.new.line held.ensures)
    (held-reply lines c.requires.lengths count a.x gives held.new.line held.ensures)
    s.ensures.state s.ensures.next s.ensures.buffer
