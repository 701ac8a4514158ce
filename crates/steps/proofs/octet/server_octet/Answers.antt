-- `steps::octet::server_octet` meets its contract: it measures what its turn gives and what settling writes behind it, and then writes both, or leaves all as it was.
use mathlib.Core.Path.{ap, ◌∙◌}
use mathlib.Core.List.{[]}
use native.Mathlib.Omega.{arith}
use lib.ListN.{length}
use Rattle.steps.proofs.Octets.{length-stored, unfit-done, server-planned, server-size, server-held, server-room, server-no-room, server-after, bounded-by}
use Rattle.steps.proofs.octet.server_octet.Goals as goal

pub returns-then-room-n : goal.returns-then-room-n
returns-then-room-n c command to_server server-end =
    let a = c.args in
    let bounded = bounded-by a.control a.written to_server a.to_client.now c.requires.counts server-end c.requires.within.1 in
    let t = c.server_turn-t in
    let n = c.given_length-n in
    let given = n.ensures in
    let none = c.if-room-n.true in
    unfit-done _ _
    (server-no-room a.fixed a.control command a.reply.now a.kinds a.x t.result t.ensures to_server a.to_client.now a.written bounded (omega arith))
    bounded

pub length_behind-requires : goal.length_behind-requires
length_behind-requires c =
    let a = c.args in
    let t = c.server_turn-t in
    let turned = t.ensures in record { most = (turned.answers, c.requires.counts.reply, turned.counted.reply, c.requires.within.0, c.tail_length-tail.ensures.most); given = server-held a.fixed a.control [] a.reply.now a.kinds a.x t.result turned }

pub returns-then-room-n-2 : goal.returns-then-room-n-2
returns-then-room-n-2 c command to_server server-end =
    let a = c.args in
    let bounded = bounded-by a.control a.written to_server a.to_client.now c.requires.counts server-end c.requires.within.1 in
    let t = c.server_turn-t in
    let n = c.given_length-n in
    let m = c.length_behind in
    let size = c.requires.within.0 in
    let given = n.ensures in
    let measured = server-size a.fixed a.control command a.reply.now a.kinds a.x t.result t.ensures m.result c.tail_length-tail.ensures.result m.ensures in
    let first = c.if-room-n.false in
    let none = c.if-room-n-2.true in
    unfit-done _ _
    (server-no-room a.fixed a.control command a.reply.now a.kinds a.x t.result t.ensures to_server a.to_client.now a.written bounded (omega arith))
    bounded

pub settle-s-requires : goal.settle-s-requires
settle-s-requires c =
    let a = c.args in
    let t = c.server_turn-t in
    let n = c.given_length-n in
    let m = c.length_behind in
    let put = c.put_given-at in
    let held = c.hold in
    let size = c.requires.within.0 in
    let given = n.ensures in
    let measured = server-size a.fixed a.control [] a.reply.now a.kinds a.x t.result t.ensures m.result c.tail_length-tail.ensures.result m.ensures in
    let first = c.if-room-n.false in
    let second = c.if-room-n-2.false in
    let client = c.requires.within.1 in
    let counted = t.ensures.counted in
    let most = counted.reply in
    let kept = ap length held.ensures ∙ length-stored a.reply.now a.control.server.held a.x t.result.gives in record {
      planned = server-planned a.fixed a.control [] a.reply.now a.kinds a.x t.result t.ensures [] held.new.line;
      counts = (t.ensures.removable, counted.owed, omega arith);
      room = server-room a.fixed a.control [] a.reply.now a.kinds a.x t.result t.ensures a.to_client.now put.new.out held.new.line a.written.client put.result (omega arith)
          put.ensures.0 put.ensures.1 held.ensures;
    }

pub returns : goal.returns
returns c command to_server server-end =
    let a = c.args in
    let bounded = bounded-by a.control a.written to_server a.to_client.now c.requires.counts server-end c.requires.within.1 in
    let t = c.server_turn-t in
    let n = c.given_length-n in
    let m = c.length_behind in
    let put = c.put_given-at in
    let held = c.hold in
    let s = c.settle-s in
    let size = c.requires.within.0 in
    let given = n.ensures in
    let measured = server-size a.fixed a.control command a.reply.now a.kinds a.x t.result t.ensures m.result c.tail_length-tail.ensures.result m.ensures in
    let first = c.if-room-n.false in
    let second = c.if-room-n-2.false in
    let client = c.requires.within.1 in
    server-after a.fixed a.control command a.reply.now a.kinds a.x t.result t.ensures to_server a.to_client.now a.written bounded s.result held.new.line put.new.out s.new.out put.result
    (omega arith) put.ensures.0 put.ensures.1 held.ensures s.ensures.state s.ensures.next s.ensures.buffer
