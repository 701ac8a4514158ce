-- `steps::octet::telnet_octet` meets its contract: it measures what passes, goes back and settles, and then writes all, or leaves all as it was.
use Prim.Native.Nat.{◌+◌, ◌*◌, ◌≤◌}
use native.Mathlib.Omega.{arith}
use lib.ListN.{length, take}
use lib.Seq.{length-take-le}
use borrow.Author.Rules.{rules}
use Rattle.rules.specs.Answers.{most_answers}
use Rattle.rules.specs.Lines.{most_held, passed}
use Rattle.octets.proofs.Passed.{passed-most}
use Rattle.steps.proofs.Settles.{planned-by}
use Rattle.steps.proofs.Octets.{unfit-done}
use Rattle.steps.proofs.Telnets.{settled-few, telnet-size, telnet-no-room, telnet-no-room-2, telnet-room, telnet-after}
use Rattle.steps.proofs.octet.telnet_octet.Goals as goal

pub returns-then-to_server-written : goal.returns-then-to_server-written
returns-then-to_server-written c command =
    let a = c.args in
    unfit-done _ _
    (telnet-no-room a.from_client a.does a.control command a.reply.now a.kinds a.to_server.now a.to_client.now a.written c.requires.bounds c.telnet_length.ensures.result c.if-to_server-written.true)
    c.requires.bounds

pub settled_length-requires : goal.settled_length-requires
settled_length-requires c =
    let size = c.requires.lengths in
    let held = c.requires.bounds.reply in
    (c.planned-plan.ensures.most, held, omega arith, c.tail_length-tail.ensures.most)

pub overflow_add-back : goal.overflow_add-back
overflow_add-back c =
    let a = c.args in
    let line = take a.control.server.held a.reply.now in
    let held = c.requires.bounds.reply in
    let long = c.requires.lengths in
    let size = length-take-le a.control.server.held a.reply.now (omega arith) in
    let two : length (passed line) ≤ 2 * most_held = omega (arith, passed-most line) in
    let plan = c.planned-plan in
    let tail = c.tail_length-tail in
    let few = settled-few plan.result.answers (length (passed line)) tail.result plan.result.auth plan.ensures.most two tail.ensures.most in
    let most : c.settled_length.result ≤ most_answers + (2 * most_held + 2) = omega (arith, c.settled_length.ensures) in
    let back = c.telnet_length-back.ensures.most in
    search rules

pub returns-then-to_client-written : goal.returns-then-to_client-written
returns-then-to_client-written c command =
    let a = c.args in
    let plan = planned-by a.control a.kinds 0 c.blocked.ensures c.planned-plan.ensures.result in
    let size = telnet-size a.from_client a.does a.control command a.reply.now a.kinds (plan _ a.reply.now) c.tail_length-tail.ensures.result c.settled_length.ensures in
    unfit-done _ _
    (telnet-no-room-2 a.from_client a.does a.control command a.reply.now a.kinds a.to_server.now a.to_client.now a.written c.requires.bounds c.telnet_length-back.ensures.result size c.if-to_client-written.true)
    c.requires.bounds

pub settle-s-requires : goal.settle-s-requires
settle-s-requires c =
    let a = c.args in
    let bounded = c.requires.bounds in
    let plan = planned-by a.control a.kinds 0 c.blocked.ensures c.planned-plan.ensures.result in
    let size = telnet-size a.from_client a.does a.control a.kinds a.reply.now a.kinds (plan _ a.reply.now) c.tail_length-tail.ensures.result c.settled_length.ensures in
    let back = c.telnet_length-back.ensures.result in
    let fits = c.if-to_client-written.false in
    let within = bounded.client in
    let most = bounded.reply in
    let long = c.requires.lengths in record {
      planned = plan _ a.reply.now;
      counts = (omega arith, bounded.owed, omega arith);
      room = telnet-room a.from_client a.does a.control a.kinds a.reply.now a.kinds a.to_server.now a.to_client.now a.written bounded (omega arith)
          c.put_telnet-down.ensures.0 c.put_telnet-down.ensures.1;
    }

pub returns : goal.returns
returns c command =
    let a = c.args in
    let bounded = c.requires.bounds in
    let plan = planned-by a.control a.kinds 0 c.blocked.ensures c.planned-plan.ensures.result in
    let size = telnet-size a.from_client a.does a.control command a.reply.now a.kinds (plan _ a.reply.now) c.tail_length-tail.ensures.result c.settled_length.ensures in
    let on = c.telnet_length.ensures.result in
    let back = c.telnet_length-back.ensures.result in
    let first = c.if-to_server-written.false in
    let second = c.if-to_client-written.false in
    let server = bounded.server in
    let client = bounded.client in
    let s = c.settle-s in
    let put = c.put_telnet-up in
    let then = c.put_telnet-down in
    telnet-after a.from_client a.does a.control command a.reply.now a.kinds a.to_server.now a.to_client.now a.written bounded
    s.result put.new.out then.new.out s.new.out put.result then.result
    (omega arith) (omega arith) put.ensures.0 put.ensures.1 then.ensures.0 then.ensures.1
    s.ensures.state s.ensures.next s.ensures.buffer
