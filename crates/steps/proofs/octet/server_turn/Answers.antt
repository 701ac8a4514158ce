-- `steps::octet::server_turn` meets its contract: it puts together what its callees return.
use Rattle.steps.proofs.Settles.{planned-by}
use Rattle.steps.proofs.Turns.{server-turned}
use Rattle.steps.proofs.octet.server_turn.Goals as goal

pub returns : goal.returns
returns c =
    let a = c.args in
    let o = c.first_owed-first in
    let e = c.server_effect-e in
    let after = c.with_server-after in
    let p = c.planned-plan in
    server-turned a.fixed a.control a.kinds a.reply.now a.x o.result e.result p.result after.result after.ensures
    c.requires o.ensures e.ensures (planned-by after.result a.kinds e.result.removes c.blocked.ensures p.ensures.result) p.ensures.most
