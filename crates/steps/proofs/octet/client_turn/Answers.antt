-- `steps::octet::client_turn` meets its contract: it puts together what its callees return.
use Rattle.steps.proofs.Settles.{planned-by}
use Rattle.steps.proofs.Turns.{client-turned}
use Rattle.steps.proofs.octet.client_turn.Goals as goal

pub returns : goal.returns
returns c =
    let a = c.args in
    let e = c.client_effect-e in
    let n = c.owed_then in
    let after = c.with_client-after in
    let q = c.push-queue in
    let p = c.planned-plan in
    client-turned a.fixed a.control a.kinds a.command.now a.x e.result n.result q.result p.result after.result after.ensures
    c.requires.counts c.requires.queue e.ensures n.ensures q.ensures
    (planned-by after.result q.result 0 c.blocked.ensures p.ensures.result) p.ensures.most
