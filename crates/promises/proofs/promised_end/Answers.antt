-- `promises::promised_end` meets its contract: it is the session's, whose three equations are the promise.
use Rattle.rules.specs.Demand3.{ending}
use Rattle.history.specs.Gateway.{outcome_of}
use Rattle.promises.proofs.Promises.{call-promised}
use Rattle.promises.proofs.promised_end.Goals as goal

pub returns : goal.returns
unfolding outcome_of
returns c =
    let a = c.args in
    let e = c.end.ensures in
    call-promised a.session (ending a.direction a.to_server.now a.to_client.now) _ _ _ e.result e.buffers.0 e.buffers.1
