-- `hosts::promised_end` meets its contract: it is what C calls, whose equations are the promise.
use Rattle.rules.specs.Demand3.{ending}
use Rattle.hosts.specs.Memory.{outcome_at}
use Rattle.hosts.proofs.Promises.{call-promised}
use Rattle.hosts.proofs.promised_end.Goals as goal

pub returns : goal.returns
unfolding outcome_at
returns c =
    let a = c.args in let both = call-promised a.image.now (ending a.direction a.to_server.now a.to_client.now) (c.fashlemor_end.ensures.told, (c.fashlemor_end.ensures.«record», c.fashlemor_end.ensures.buffers)) in record { does = both.0; promise = both.1 }
