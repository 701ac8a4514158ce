-- `hosts::promised_arrival` meets its contract: it is what C calls, whose equations are the promise, and the octets of the memory are the record's.
use native.Mathlib.Omega.{arith}
use Rattle.rules.specs.Demand3.{arrival}
use Rattle.hosts.specs.Memory.{outcome_at}
use Rattle.hosts.proofs.Promises.{call-promised}
use Rattle.hosts.proofs.Progress.{progress-promised}
use Rattle.hosts.proofs.promised_arrival.Goals as goal

pub returns : goal.returns
unfolding outcome_at
returns c =
    let a = c.args in
    let p = call-promised a.image.now (arrival a.direction a.octets.now a.to_server.now a.to_client.now) (c.fashlemor_arrive.ensures.told, (c.fashlemor_arrive.ensures.«record», c.fashlemor_arrive.ensures.buffers)) in record { does = p.0; promise = p.1; progress = λ answer number. progress-promised a.image.now (λ i. omega (arith, c.slice_known-1.given i)) a.direction a.octets.now a.to_server.now a.to_client.now _ (p.1 answer number) }
