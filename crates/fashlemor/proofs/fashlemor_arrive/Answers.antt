-- `fashlemor::fashlemor_arrive`: the arrival on the record where it lies, and what is told of it.
use Rattle.fashlemor.proofs.Calls.{narrow-arrived, all_told}
use Rattle.fashlemor.proofs.fashlemor_arrive.Goals as goal

pub returns : goal.returns
returns c =
    let a = c.args in
    let r = c.arrive_at-told in
    let same = narrow-arrived a.image.now a.direction a.octets.now a.to_server.now a.to_client.now c.narrowed.ensures in let both = all_told a.image.now a.to_server.now a.to_client.now same r.result (r.ensures.told, r.ensures.buffers) c.from.ensures c.put_counts.ensures in record { told = both.0; «record» = both.1.0; buffers = both.1.1 }
