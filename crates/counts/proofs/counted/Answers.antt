-- `counts::counted` meets its contract: wrapping what is added first changes nothing.
use Rattle.std.proofs.Common.{refl}
use Rattle.counts.proofs.Wrapping.{wrapped_sum}
use Rattle.counts.proofs.counted.Goals as goal

pub returns : goal.returns
returns c =
    let a = c.args in
    rw (wrapped_sum a.counts.taken a.taken c.low_half.ensures refl, wrapped_sum a.counts.written a.written c.low_half-2.ensures refl)
