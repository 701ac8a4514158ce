-- `counts::offset` meets its contract: the difference of the counts that the direction has.
use Rattle.std.proofs.Common.{◌^◌, ◌<◌, rules}
use Rattle.counts.proofs.Wrapping.{other-direction, server-offset, client-offset}
use Rattle.counts.proofs.offset.Goals as goal
use Rattle.counts.proofs.offset.Goals.{then-direction-eq1, else-direction-eq1}

pub returns-then-direction-ge2 : goal.returns-then-direction-ge2
returns-then-direction-ge2 c = other-direction c.args.session c.args.direction c.if-direction-ge2.true

pub returns : goal.returns
returns c =
    let a = c.args in
    let k = c.if-direction-eq1.counts in
    let written : k.written < 2 ^ 32 = search rules in
    let taken : k.taken < 2 ^ 32 = search rules in
    elim c.if-direction-eq1.branch [
      | then-direction-eq1 w ↦ server-offset a.session a.direction written taken w.if-direction-eq1.true w.counts-is
      | else-direction-eq1 w ↦ client-offset a.session a.direction written taken c.if-direction-ge2.false w.if-direction-eq1.false w.counts-is
    ]
