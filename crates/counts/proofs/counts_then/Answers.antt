-- `counts::counts_then` meets its contract. The octets taken count for the side that they came from.
use Rattle.records.specs.Sound.{side_if}
use Rattle.counts.proofs.Wrapping.{counts-by}
use Rattle.counts.proofs.counts_then.Goals as goal
use Rattle.counts.proofs.counts_then.Goals.{then-from_client, else-from_client}

pub returns : goal.returns
returns c =
    let a = c.args in
    let here = c.counted.ensures in
    let there = c.counted-2.ensures in
    elim c.if-from_client.branch [
      | then-from_client w ↦ counts-by a.up a.down (side_if a.from_client) a.taken a.written.server a.written.client
          (rw w.if-from_client.true w.from_here-is) (rw w.if-from_client.true w.from_there-is) here there
      | else-from_client w ↦ counts-by a.up a.down (side_if a.from_client) a.taken a.written.server a.written.client
          (rw w.if-from_client.false w.from_here-is) (rw w.if-from_client.false w.from_there-is) here there
    ]
