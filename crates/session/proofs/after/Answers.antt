-- `session::after` meets its contract: what octets change, and the counts.
use Rattle.records.specs.Sound.{side_if}
use Rattle.steps.specs.Takes.{state_from}
use Rattle.session.proofs.Outcomes.{advanced}
use Rattle.session.proofs.after.Goals as goal

pub returns : goal.returns
returns c =
    let a = c.args in
    let counts = c.counts_then-counts.ensures in
    advanced a.session (side_if a.from_client) a.taken a.written.server a.written.client (state_from a.control a.command a.reply a.kinds)
    counts.0 counts.1
