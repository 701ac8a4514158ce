-- `queue::is_still` meets its contract: none is owed, none is kept, or the number tells.
use borrow.Author.Tests.{le-leb, lt-leb}
use lib.ListN.{get_or-eq_default}
use Rattle.rules.specs.Octets.{choose}
use Rattle.queue.specs.Kinds.{is_still}
use Rattle.queue.proofs.is_still.Goals as goal

pub returns-then-owed-from : goal.returns-then-owed-from
unfolding is_still choose
returns-then-owed-from c = let a = c.args in rw (le-leb a.owed a.from c.if-owed-from.true)

pub returns-then-kinds-from : goal.returns-then-kinds-from
unfolding is_still choose
returns-then-kinds-from c =
    let a = c.args in
    rw (lt-leb a.owed a.from c.if-owed-from.false, get_or-eq_default a.kinds.now 0 {n = a.from} c.if-kinds-from.true)

pub returns : goal.returns
unfolding is_still choose
returns c = let a = c.args in rw (lt-leb a.owed a.from c.if-owed-from.false)
