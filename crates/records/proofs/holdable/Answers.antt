-- `records::holdable` meets its contract, test by test.
use Rattle.std.proofs.Common.{rules, tests}
use Rattle.rules.specs.Lines.{judged}
use Rattle.records.specs.Sound.{holdable as are_holdable}
use Rattle.records.proofs.Limits.{holdable-by-reply}
use Rattle.records.proofs.holdable.Goals as goal

pub returns-then-counts-le-HELD : goal.returns-then-counts-le-HELD
returns-then-counts-le-HELD c = holdable-by-reply _ c.if-counts-le-HELD.true.0 c.if-counts-le-HELD.true.1

pub returns-else-counts-le-HELD : goal.returns-else-counts-le-HELD
unfolding are_holdable judged
returns-else-counts-le-HELD c = search (rules, tests)
