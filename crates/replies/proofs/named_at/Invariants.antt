-- The loop's invariant: `i` numbers of the six are read, and the others stand at `at`.
use Rattle.std.proofs.Common.{◌≤◌, length}
use Rattle.replies.proofs.Reading.{Reading}
use Rattle.replies.proofs.named_at.Given as goal

abbrev pub invariant-loop-i : goal.invariant-loop-i
invariant-loop-i l = (l.at ≤ length l.s) × Reading l.s l.from l.at l.i l.read
