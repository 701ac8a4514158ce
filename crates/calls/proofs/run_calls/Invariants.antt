-- `calls::run_calls`: what is left of the calls is less with each.
use Rattle.std.proofs.Common.{length}
use Rattle.calls.proofs.run_calls.Given as goal

abbrev pub decreases-loop-call : goal.decreases-loop-call
decreases-loop-call g l = length l.rest
