-- `calls::run_scripts`: what is left of the input is less with each script.
use Rattle.std.proofs.Common.{length}
use Rattle.calls.proofs.run_scripts.Given as goal

abbrev pub decreases-loop-script : goal.decreases-loop-script
decreases-loop-script g l = length l.rest
