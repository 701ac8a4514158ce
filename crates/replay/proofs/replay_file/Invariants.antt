-- `replay::replay_file`: each entry that is written leaves one less.
use Rattle.report.proofs.Whole.{calls_left}
use Rattle.replay.proofs.replay_file.Given as goal

abbrev pub decreases-loop-next : goal.decreases-loop-next
decreases-loop-next g l = calls_left l.next
