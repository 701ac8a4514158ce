-- `report::no_replay`: no entry is left.
use Rattle.report.specs.Replays.{no_replay}
use Rattle.report.proofs.no_replay.Goals as goal

pub returns : goal.returns
unfolding no_replay
returns c = rw c.no_session.ensures
