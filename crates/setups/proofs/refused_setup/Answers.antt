-- `setups::refused_setup` meets its contract, by that of `start`.
use Rattle.setups.specs.Setups.{dead_session}
use Rattle.setups.proofs.refused_setup.Goals as goal

pub returns : goal.returns
unfolding dead_session
returns c = rw c.start.ensures
