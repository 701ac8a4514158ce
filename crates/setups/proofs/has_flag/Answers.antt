-- `setups::has_flag` meets its contract: a shift and a mask read one bit.
use Rattle.setups.proofs.Flags.{flag}
use Rattle.setups.proofs.has_flag.Goals as goal

pub returns : goal.returns
returns c = flag c.args.i c.args.flags
