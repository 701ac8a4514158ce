-- `setups::start` meets its contract: the lengths of the arrays are those of their types.
use mathlib.Core.Path.{refl}
use Rattle.rules.specs.Lines.{judged}
use Rattle.setups.proofs.start.Goals as goal

pub returns : goal.returns
unfolding judged
returns c = refl
