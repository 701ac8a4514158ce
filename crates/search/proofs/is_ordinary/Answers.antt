-- `search::is_ordinary` meets its contract: both tests of the definition.
use mathlib.Core.Path.{refl}
use Rattle.search.proofs.is_ordinary.Goals as goal

pub returns : goal.returns
returns c = refl
