-- `session::refused` meets its contract, which names its fields.
use mathlib.Core.Path.{refl}
use Rattle.session.specs.Calls.{refused}
use Rattle.session.proofs.refused.Goals as goal

pub returns : goal.returns
unfolding refused
returns c = refl
