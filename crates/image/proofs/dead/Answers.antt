-- `image::dead`: the record of a refused setup.
use Rattle.std.proofs.Common.{ap}
use Rattle.setups.specs.declared.Prepared.{Prepared}
use Rattle.image.proofs.dead.Goals as goal

pub returns : goal.returns
returns c = ap (λ (p : Prepared). p.session) c.refused_setup-p.ensures
