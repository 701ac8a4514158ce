-- `report::no_session`: the record of a refused setup.
use mathlib.Core.Path.{ap}
use Rattle.setups.specs.declared.Prepared.{Prepared}
use Rattle.report.proofs.no_session.Goals as goal

pub returns : goal.returns
returns c = ap (λ (p : Prepared). p.session) c.refused_setup.ensures
