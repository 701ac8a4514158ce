-- `fashlemor::narrowed`: a wide number is 2, and 0 and 1 are themselves.
use Rattle.fashlemor.proofs.Calls.{narrow-large, narrow-small}
use Rattle.fashlemor.proofs.narrowed.Goals as goal

pub returns-then-direction-ge2 : goal.returns-then-direction-ge2
returns-then-direction-ge2 c = narrow-large c.args.direction c.if-direction-ge2.true

pub returns : goal.returns
returns c = narrow-small c.args.direction c.if-direction-ge2.false
