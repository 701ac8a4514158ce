-- `eprt::same_address`. The library's comparison is the definition's.
use mathlib.Core.Path.{◌∙◌}
use Rattle.octets.proofs.Words.{equal-pointwise}
use Rattle.eprt.proofs.same_address.Goals as goal

pub returns : goal.returns
returns c = c.eq.ensures ∙ equal-pointwise c.args.a c.args.b
