-- `counts::low_half` meets its contract: 4294967296 is 2 ^ 32.
use Rattle.std.proofs.Common.{refl}
use Rattle.rules.specs.Answers.{wrapped}
use Rattle.counts.proofs.low_half.Goals as goal

pub returns : goal.returns
unfolding wrapped
returns c = refl
