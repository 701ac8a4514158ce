-- `writers::cannot_open_length` meets its contract, by computing.
use mathlib.Core.Path.{refl}
use Rattle.rules.specs.Replies.{cannot_open_line}
use Rattle.writers.proofs.cannot_open_length.Goals as goal

pub returns : goal.returns
unfolding cannot_open_line
returns c = refl
