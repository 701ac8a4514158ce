-- `writers::pasv_length` meets its contract, by computing.
use mathlib.Core.Path.{refl}
use Rattle.rules.specs.Commands.{pasv_line}
use Rattle.writers.proofs.pasv_length.Goals as goal

pub returns : goal.returns
unfolding pasv_line
returns c = refl
