-- `writers::put_pasv` meets its contract: what `put` ensures of the text.
use Rattle.rules.specs.Commands.{pasv_line}
use Rattle.writers.proofs.put_pasv.Goals as goal

pub returns : goal.returns
unfolding pasv_line
returns c = c.put.ensures
