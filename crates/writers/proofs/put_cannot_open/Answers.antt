-- `writers::put_cannot_open` meets its contract: what `put` ensures of the text.
use Rattle.rules.specs.Replies.{cannot_open_line}
use Rattle.writers.proofs.put_cannot_open.Goals as goal

pub returns : goal.returns
unfolding cannot_open_line
returns c = c.put.ensures
