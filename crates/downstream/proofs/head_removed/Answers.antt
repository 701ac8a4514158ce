use borrow.Author.Rules.{rules}
use Rattle.downstream.specs.Downstream.{head_removed}
use Rattle.downstream.proofs.head_removed.Goals as goal

pub returns : goal.returns
unfolding head_removed
returns c = search rules
