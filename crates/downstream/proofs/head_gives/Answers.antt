use borrow.Author.Rules.{rules}
use Rattle.downstream.specs.Downstream.{head_effect}
use Rattle.downstream.proofs.head_gives.Goals as goal

pub returns : goal.returns
unfolding head_effect
returns c = search rules
