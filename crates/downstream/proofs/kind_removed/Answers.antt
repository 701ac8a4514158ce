-- By the cases of the kind.
use borrow.Author.Rules.{rules}
use Rattle.downstream.specs.Downstream.{kind_removed}
use Rattle.downstream.proofs.kind_removed.Goals as goal

pub returns-in-Plain : goal.returns-in-Plain
unfolding kind_removed
returns-in-Plain c = search rules

pub returns-in-TranslatedEpsv : goal.returns-in-TranslatedEpsv
unfolding kind_removed
returns-in-TranslatedEpsv c = search rules

pub returns-in-Own : goal.returns-in-Own
unfolding kind_removed
returns-in-Own c = search rules

pub returns-in-Auth : goal.returns-in-Auth
unfolding kind_removed
returns-in-Auth c = search rules
