-- By the cases of the kind.
use borrow.Author.Rules.{rules}
use Rattle.downstream.specs.Downstream.{kind_effect}
use Rattle.downstream.proofs.kind_gives.Goals as goal

pub returns-in-Plain : goal.returns-in-Plain
unfolding kind_effect
returns-in-Plain c = search rules

pub returns-in-TranslatedEpsv : goal.returns-in-TranslatedEpsv
unfolding kind_effect
returns-in-TranslatedEpsv c = cc

pub returns-in-Own : goal.returns-in-Own
unfolding kind_effect
returns-in-Own c = search rules

pub returns-in-Auth : goal.returns-in-Auth
unfolding kind_effect
returns-in-Auth c = search rules
