-- By the cases of the line.
use borrow.Author.Rules.{rules}
use Rattle.downstream.specs.Downstream.{line_removes}
use Rattle.downstream.proofs.line_removes.Goals as goal

pub returns-in-Opens : goal.returns-in-Opens
unfolding line_removes
returns-in-Opens c = search rules

pub returns-in-Belongs : goal.returns-in-Belongs
unfolding line_removes
returns-in-Belongs c = search rules

pub returns-in-Preliminary : goal.returns-in-Preliminary
unfolding line_removes
returns-in-Preliminary c = search rules

pub returns-in-Final : goal.returns-in-Final
unfolding line_removes
returns-in-Final c = cc

pub returns-in-StandsAlone : goal.returns-in-StandsAlone
unfolding line_removes
returns-in-StandsAlone c = search rules
