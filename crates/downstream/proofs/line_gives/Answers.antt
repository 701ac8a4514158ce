-- By the cases of the line.
use borrow.Author.Rules.{rules}
use Rattle.downstream.specs.Downstream.{line_gives}
use Rattle.downstream.proofs.line_gives.Goals as goal

pub returns-in-Opens : goal.returns-in-Opens
unfolding line_gives
returns-in-Opens c = search rules

pub returns-in-Belongs : goal.returns-in-Belongs
unfolding line_gives
returns-in-Belongs c = search rules

pub returns-in-Preliminary : goal.returns-in-Preliminary
unfolding line_gives
returns-in-Preliminary c = search rules

pub returns-in-Final : goal.returns-in-Final
unfolding line_gives
returns-in-Final c = rw c.in-Final.is c.final_gives.ensures

pub returns-in-StandsAlone : goal.returns-in-StandsAlone
unfolding line_gives
returns-in-StandsAlone c = search rules
