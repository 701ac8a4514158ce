-- By the cases of the argument.
use mathlib.Core.Path.{ap, sym, ◌∙◌}
use Rattle.rules.specs.Commands.{algs_command}
use Rattle.commands.proofs.algs_command.Goals as goal

pub returns-in-Status64 : goal.returns-in-Status64
unfolding algs_command
returns-in-Status64 c = ap (algs_command _ _) (sym c.in-Status64.is ∙ c.algs_argument.ensures)

pub returns-in-Enable64 : goal.returns-in-Enable64
unfolding algs_command
returns-in-Enable64 c = ap (algs_command _ _) (sym c.in-Enable64.is ∙ c.algs_argument.ensures)

pub returns-in-Disable64 : goal.returns-in-Disable64
unfolding algs_command
returns-in-Disable64 c = ap (algs_command _ _) (sym c.in-Disable64.is ∙ c.algs_argument.ensures)

pub returns-in-Other : goal.returns-in-Other
unfolding algs_command
returns-in-Other c = ap (algs_command _ _) (sym c.in-Other.is ∙ c.algs_argument.ensures)
