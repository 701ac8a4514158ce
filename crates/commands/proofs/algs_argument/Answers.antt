-- By the tests on the way, in the order of the definition.
use Rattle.rules.specs.Commands.{algs_argument}
use Rattle.octets.proofs.Choices.{chosen, passed}
use Rattle.commands.proofs.algs_argument.Goals as goal

pub returns-then-alike : goal.returns-then-alike
unfolding algs_argument
returns-then-alike c = search (chosen, passed)

pub returns-then-alike-2 : goal.returns-then-alike-2
unfolding algs_argument
returns-then-alike-2 c = search (chosen, passed)

pub returns-then-alike-3 : goal.returns-then-alike-3
unfolding algs_argument
returns-then-alike-3 c = search (chosen, passed)

pub returns : goal.returns
unfolding algs_argument
returns c = search (chosen, passed)
