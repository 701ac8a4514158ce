-- By the tests on the way, in the order of the definition.
use Rattle.rules.specs.Commands.{command_word}
use Rattle.octets.proofs.Choices.{chosen, passed}
use Rattle.commands.proofs.command_word.Goals as goal

pub returns-then-alike : goal.returns-then-alike
unfolding command_word
returns-then-alike c = search (chosen, passed)

pub returns-then-alike-2 : goal.returns-then-alike-2
unfolding command_word
returns-then-alike-2 c = search (chosen, passed)

pub returns-then-alike-3 : goal.returns-then-alike-3
unfolding command_word
returns-then-alike-3 c = search (chosen, passed)

pub returns-then-alike-4 : goal.returns-then-alike-4
unfolding command_word
returns-then-alike-4 c = search (chosen, passed)

pub returns : goal.returns
unfolding command_word
returns c = search (chosen, passed)
