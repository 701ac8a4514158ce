-- By the switch, then by the cases of the argument.
use mathlib.Core.Bool.{not}
use mathlib.Core.Path.{refl, ap}
use borrow.Author.Tests.{not-true, not-false}
use Rattle.rules.specs.Commands.{eprt_command}
use Rattle.octets.proofs.Choices.{chosen, passed}
use Rattle.commands.proofs.eprt_command.Goals as goal

pub returns-then-not-on : goal.returns-then-not-on
returns-then-not-on c = passed _ refl (not-true _ (ap not c.if-not-on.true)) refl

pub returns-in-Some : goal.returns-in-Some
unfolding eprt_command
returns-in-Some c =
    chosen _ refl (not-false _ (ap not c.if-not-on.false)) (ap eprt_command c.in-Some.ensures)

pub returns-in-None : goal.returns-in-None
unfolding eprt_command
returns-in-None c =
    chosen _ refl (not-false _ (ap not c.if-not-on.false)) (ap eprt_command c.in-None.ensures)
