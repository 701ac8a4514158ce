-- By the switch, then by the cases of the argument.
use mathlib.Core.Bool.{not}
use mathlib.Core.Path.{refl, ap, sym, ◌∙◌}
use borrow.Author.Tests.{not-true, not-false}
use Rattle.rules.specs.Commands.{epsv_command}
use Rattle.octets.proofs.Choices.{chosen, passed}
use Rattle.commands.proofs.epsv_command.Goals as goal

pub returns-then-not-on : goal.returns-then-not-on
returns-then-not-on c = passed _ refl (not-true _ (ap not c.if-not-on.true)) refl

pub returns-in-Passive : goal.returns-in-Passive
unfolding epsv_command
returns-in-Passive c =
    chosen _ refl (not-false _ (ap not c.if-not-on.false))
    (ap epsv_command (sym c.in-Passive.is ∙ c.epsv_argument.ensures))

pub returns-in-OtherProtocol : goal.returns-in-OtherProtocol
unfolding epsv_command
returns-in-OtherProtocol c =
    chosen _ refl (not-false _ (ap not c.if-not-on.false))
    (ap epsv_command (sym c.in-OtherProtocol.is ∙ c.epsv_argument.ensures))

pub returns-in-All : goal.returns-in-All
unfolding epsv_command
returns-in-All c =
    chosen _ refl (not-false _ (ap not c.if-not-on.false))
    (ap epsv_command (sym c.in-All.is ∙ c.epsv_argument.ensures))

pub returns-in-Other : goal.returns-in-Other
unfolding epsv_command
returns-in-Other c =
    chosen _ refl (not-false _ (ap not c.if-not-on.false))
    (ap epsv_command (sym c.in-Other.is ∙ c.epsv_argument.ensures))
