-- By the cases of the command.
use Rattle.std.specs.Prelude.{Some}
use mathlib.Core.Path.{◌≡◌, ap, sym, ◌∙◌}
use Rattle.rules.specs.Octets.{choose}
use Rattle.rules.specs.Commands.{command_owes, answer_switches, command_switches}
use Rattle.rules.specs.declared.Command.{Command}
use Rattle.rules.specs.declared.Kind.{Kind}
use Rattle.rules.specs.declared.OwnAnswer.{OwnAnswer}
use Rattle.rules.specs.declared.Switches.{Switches}
use Rattle.places.specs.declared.Place.{Place}
use Rattle.places.specs.Places.{at}
use Rattle.gives.specs.declared.Gives.{Gives}
use Rattle.upstream.specs.Upstream.{client_effect_of, command_effect, judged_effect}
use Rattle.upstream.proofs.judged_effect.Goals as goal

-- an own answer tells the switches too
answered : (sw : Switches) (a : OwnAnswer) {told : Switches} {k : Command} → told ≡ answer_switches sw a → k ≡ Command.Answered a
    → client_effect_of Gives.Nothing (at Place.Holding 0) told (Some (Kind.Own a)) ≡ judged_effect sw k
unfolding judged_effect command_effect command_owes command_switches choose
answered sw a t e = (λ i. client_effect_of Gives.Nothing (at Place.Holding 0) (t i) (Some (Kind.Own a))) ∙ ap (judged_effect sw) (sym e)

pub returns-in-Passes : goal.returns-in-Passes
unfolding judged_effect command_effect command_owes command_switches choose
returns-in-Passes c = c.owed.ensures ∙ ap (judged_effect _) (sym c.in-Passes.is)

pub returns-in-Passive : goal.returns-in-Passive
unfolding judged_effect command_effect command_owes command_switches choose
returns-in-Passive c = c.owed-in-Passive.ensures ∙ ap (judged_effect _) (sym c.in-Passive.is)

pub returns-in-Port : goal.returns-in-Port
unfolding judged_effect command_effect command_owes command_switches choose
returns-in-Port c = c.owed-in-Port.ensures ∙ ap (judged_effect _) (sym c.in-Port.is)

pub returns-in-Answered : goal.returns-in-Answered
returns-in-Answered c = c.owed-in-Answered.ensures ∙ answered _ _ c.switches_answered.ensures c.in-Answered.is

pub returns-in-Auth : goal.returns-in-Auth
unfolding judged_effect command_effect command_owes command_switches choose
returns-in-Auth c = c.owed-in-Auth.ensures ∙ ap (judged_effect _) (sym c.in-Auth.is)
