-- By the cases of the answer.
use borrow.Author.Rules.{rules}
use Rattle.rules.specs.Commands.{answer_switches}
use Rattle.upstream.proofs.switches_answered.Goals as goal

pub returns-in-ProtocolNotSupported : goal.returns-in-ProtocolNotSupported
unfolding answer_switches
returns-in-ProtocolNotSupported c = search rules

pub returns-in-ParameterNotImplemented : goal.returns-in-ParameterNotImplemented
unfolding answer_switches
returns-in-ParameterNotImplemented c = search rules

pub returns-in-State : goal.returns-in-State
unfolding answer_switches
returns-in-State c = search rules
