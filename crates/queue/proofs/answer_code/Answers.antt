-- By the cases of the answer and of the switches.
use borrow.Author.Rules.{rules}
use Rattle.queue.specs.Kinds.{answer_code, state_code}
use Rattle.queue.proofs.answer_code.Goals as goal

pub returns-in-ProtocolNotSupported : goal.returns-in-ProtocolNotSupported
unfolding answer_code state_code
returns-in-ProtocolNotSupported c = search rules

pub returns-in-ParameterNotImplemented : goal.returns-in-ParameterNotImplemented
unfolding answer_code state_code
returns-in-ParameterNotImplemented c = search rules

pub returns-then-switches-2 : goal.returns-then-switches-2
unfolding answer_code state_code
returns-then-switches-2 c = search rules

pub returns-else-switches-2 : goal.returns-else-switches-2
unfolding answer_code state_code
returns-else-switches-2 c = search rules

pub returns-then-switches-3 : goal.returns-then-switches-3
unfolding answer_code state_code
returns-then-switches-3 c = search rules

pub returns-else-switches-3 : goal.returns-else-switches-3
unfolding answer_code state_code
returns-else-switches-3 c = search rules
