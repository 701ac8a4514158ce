-- `own::text` meets its contract: by the answer.
use Rattle.rules.specs.Replies.{answer_line}
use Rattle.own.proofs.text.Goals as goal

pub returns-in-ProtocolNotSupported : goal.returns-in-ProtocolNotSupported
unfolding answer_line
returns-in-ProtocolNotSupported c = rw c.in-ProtocolNotSupported.is

pub returns-in-ParameterNotImplemented : goal.returns-in-ParameterNotImplemented
unfolding answer_line
returns-in-ParameterNotImplemented c = rw c.in-ParameterNotImplemented.is

pub returns-in-State : goal.returns-in-State
unfolding answer_line
returns-in-State c = rw c.in-State.is c.state.ensures
