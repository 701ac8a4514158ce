-- How long the gateway's own answers are.
use mathlib.Core.Bool.{Bool, true, false}
use Prim.Native.Nat.{◌≤◌}
use native.Mathlib.Omega.{arith}
use lib.ListN.{length}
use Rattle.rules.specs.Replies.{state_line, answer_line}
use Rattle.rules.specs.declared.OwnAnswer.{OwnAnswer}
use Rattle.rules.specs.declared.OwnAnswer.TheVariants.{ProtocolNotSupported, ParameterNotImplemented, State}
use Rattle.rules.specs.Answers.{longest_answer}

state-most : (epsv eprt : Bool) → length (state_line epsv eprt) ≤ longest_answer
unfolding state_line
state-most false false = omega arith
state-most false true = omega arith
state-most true false = omega arith
state-most true true = omega arith

-- no answer is longer than 48 octets
pub answer-most : (a : OwnAnswer) → length (answer_line a) ≤ longest_answer
unfolding answer_line
answer-most ProtocolNotSupported = omega arith
answer-most ParameterNotImplemented = omega arith
answer-most (State sw) = state-most sw.epsv sw.eprt
