-- `queue::put_answers` meets its contract. The invariant: the answers from number `i` on remain to be put.
use Prim.Native.Nat.{◌-◌}
use lib.ListN.{drop}
use Rattle.rules.specs.Replies.{head_answers}
use Rattle.rules.specs.Answers.{most_owed}
use Rattle.queue.specs.Kinds.{queue_of}
use Rattle.queue.proofs.Placing.{Remaining}
use Rattle.queue.proofs.put_answers.Given as goal

abbrev pub invariant-loop-answer : goal.invariant-loop-answer
invariant-loop-answer l =
    Remaining l.initial.out l.at (head_answers (drop l.from (queue_of l.kinds l.owed))) l.out l.place (head_answers (drop l.i (queue_of l.kinds l.owed)))

abbrev pub decreases-loop-answer : goal.decreases-loop-answer
decreases-loop-answer l = most_owed - l.i
