-- `queue::due` meets its contract. The invariant: what is counted, and the answers from number `leaving` on, make the whole.
use mathlib.Core.Path.{◌≡◌}
use Prim.Native.Nat.{◌+◌, ◌*◌, ◌≤◌, ◌-◌}
use lib.ListN.{length, drop}
use Rattle.rules.specs.Replies.{head_answers}
use Rattle.rules.specs.Answers.{most_owed, most_answers, longest_answer}
use Rattle.queue.specs.Kinds.{queue_of, answers_at_head}
use Rattle.queue.proofs.due.Given as goal

abbrev pub invariant-loop-answer : goal.invariant-loop-answer
invariant-loop-answer l =
    (l.from + answers_at_head (drop l.from (queue_of l.kinds l.owed)) ≡ l.leaving + answers_at_head (drop l.leaving (queue_of l.kinds l.owed)))
    × (length (head_answers (drop l.from (queue_of l.kinds l.owed))) ≡ l.answers + length (head_answers (drop l.leaving (queue_of l.kinds l.owed))))
    × (l.answers + longest_answer * (most_owed - l.leaving) ≤ most_answers)

abbrev pub decreases-loop-answer : goal.decreases-loop-answer
decreases-loop-answer l = most_owed - l.leaving
