-- `records::queue_full` meets its contract, test by test.
use Rattle.std.proofs.Common.{rules, tests}
use Rattle.rules.specs.Answers.{is_queue_full}
use Rattle.records.proofs.queue_full.Goals as goal

pub returns-then-not-is_passing : goal.returns-then-not-is_passing
unfolding is_queue_full
returns-then-not-is_passing c = search (rules, tests)

pub returns-else-not-is_passing : goal.returns-else-not-is_passing
unfolding is_queue_full
returns-else-not-is_passing c = search (rules, tests)
