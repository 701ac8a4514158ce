-- `records::sound` meets its contract, test by test.
use Rattle.std.proofs.Common.{rules, tests}
use Rattle.rules.specs.Answers.{sound_record}
use Rattle.records.proofs.sound.Goals as goal

pub returns-then-sound_direction : goal.returns-then-sound_direction
unfolding sound_record
returns-then-sound_direction c = search (rules, tests)

pub returns-else-sound_direction : goal.returns-else-sound_direction
unfolding sound_record
returns-else-sound_direction c = search (rules, tests)
