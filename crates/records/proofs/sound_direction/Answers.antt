-- `records::sound_direction` meets its contract, test by test.
use Rattle.std.proofs.Common.{rules, tests}
use Rattle.rules.specs.Octets.{choose}
use Rattle.rules.specs.Lines.{judged}
use Rattle.rules.specs.Answers.{sound_held}
use Rattle.records.specs.Sound.{sound_direction as is_sound}
use Rattle.records.proofs.Refusals.{none-held}
use Rattle.records.proofs.sound_direction.Goals as goal

pub returns-then-direction-eq0 : goal.returns-then-direction-eq0
returns-then-direction-eq0 c = search (rules, tests, none-held)

pub returns-then-is_holding : goal.returns-then-is_holding
unfolding is_sound sound_held choose judged
returns-then-is_holding c = search (rules, tests)

pub returns-else-is_holding : goal.returns-else-is_holding
unfolding is_sound sound_held choose judged
returns-else-is_holding c = search (rules, tests)
