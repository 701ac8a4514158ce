-- `records::blocked` meets its contract: by the reply, and then by the place.
use Rattle.std.proofs.Common.{rules, tests}
use Rattle.places.specs.Places.{is_flowing_or_ended}
use Rattle.records.specs.Sound.{blocked as is_blocked}
use Rattle.records.proofs.blocked.Goals as goal

pub returns-then-control-ne0 : goal.returns-then-control-ne0
unfolding is_blocked
returns-then-control-ne0 c = search (rules, tests)

pub returns-in-Flowing : goal.returns-in-Flowing
unfolding is_blocked is_flowing_or_ended
returns-in-Flowing c = search (rules, tests)

pub returns-in_default : goal.returns-in_default
unfolding is_blocked is_flowing_or_ended
returns-in_default c = search (rules, tests)
