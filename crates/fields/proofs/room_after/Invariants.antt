-- `fields::room_after` meets its contract. The invariant: after the octets from there on, `left` leaves what `room` leaves after all.
use mathlib.Core.Path.{◌≡◌}
use lib.ListN.{length, drop}
use Rattle.fields.specs.Report.{shown_all, field}
use Rattle.fields.specs.Parts.{room_after}
use Rattle.fields.proofs.room_after.Given as goal

abbrev pub invariant-loop-x : goal.invariant-loop-x
invariant-loop-x l = room_after l.room (length (field l.octets)) ≡ room_after l.left (length (shown_all (drop l.x-index l.octets)))
