-- Where a direction stands.
use Rattle.std.specs.Prelude.{Bool, true, false, ℕ}
use Rattle.places.specs.declared.Place.{Place}
use Rattle.places.specs.declared.Direction.{Direction}

-- a direction's place, and how many octets it holds
abbrev pub at : Place → ℕ → Direction
at p n = record { place = p; held = n }

-- its line's octets are held
abbrev pub is_holding : Place → Bool
is_holding Place.Holding = true
is_holding Place.Flowing = false
is_holding Place.Passing = false
is_holding Place.Ended = false

-- its long line flows
abbrev pub is_flowing : Place → Bool
is_flowing Place.Holding = false
is_flowing Place.Flowing = true
is_flowing Place.Passing = false
is_flowing Place.Ended = false

-- its octets pass at once; of the client, "AUTH yet"
abbrev pub is_passing : Place → Bool
is_passing Place.Holding = false
is_passing Place.Flowing = false
is_passing Place.Passing = true
is_passing Place.Ended = false

-- "that direction has ended"
abbrev pub is_ended : Place → Bool
is_ended Place.Holding = false
is_ended Place.Flowing = false
is_ended Place.Passing = false
is_ended Place.Ended = true

-- its octets are read as lines, with the Telnet layer below them
abbrev pub is_in_lines : Place → Bool
is_in_lines Place.Holding = true
is_in_lines Place.Flowing = true
is_in_lines Place.Passing = false
is_in_lines Place.Ended = false

-- "a server line is flowing, or the server direction has ended"
unfoldable pub is_flowing_or_ended : Place → Bool
is_flowing_or_ended Place.Holding = false
is_flowing_or_ended Place.Flowing = true
is_flowing_or_ended Place.Passing = false
is_flowing_or_ended Place.Ended = true

-- "all later ones pass at once", unless the direction has ended
abbrev pub direction_from_now : Direction → Place → Direction
direction_from_now d Place.Holding = at Place.Passing 0
direction_from_now d Place.Flowing = at Place.Passing 0
direction_from_now d Place.Passing = at Place.Passing 0
direction_from_now d Place.Ended = d

-- this page's definitions, for a proof that computes with them
unfoldable pub places-opened : Unit {0}
unfolding is_flowing_or_ended
places-opened = tt
