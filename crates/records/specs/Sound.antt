-- Which records number 4 refuses, and which calls are refused at all.
use Rattle.std.specs.Prelude.{Bool, true, false, ◌&&◌, ◌||◌, List, ℕ, ◌≤◌, leb, take}
use Rattle.std.specs.Prelude.{Option}
use Rattle.rules.specs.Octets.{every}
use Rattle.rules.specs.Lines.{most_held}
use Rattle.rules.specs.Replies.{is_open}
use Rattle.rules.specs.Answers.{Side, client, server, side_of, most_owed, sound_held, sound_record, refusal}
use Rattle.rules.specs.declared.Answer.{Answer}
use Rattle.queue.specs.Kinds.{is_listed}
use Rattle.places.specs.declared.Direction.{Direction}
use Rattle.records.specs.declared.Control.{Control}
use Rattle.records.specs.declared.Session.{Session}
use Rattle.places.specs.Places.{is_holding, is_ended, is_flowing_or_ended}

-- not "over 511 octets held, or octets held where the line already flows, the direction has ended or its octets pass at once"
unfoldable pub sound_direction : Direction → Bool
sound_direction d = sound_held (is_holding d.place) d.held

-- number 4 is not given for a record with this mark `live`, this control and these kinds
abbrev pub sound_of : Bool → Control → List ℕ → Bool
sound_of live c kinds =
    sound_record live c.owed (every is_listed (take c.owed kinds)) (sound_direction c.client) (sound_direction c.server)

-- number 4 is not given for a record
unfoldable pub sound : Session → Bool
sound s = sound_of s.live s.control s.kinds

-- the direction of a side
abbrev pub direction_of : Side → Control → Direction
direction_of client c = c.client
direction_of server c = c.server

-- what refuses a call on a direction: "Order: 3, 4, 6"
abbrev pub refusal_on : Bool → Control → List ℕ → ℕ → Option Answer
refusal_on live c kinds d = refusal d (sound_of live c kinds) (is_ended (direction_of (side_of d) c).place)

-- the same of a record
unfoldable pub refusal_of : Session → ℕ → Option Answer
refusal_of s d = refusal d (sound s) (is_ended (direction_of (side_of d) s.control).place)

-- ---- what the arrays can hold

-- a record's arrays can hold these counts; number 4 refuses a record of others
unfoldable pub holdable : Control → Bool
holdable c = leb c.owed most_owed && leb c.client.held most_held && leb c.server.held most_held

-- the same as a fact
pub record Counted (c : Control) : Type 0 where
  pub owed : c.owed ≤ most_owed
  pub command : c.client.held ≤ most_held
  pub reply : c.server.held ≤ most_held

-- the side that the code's test names
abbrev pub side_if : Bool → Side
side_if true = client
side_if false = server

-- ---- own answers wait

-- "unless a reply is unfinished, a server line is flowing, or the server direction has ended"
unfoldable pub blocked : Control → Bool
blocked c = is_open c.opening || is_flowing_or_ended c.server.place

-- this page's definitions, for a proof that computes with them
unfoldable pub sound-opened : Unit {0}
unfolding sound_direction sound refusal_of holdable blocked
sound-opened = tt
