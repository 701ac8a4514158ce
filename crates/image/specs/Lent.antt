-- Calls on the record of an image, in memory that a host lends: the memory and the two buffers after them, and what is told.
use Rattle.std.specs.Prelude.{◌≡◌, ℕ, List, length, nat_le}
use Rattle.rules.specs.Octets.{choose}
use Rattle.rules.specs.Answers.{Side, client, server, answer_number}
use Rattle.records.specs.Layout.{command_at, reply_at, client_place_at, server_place_at, client_telnet_at, server_telnet_at, client_held_at, server_held_at, up_written_at, down_written_at}
use Rattle.output.specs.Buffer.{put_at}
use Rattle.records.specs.declared.Session.{Session}
use Rattle.session.specs.declared.Called.{Called}
use Rattle.counts.specs.Counts.{written_from}
use Rattle.session.specs.Calls.{Outcome, state_of, session_after, arrived, end_step, buffer_after, end_called}
use Rattle.image.specs.declared.arrival.Told.{Told}
use Rattle.image.specs.Image.{image_of, session_of}

-- an arrival on the record of an image
unfoldable pub arrived_on : List ℕ → ℕ → List ℕ → List ℕ → List ℕ → Outcome
arrived_on image direction octets to_server to_client =
    arrived (session_of image) direction octets (length to_server) (length to_client)

-- an end on the record of an image
unfoldable pub ended_on : List ℕ → ℕ → List ℕ → List ℕ → Outcome
ended_on image direction to_server to_client = end_called (session_of image) direction (length to_server) (length to_client)

-- "With 3, 4 and 6 nothing is written and the record comes back equal"
unfoldable pub image_after : List ℕ → Called → List ℕ
image_after image k = choose (nat_le 3 (answer_number k.answer)) image (put_at image 0 (image_of k.session))

-- "Buffers keep their old contents beyond the written count"
unfoldable pub server_after : Outcome → List ℕ → List ℕ
server_after o out = buffer_after client o out

-- the same of the buffer for the client
unfoldable pub client_after : Outcome → List ℕ → List ℕ
client_after o out = buffer_after server o out

-- the record after a side has ended, and n octets of it were written
abbrev pub ended_with : Session → Side → ℕ → Session
ended_with s d n = session_after s d 0 (written_from d n).server (written_from d n).client (end_step d (state_of s)).state

-- where an image has a side's place
abbrev pub place_at : Side → ℕ
place_at client = client_place_at
place_at server = server_place_at

-- its Telnet state
abbrev pub telnet_at : Side → ℕ
telnet_at client = client_telnet_at
telnet_at server = server_telnet_at

-- the number of its held octets
abbrev pub held_at : Side → ℕ
held_at client = client_held_at
held_at server = server_held_at

-- its line: the command's, or the reply's
abbrev pub line_at : Side → ℕ
line_at client = command_at
line_at server = reply_at

-- and the count of what was written for it
abbrev pub written_at : Side → ℕ
written_at client = up_written_at
written_at server = down_written_at

-- what a call returned, beside the record
pub record Tells (r : Told) (k : Called) : Type 0 where
  pub answer : r.answer ≡ k.answer
  pub taken : r.taken ≡ k.taken
  pub written : r.written ≡ k.written
