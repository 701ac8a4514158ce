-- "Each gets the record the last one returned": the memory of a host in C holds that record between calls.
use Rattle.std.specs.Prelude.{◌≡◌, true, List, ℕ, ◌≤◌, ◌<◌, leb, length, get_or}
use Rattle.rules.specs.Octets.{every}
use Rattle.rules.specs.Answers.{answer_number}
use Rattle.rules.specs.declared.Answer.{Answer}
use Rattle.rules.specs.Setup.{ipv6_width, ipv4_width, setup_in}
use Rattle.records.specs.Layout.{image_size}
use Rattle.output.specs.Buffer.{put_at}
use Rattle.records.specs.declared.Session.{Session}
use Rattle.session.specs.Bounds.{Shaped}
use Rattle.setups.specs.Setups.{fresh_session, prepared_from}
use Rattle.session.specs.Calls.{Outcome}
use Rattle.answers.specs.Table.{Situation, Result, Sound}
use Rattle.image.specs.Image.{image_of, session_of, Wrapped}
use Rattle.image.specs.Lent.{ended_on, image_after}

-- a record is read from the memory, and number 4 does not refuse it; the sizes are those of its types
pub record Holds (image : List ℕ) (s : Session) : Type 0 where
  pub room : image_size ≤ length image
  pub read : session_of image ≡ s
  pub shaped : Shaped s
  pub client : length s.fixed.client ≡ ipv6_width
  pub server : length s.fixed.server ≡ ipv4_width
  pub up : Wrapped s.up
  pub down : Wrapped s.down
  pub sound : Sound s

-- after a setup that answered 0 it holds the fresh session
abbrev pub Begun : Type 0
Begun =
    (image octets : List ℕ) → image_size ≤ length image → every (λ n. leb n 255) octets ≡ true → (prepared_from octets).answer ≡ Answer.Done
    → Holds (put_at image 0 (image_of (prepared_from octets).session)) (fresh_session (setup_in octets))

-- after an arrival or an end, whatever it answered, it holds the record that the session returned
abbrev pub Carried : Type 0
Carried =
    (image : List ℕ) (c : Situation) (o : Outcome) → Holds image c.session → Result c o
    → Holds (image_after image o.called) o.called.session

-- "if they do not fit, answer 2 and nothing changes": the octets of the memory are the same
abbrev pub EndKeeps : Type 0
EndKeeps =
    (image : List ℕ) (direction : ℕ) (to_server to_client : List ℕ) → ((i : ℕ) → get_or image i 0 < 256)
    → answer_number (ended_on image direction to_server to_client).called.answer ≡ 2
    → image_after image (ended_on image direction to_server to_client).called ≡ image
