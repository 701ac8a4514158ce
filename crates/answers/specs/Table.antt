-- Document 01's table of answers in words: each row's "given exactly when" as a type. The theorems are in proofs/Table.antt.
use Rattle.std.specs.Prelude.{◌≡◌, true, false, List, [], ◌∷◌, ◌++◌, ◌≢◌, ◌⊎◌, ℕ, ◌-◌, ◌^◌, ◌≤◌, ◌<◌, length, take, get_or}
use Rattle.rules.specs.Answers.{Side, client, server, side_of, answer_number, most_owed}
use Rattle.rules.specs.Lines.{most_held, passed}
use Rattle.rules.specs.Setup.{eprt_on, eprt_supported}
use Rattle.queue.specs.Kinds.{last_code}
use Rattle.places.specs.declared.Place.{Place}
use Rattle.places.specs.declared.Direction.{Direction}
use Rattle.rules.specs.declared.Fixed.{Fixed}
use Rattle.records.specs.declared.Session.{Session}
use Rattle.steps.specs.Steps.{State, Step, held_of, octet_step}
use Rattle.records.specs.Sound.{direction_of}
use Rattle.records.specs.Controls.{unfinished_of}
use Rattle.session.specs.Calls.{state_of, session_after, Outcome, arrived, end_called, end_step}

-- ---- calls

-- a record, a direction, and the room in each buffer: octets arrive there, or the direction ends
pub record Situation : Type 0 where
  pub session : Session
  pub direction : ℕ
  pub server_room : ℕ
  pub client_room : ℕ

-- an arrival of octets in a situation
abbrev pub arrived_at : Situation → List ℕ → Outcome
arrived_at c octets = arrived c.session c.direction octets c.server_room c.client_room

-- an end in a situation
abbrev pub ended_at : Situation → Outcome
ended_at c = end_called c.session c.direction c.server_room c.client_room

-- what an arrival or an end gives
pub data Result (c : Situation) : Outcome → Type 0 where
  of_arrival : (octets : List ℕ) → Result c (arrived_at c octets)
  of_end : Result c (ended_at c)

-- the table's first column
abbrev pub number_of : Outcome → ℕ
number_of o = answer_number o.called.answer

-- ---- 3, 4 and 6

-- 3: "direction is neither 0 nor 1"
abbrev pub Unknown : ℕ → Type 0
Unknown d = (d ≢ 0) × (d ≢ 1)

-- not 3: "a direction (0 client, 1 server)"
abbrev pub Known : ℕ → Type 0
Known d = (d ≡ 0) ⊎ (d ≡ 1)

-- not 4: not "over 511 octets held, or octets held where the line already flows, the direction has ended or its octets pass at once"
pub record SoundDirection (d : Direction) : Type 0 where
  pub most : d.held ≤ most_held
  pub none : d.place ≢ Place.Holding → d.held ≡ 0

-- not 4: not "record not live, over 16 owed, an owed kind not listed here", nor octets held as above; kinds have the numbers from 0 to the last.
-- A Telnet command that is unfinished is no octet held
pub record Sound (s : Session) : Type 0 where
  pub live : s.live ≡ true
  pub owed : s.control.owed ≤ most_owed
  pub listed : (i : ℕ) → i < s.control.owed → get_or s.kinds i 0 ≤ last_code
  pub client : SoundDirection s.control.client
  pub server : SoundDirection s.control.server

-- 6: "that direction has ended"
abbrev pub HasEnded : Session → ℕ → Type 0
HasEnded s d = (direction_of (side_of d) s.control).place ≡ Place.Ended

-- "Order: 3, 4, 6": none of them
pub record Accepted (c : Situation) : Type 0 where
  pub known : Known c.direction
  pub sound : Sound c.session
  pub not_ended : HasEnded c.session c.direction → ⊥

-- "nothing is written and the record comes back equal"
pub record Untouched (s : Session) (o : Outcome) : Type 0 where
  pub taken : o.called.taken ≡ 0
  pub written_server : o.called.written.server ≡ 0
  pub written_client : o.called.written.client ≡ 0
  pub to_server : o.to_server ≡ []
  pub to_client : o.to_client ≡ []
  pub session : o.called.session ≡ s

-- ---- "then octet by octet 1 before 2"

-- octets one after the other: the state then, and all that they wrote
unfoldable pub octet_steps : Fixed → Side → State → List ℕ → Step
octet_steps f d s [] = record { state = s; to_server = []; to_client = [] }
octet_steps f d s (x ∷ xs) =
    let t = octet_step f d s x in
    let r = octet_steps f d t.state xs in
    record { state = r.state; to_server = t.to_server ++ r.to_server; to_client = t.to_client ++ r.to_client }

module _ (c : Situation) (octets : List ℕ) where
  -- what the first k octets make
  abbrev pub before : ℕ → Step
  before k = octet_steps c.session.fixed (side_of c.direction) (state_of c.session) (take k octets)

  -- what the next one makes then
  abbrev pub next_step : ℕ → Step
  next_step k = octet_step c.session.fixed (side_of c.direction) (before k).state (get_or octets k 0)

  -- 1: "next octet is the client's, no AUTH yet, 16 replies owed", be it of a line or not; after AUTH the client's octets pass at once
  pub record Full (k : ℕ) : Type 0 where
    pub client : c.direction ≡ 0
    pub no_auth : (before k).state.control.client.place ≢ Place.Passing
    pub owed : most_owed ≤ (before k).state.control.owed

  -- 2: "next octet's output .. exceeds the room left in either buffer": one of either side may write into both
  abbrev pub Exceeds : ℕ → Type 0
  Exceeds k =
      (c.server_room - length (before k).to_server < length (next_step k).to_server)
      ⊎ (c.client_room - length (before k).to_client < length (next_step k).to_client)

  -- neither is so before octet k
  pub record NotStopped (k : ℕ) : Type 0 where
    pub not_full : Full k → ⊥
    pub room : Exceeds k → ⊥

  -- "Taken: those before it": the first k octets are taken
  pub record Takes (k : ℕ) : Type 0 where
    pub accepted : Accepted c
    pub each : (j : ℕ) → j < k → NotStopped j

  -- 0: "all octets taken"
  pub record Zero (k : ℕ) : Type 0 where
    pub takes : Takes k
    pub all : k ≡ length octets

  -- the first k octets are taken, and the next one is not, since `why` is so
  pub record StopsAt (k : ℕ) (why : Type 0) : Type 0 where
    pub takes : Takes k
    pub more : k < length octets
    pub reason : why

  -- 1, before octet k
  abbrev pub One : ℕ → Type 0
  One k = StopsAt k (Full k)

  -- "1 before 2"
  abbrev pub Two : ℕ → Type 0
  Two k = StopsAt k ((Full k → ⊥) × Exceeds k)

  -- "the record, written octets and counts are those after the octets taken"
  pub record After (k : ℕ) (o : Outcome) : Type 0 where
    pub to_server : o.to_server ≡ (before k).to_server
    pub to_client : o.to_client ≡ (before k).to_client
    pub written_server : o.called.written.server ≡ length (before k).to_server
    pub written_client : o.called.written.client ≡ length (before k).to_client
    pub session : o.called.session ≡ session_after c.session (side_of c.direction) k (length (before k).to_server) (length (before k).to_client) (before k).state

-- ---- an end

-- what a direction's end lets go: what its held octets give, and "any other command still unfinished passes after them"
abbrev pub end_gives : Side → Session → List ℕ
end_gives d s = passed (held_of d (state_of s)) ++ unfinished_of d s.control

-- the room in the one buffer that this goes into: the client's octets go to the server, and the server's to the client
abbrev pub room_for : Side → Situation → ℕ
room_for client c = c.server_room
room_for server c = c.client_room

-- 2: "at an end the held octets, exceeds the room left"; "at an end number 2 counts its octets with the held ones", those of a
-- command still unfinished
abbrev pub EndExceeds : Situation → Type 0
EndExceeds c = room_for (side_of c.direction) c < length (end_gives (side_of c.direction) c.session)

-- what goes to the side that a direction leads to, and to the one that it comes from
abbrev pub onward : Side → Outcome → List ℕ
onward client o = o.to_server
onward server o = o.to_client

-- what goes to the one that it comes from
abbrev pub back : Side → Outcome → List ℕ
back client o = o.to_client
back server o = o.to_server

-- "Ending a direction passes its held octets on unchanged and owes nothing for them", nor for an unfinished command behind them
pub record Ends (c : Situation) (o : Outcome) : Type 0 where
  pub passed : onward (side_of c.direction) o ≡ end_gives (side_of c.direction) c.session
  pub nothing : back (side_of c.direction) o ≡ []
  pub taken : o.called.taken ≡ 0
  pub owed : o.called.session.control.owed ≡ c.session.control.owed
  pub kinds : o.called.session.kinds ≡ c.session.kinds
  pub over : HasEnded o.called.session c.direction
  pub written_server : o.called.written.server ≡ length o.to_server
  pub written_client : o.called.written.client ≡ length o.to_client
  pub session : o.called.session ≡ session_after c.session (side_of c.direction) 0 (length o.to_server) (length o.to_client) (end_step (side_of c.direction) (state_of c.session)).state

-- ---- setup

-- 5: "an undefined flag bit, or EPRT on and not supported", where by request 4 of document 02 bit 3 is defined
abbrev pub BadFlags : ℕ → Type 0
BadFlags flags = (2 ^ 4 ≤ flags) ⊎ ((eprt_on flags ≡ true) × (eprt_supported flags ≡ false))
