-- What a run of octets makes of a state, and what was taken before the rest.
use Rattle.std.specs.Prelude.{List, [], ◌++◌, ◌≡◌, true, ℕ, ◌+◌, ◌-◌, ◌≤◌, length, take, drop}
use Rattle.rules.specs.Octets.{every}
use Rattle.rules.specs.Lines.{is_ordinary}
use Rattle.rules.specs.Answers.{Side, client, server}
use Rattle.output.specs.Buffer.{put_at}
use Rattle.places.specs.declared.Place.{Place}
use Rattle.places.specs.declared.Direction.{Direction}
use Rattle.records.specs.Sound.{direction_of, Counted}
use Rattle.places.specs.Places.{at}
use Rattle.rules.specs.declared.Fixed.{Fixed}
use Rattle.steps.specs.Steps.{State}
use Rattle.arrivals.specs.declared.running.DirectionRun.{DirectionRun}
use Rattle.records.specs.declared.Control.{Control}
use Rattle.records.specs.Controls.{with_client, with_server}
use Rattle.steps.specs.Settled.{Settled}
use Rattle.steps.specs.Takes.{Took, takes, Core, core_from, state_from}

-- n octets taken, for which a went to the server and b to the client, and then r
abbrev pub prefixed : ℕ → List ℕ → List ℕ → Took → Took
prefixed n a b r =
    record { answer = r.answer; taken = n + r.taken; to_server = a ++ r.to_server; to_client = b ++ r.to_client; state = r.state }

-- what goes to the server of octets that a side gives on, and what to the client
abbrev pub to_server_of : Side → List ℕ → List ℕ
to_server_of client xs = xs
to_server_of server xs = []

-- what goes to the client: only the server's octets do
abbrev pub to_client_of : Side → List ℕ → List ℕ
to_client_of client xs = []
to_client_of server xs = xs

-- the array in which a side's octets are held
abbrev pub line_of : Side → State → List ℕ
line_of client s = s.command
line_of server s = s.reply

-- a state with another direction and array of the client's
abbrev pub with_command : State → Direction → List ℕ → State
with_command s d line = state_from (with_client s.control s.control.switches d s.control.owed) line s.reply s.kinds

-- the same of the server's
abbrev pub with_reply : State → Direction → List ℕ → State
with_reply s d line = state_from (with_server s.control d s.control.owed s.control.opening) s.command line s.kinds

-- a state with another direction and array of a side's
abbrev pub with_line : Side → State → Direction → List ℕ → State
with_line client s d line = with_command s d line
with_line server s d line = with_reply s d line

-- a state in which a side holds the first n octets of an array
abbrev pub holding : Side → State → ℕ → List ℕ → State
holding d s n line = with_line d s (at Place.Holding n) line

-- a state in which a side holds xs behind what it held
abbrev pub holds_more : Side → State → List ℕ → State
holds_more d s xs =
    holding d s ((direction_of d s.control).held + length xs) (put_at (line_of d s) (direction_of d s.control).held xs)

-- A run of the octets of l from i to j leads from k to k': what is taken from i on is those octets, with the texts that
-- they give, and what is taken from j on, whatever the room; and the texts stand in the buffers.
pub record Ran (f : Fixed) (d : Side) (l : List ℕ) (k : Core) (i : ℕ) (k' : Core) (j : ℕ) : Type 0 where
  pub to_server : List ℕ
  pub to_client : List ℕ
  pub forward : i ≤ j
  pub inside : j ≤ length l
  pub server : k.written.server + length to_server ≤ length k.server_buffer
  pub client : k.written.client + length to_client ≤ length k.client_buffer
  pub rest : (m n : ℕ) → length to_server ≤ m → length to_client ≤ n
      → takes f d k.state (drop i l) m n
      ≡ prefixed (j - i) to_server to_client (takes f d k'.state (drop j l) (m - length to_server) (n - length to_client))
  pub core : k'
      ≡ core_from k'.state (put_at k.server_buffer k.written.server to_server)
      (put_at k.client_buffer k.written.client to_client)
      (record { server = k.written.server + length to_server; client = k.written.client + length to_client })
  pub counted : Counted k.state.control → Counted k'.state.control

-- nothing is left to settle, whatever is held
abbrev pub Quiet : Control → List ℕ → Type 0
Quiet c kinds = (command reply : List ℕ) → Settled (state_from c command reply kinds)

-- octets that a direction gives on as they come: none; any where octets pass; ordinary ones of a line that flows
pub data GivesOn (d : Direction) (xs : List ℕ) : Type 0 where
  gives_nothing : xs ≡ [] → GivesOn d xs
  gives_passing : d ≡ at Place.Passing 0 → GivesOn d xs
  gives_flowing : d ≡ at Place.Flowing 0 → every is_ordinary xs ≡ true → GivesOn d xs

-- what the octets xs do in one direction: they go behind the n octets of its buffer, or behind those of a line that it holds
pub data Moved (xs : List ℕ) (d : Direction) (line out : List ℕ) (n : ℕ) (d' : Direction) (line' out' : List ℕ) (n' : ℕ) : Type 0 where
  moved_on : GivesOn d xs → n + length xs ≤ length out → d' ≡ d → line' ≡ line → out' ≡ put_at out n xs → n' ≡ n + length xs
      → Moved xs d line out n d' line' out' n'
  moved_behind : d.place ≡ Place.Holding → every is_ordinary xs ≡ true → d.held + length xs ≤ length line
      → d' ≡ at Place.Holding (d.held + length xs) → line' ≡ put_at line d.held xs → out' ≡ out → n' ≡ n
      → Moved xs d line out n d' line' out' n'

-- a run of the octets of l from i on, of a direction that stands at d, holds them in line and gives them on into out
pub record DirectionRan (l : List ℕ) (i : ℕ) (d : Direction) (line out : List ℕ) (n : ℕ) (r : DirectionRun) (line' out' : List ℕ) : Type 0 where
  pub forward : i ≤ r.taken
  pub inside : r.taken ≤ length l
  pub moved : Moved (take (r.taken - i) (drop i l)) d line out n r.direction line' out' r.at
