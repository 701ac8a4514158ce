-- What an arrival and an end answer, take, write and leave in the record.
use Rattle.std.specs.Prelude.{Bool, true, false, List, [], ◌++◌, ℕ, leb, length, drop}
use Rattle.std.specs.Prelude.{Option, None, Some}
use Rattle.rules.specs.Answers.{Side, client, server, side_of, fits}
use Rattle.rules.specs.declared.Answer.{Answer}
use Rattle.records.specs.Controls.{with_ended}
use Rattle.records.specs.declared.Session.{Session}
use Rattle.records.specs.Sound.{refusal_of, sound-opened}
use Rattle.session.specs.declared.Called.{Called}
use Rattle.steps.specs.Steps.{State, Step, let_go_of}
use Rattle.steps.specs.Takes.{Took, takes, takes-opened}
use Rattle.setups.specs.Setups.{setups-opened}
use Rattle.counts.specs.Counts.{counted, taken_for, counts-opened}

-- ---- what an arrival works on

-- what octets change in a record
abbrev pub state_of : Session → State
state_of s = record { control = s.control; command = s.command; reply = s.reply; kinds = s.kinds }

-- ---- the record after a call

-- the state then, and the counts; the rest of the record stays
unfoldable pub session_after : Session → Side → ℕ → ℕ → ℕ → State → Session
session_after s d taken to_server to_client t =
    record {
      live = s.live;
      fixed = s.fixed;
      control = t.control;
      command = t.command;
      reply = t.reply;
      kinds = t.kinds;
      up = counted s.up (taken_for client d taken) to_server;
      down = counted s.down (taken_for server d taken) to_client;
    }

-- ---- a call: what it returns, and what it wrote into each buffer

-- what a call returns, and what it wrote for the server and for the client
pub record Outcome : Type 0 where
  pub called : Called
  pub to_server : List ℕ
  pub to_client : List ℕ

-- "With 3, 4 and 6 nothing is written and the record comes back equal"
unfoldable pub refused : Answer → Session → Outcome
refused a s =
    record { called = record { answer = a; taken = 0; written = record { server = 0; client = 0 }; session = s }; to_server = []; to_client = [] }

-- a call, unless something refuses it
unfoldable pub unless_refused : Option Answer → Session → Outcome → Outcome
unless_refused None s r = r
unless_refused (Some a) s r = refused a s

-- what a call returns for what it took
unfoldable pub outcome : Session → Side → Took → Outcome
outcome s d t =
    record {
      called = record {
        answer = t.answer;
        taken = t.taken;
        written = record { server = length t.to_server; client = length t.to_client };
        session = session_after s d t.taken (length t.to_server) (length t.to_client) t.state;
      };
      to_server = t.to_server;
      to_client = t.to_client;
    }

-- "An arrival is a direction .. and octets; two lent buffers receive octets"
unfoldable pub arrived : Session → ℕ → List ℕ → ℕ → ℕ → Outcome
arrived s d octets server_room client_room =
    unless_refused (refusal_of s d) s
    (outcome s (side_of d) (takes s.fixed (side_of d) (state_of s) octets server_room client_room))

-- ---- ends

-- of a text that one side gives, what goes to a side: all of it to the other, and nothing back
abbrev pub goes_to : Side → Side → List ℕ → List ℕ
goes_to client client l = []
goes_to client server l = l
goes_to server client l = l
goes_to server server l = []

-- "Ending a direction passes its held octets on unchanged and owes nothing for them", and a Telnet command that is unfinished
unfoldable pub end_step : Side → State → Step
end_step d s =
    let l = let_go_of d s in
    record {
      state = record { control = with_ended d s.control; command = s.command; reply = s.reply; kinds = s.kinds };
      to_server = goes_to server d l;
      to_client = goes_to client d l;
    }

-- "if they do not fit, answer 2 and nothing changes"
unfoldable pub end_outcome : Session → Side → Step → Bool → Outcome
end_outcome s d t true =
    outcome s d
    (record { answer = Answer.Done; taken = 0; to_server = t.to_server; to_client = t.to_client; state = t.state })
end_outcome s d t false = refused Answer.NoRoom s

-- an end that nothing refuses, by the room in the one buffer that the held octets go to
unfoldable pub held_end : Session → Side → ℕ → Outcome
held_end s d room = end_outcome s d (end_step d (state_of s)) (leb (length (let_go_of d (state_of s))) room)

-- the buffer that a side's octets go to: "Buffers keep their old contents beyond the written count"
abbrev pub buffer_after : Side → Outcome → List ℕ → List ℕ
buffer_after client o out = o.to_server ++ drop o.called.written.server out
buffer_after server o out = o.to_client ++ drop o.called.written.client out

-- an end: refused, or its held octets pass if they have room
unfoldable pub end_called : Session → ℕ → ℕ → ℕ → Outcome
end_called s d server_room client_room =
    let t = end_step (side_of d) (state_of s) in
    unless_refused (refusal_of s d) s
    (end_outcome s (side_of d) t (fits t.to_server t.to_client server_room client_room))

-- this page's definitions, for a proof that computes with them
unfoldable pub calls-opened : Unit {0}
unfolding sound-opened takes-opened setups-opened counts-opened session_after refused unless_refused outcome arrived end_step end_outcome held_end end_called
calls-opened = tt
