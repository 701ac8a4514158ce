-- Our session as a gateway of demand 3: its record, a fresh one, what its functions promise, its offsets and what it removed.
use Rattle.std.specs.Prelude.{Option, None, Some}
use Rattle.std.specs.Prelude.{◌≡◌, List, [], ◌∷◌, ◌++◌, ℕ, length, take, drop}
use Rattle.rules.specs.Answers.{Side, client, server, side_of}
use Rattle.rules.specs.declared.Setup.{Setup}
use Rattle.rules.specs.declared.Fixed.{Fixed}
use Rattle.rules.specs.Items.{Piece}
use Rattle.rules.specs.Demand3.{Call, arrival, ending, Return, Gateway, lent_server, lent_client}
use Rattle.rules.specs.declared.Answer.{Answer}
use Rattle.records.specs.declared.Session.{Session}
use Rattle.records.specs.Controls.{layer_in}
use Rattle.steps.specs.Steps.{State, Step, octet_step}
use Rattle.session.specs.declared.Called.{Called}
use Rattle.setups.specs.Setups.{prepared}
use Rattle.counts.specs.Counts.{offset as session_offset}
use Rattle.session.specs.Calls.{Outcome, state_of, arrived, end_step, end_called as session_ended}

-- "the record of a setup that answered 0". Nothing is asked of the addresses: the arrays of the record have their lengths from setup on
pub record Fresh (su : Setup) (r : Session) : Type 0 where
  pub answer : (prepared su).answer ≡ Answer.Done
  pub session : r ≡ (prepared su).session

-- what arrive and end do by the session's definitions
unfoldable pub outcome_of : Session → Call → Outcome
outcome_of r (arrival d octets s c) = arrived r d octets (length s) (length c)
outcome_of r (ending d s c) = session_ended r d (length s) (length c)

-- ---- "told apart by the octet or end that wrote it"

-- what a step writes to each side
abbrev pub piece_of : Step → Piece
piece_of t = record { to_server = t.to_server; to_client = t.to_client }

-- what each octet of a text writes, one after the other, from a state on
unfoldable pub octet_pieces : Fixed → Side → State → List ℕ → List Piece
octet_pieces f d s [] = []
octet_pieces f d s (x ∷ xs) = let t = octet_step f d s x in piece_of t ∷ octet_pieces f d t.state xs

-- what an end writes that answered so: one piece with 0, else none
abbrev pub end_pieces : Answer → Step → List Piece
end_pieces Answer.Done t = piece_of t ∷ []
end_pieces Answer.QueueFull t = []
end_pieces Answer.NoRoom t = []
end_pieces Answer.UnknownDirection t = []
end_pieces Answer.BadRecord t = []
end_pieces Answer.BadSetup t = []
end_pieces Answer.DirectionEnded t = []

-- the pieces of a call on a record that gave this answer and took so many octets
abbrev pub call_pieces : Session → Call → Answer → ℕ → List Piece
call_pieces r (arrival d octets s c) answer taken = octet_pieces r.fixed (side_of d) (state_of r) (take taken octets)
call_pieces r (ending d s c) answer taken = end_pieces answer (end_step (side_of d) (state_of r))

-- ---- what calls promise

-- what a call on a record returned: the struct, and the buffers then
abbrev pub returned : Session → Call → Called → List ℕ → List ℕ → Return Session
returned r c t server_buffer client_buffer =
    record {
      answer = t.answer;
      taken = t.taken;
      to_server = t.written.server;
      to_client = t.written.client;
      session = t.session;
      server_buffer = server_buffer;
      client_buffer = client_buffer;
      pieces = call_pieces r c t.answer t.taken;
    }

-- what arrive and end promise: the struct they return, each buffer with its old contents beyond what was written, and the pieces of
-- what was taken
pub record Promise (r : Session) (c : Call) (t : Return Session) : Type 0 where
  pub answer : t.answer ≡ (outcome_of r c).called.answer
  pub taken : t.taken ≡ (outcome_of r c).called.taken
  pub to_server : t.to_server ≡ (outcome_of r c).called.written.server
  pub to_client : t.to_client ≡ (outcome_of r c).called.written.client
  pub session : t.session ≡ (outcome_of r c).called.session
  pub server_buffer : t.server_buffer ≡ (outcome_of r c).to_server ++ drop t.to_server (lent_server c)
  pub client_buffer : t.client_buffer ≡ (outcome_of r c).to_client ++ drop t.to_client (lent_client c)
  pub pieces : t.pieces ≡ call_pieces r c t.answer t.taken

-- "a direction (0 client, 1 server)"
abbrev pub direction_number : Side → ℕ
direction_number client = 0
direction_number server = 1

-- the number that offset returns; it returns one for both directions
abbrev pub returned_offset : Option ℕ → ℕ
returned_offset (Some n) = n
returned_offset None = 0

-- the session as a gateway: these, its offsets, and the counts of octets removed
abbrev pub gateway : Gateway
gateway =
    record {
      Session = Session;
      Fresh = Fresh;
      Promise = Promise;
      offset = λ r side. returned_offset (session_offset r (direction_number side));
      removed = λ r side. (layer_in side r.control).removed;
    }
