-- The exchanges through setup, arrivals and ends: of all calls that have them as their history, and the short ones computed, octet by octet
-- and in whole parts.
use Rattle.std.specs.Prelude.{List, [], ◌∷◌, ◌++◌, ◌≡◌, ℕ, leb, length}
use Rattle.rules.specs.Octets.{choose}
use Rattle.rules.specs.Answers.{Side, client, server}
use Rattle.rules.specs.History.{Item, octet, end, same_side}
use Rattle.rules.specs.Items.{Piece}
use Rattle.rules.specs.Pieces.{roles_of, spoken}
use Rattle.rules.specs.Demand3.{Call, arrival, ending, Made, FromFresh, history_of, gone_to_server, gone_to_client, spoken_to_server}
use Rattle.rules.specs.Exchanges.{Exchange, exchange_of, Removal, removal, all_on, greeting, server_says, printed}
use Rattle.records.specs.declared.Session.{Session}
use Rattle.setups.specs.Setups.{prepared}
use Rattle.session.specs.Calls.{Outcome, arrived, end_called}
use Rattle.history.specs.Gateway.{octet_pieces, call_pieces, direction_number, gateway}

-- ---- of all calls, wherever the arrivals are cut and whatever the rooms

-- calls from a fresh session that have an exchange, after the greeting, as their history have sent and spoken what the table has
abbrev pub HoldsOf : Exchange → Type 0
HoldsOf e =
    (l : List (Made gateway)) → FromFresh gateway e.setup l → history_of gateway l ≡ server_says greeting ++ e.said
    → (gone_to_server gateway l ≡ (printed e).to_server) × (spoken_to_server gateway e.setup l ≡ (printed e).spoken)
    × (gone_to_client gateway l ≡ (printed e).to_client)

-- it is so of each exchange in a list
abbrev pub EachHolds : List Exchange → Type 0
EachHolds [] = Unit {0}
EachHolds (e ∷ es) = HoldsOf e × EachHolds es

-- the record that such calls leave counts what the table has removed
abbrev pub CountsOf : Removal → Type 0
CountsOf e =
    (l : List (Made gateway)) → (f : FromFresh gateway all_on l) → history_of gateway l ≡ server_says greeting ++ e.said
    → (gateway.removed f.last client ≡ e.from_client) × (gateway.removed f.last server ≡ e.from_server)

-- it does so for each removal in a list
abbrev pub EachCounts : List Removal → Type 0
EachCounts [] = Unit {0}
EachCounts (e ∷ es) = CountsOf e × EachCounts es

-- ---- the short ones computed: of these there are such calls

-- exchanges of few octets; what a long line gives is not computed octet by octet
unfoldable pub short_ones : List Exchange → List Exchange
short_ones [] = []
short_ones (e ∷ es) = choose (leb (length e.said) 64) (e ∷ short_ones es) (short_ones es)

-- octets that arrive together, or an end
pub data Part : Type 0 where
  says : Side → List ℕ → Part
  ends : Side → Part

-- a history with an arrival for each octet
unfoldable pub singly : List Item → List Part
singly [] = []
singly (octet d x ∷ is) = says d (x ∷ []) ∷ singly is
singly (end d ∷ is) = ends d ∷ singly is

-- an octet before parts: into the first one, if that is octets of the same side, or else in a part of its own
unfoldable pub onto_part : Side → ℕ → List Part → List Part
onto_part d x [] = says d (x ∷ []) ∷ []
onto_part d x (says e xs ∷ ps) = choose (same_side d e) (says d (x ∷ xs) ∷ ps) (says d (x ∷ []) ∷ says e xs ∷ ps)
onto_part d x (ends e ∷ ps) = says d (x ∷ []) ∷ ends e ∷ ps

-- a history with an arrival for all octets that a side says in a row
unfoldable pub wholly : List Item → List Part
wholly [] = []
wholly (octet d x ∷ is) = onto_part d x (wholly is)
wholly (end d ∷ is) = ends d ∷ wholly is

-- the room in each buffer
abbrev pub room : ℕ
room = 2000

-- what a part does to a record: an arrival, or an end
unfoldable pub said_outcome : Session → Part → Outcome
said_outcome r (says d xs) = arrived r (direction_number d) xs room room
said_outcome r (ends d) = end_called r (direction_number d) room room

-- the call that it is; its pieces do not depend on the buffers
abbrev pub said_call : Part → Call
said_call (says d xs) = arrival (direction_number d) xs [] []
said_call (ends d) = ending (direction_number d) [] []

-- what has gone to the server and to the client, the pieces of it, and the record then
pub record Gone : Type 0 where
  pub to_server : List ℕ
  pub to_client : List ℕ
  pub pieces : List Piece
  pub last : Session

-- from a record on
unfoldable pub gone : Session → List Part → Gone
gone r [] = record { to_server = []; to_client = []; pieces = []; last = r }
gone r (p ∷ ps) =
    let o = said_outcome r p in
    let rest = gone o.called.session ps in
    record {
      to_server = o.to_server ++ rest.to_server;
      to_client = o.to_client ++ rest.to_client;
      pieces = call_pieces r (said_call p) o.called.answer o.called.taken ++ rest.pieces;
      last = rest.last;
    }

-- an exchange as the calls have it, after the greeting
unfoldable pub called_as : (List Item → List Part) → Exchange → Exchange
called_as cut e =
    let history = server_says greeting ++ e.said in
    let g = gone (prepared e.setup).session (cut history) in
    exchange_of e.setup e.said g.to_server (spoken (roles_of e.setup history) g.pieces) g.to_client

-- both ways to cut it
unfoldable pub called_both : Exchange → Exchange × Exchange
called_both e = (called_as singly e, called_as wholly e)

-- what the table has, for each of the two ways
unfoldable pub printed_both : Exchange → Exchange × Exchange
printed_both e = (printed e, printed e)

-- a removal as the last record has it, after the greeting
unfoldable pub counted_as : (List Item → List Part) → Removal → Removal
counted_as cut e =
    let g = gone (prepared all_on).session (cut (server_says greeting ++ e.said)) in
    removal e.said (gateway.removed g.last client) (gateway.removed g.last server)

-- both ways to cut it
unfoldable pub counted_both : Removal → Removal × Removal
counted_both e = (counted_as singly e, counted_as wholly e)

-- what the table has, for each of the two ways
unfoldable pub removed_both : Removal → Removal × Removal
removed_both e = (e, e)

-- this page's definitions, for a proof that computes with them
unfoldable pub calls-exchanges-opened : Unit {0}
unfolding octet_pieces short_ones singly onto_part wholly said_outcome gone called_as called_both printed_both counted_as counted_both removed_both
calls-exchanges-opened = tt
