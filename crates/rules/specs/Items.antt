-- "To the client: the history is read item by item", through the Telnet layer of request 2 of document 02: what each item writes to
-- each side. What goes to the client is the join of it; of what goes to the server, "Pieces" says which of it was spoken.
use Rattle.std.specs.Prelude.{List, [], ◌∷◌, ◌++◌, ℕ, eqb}
use Rattle.std.specs.Prelude.{Option, None, Some}
use Rattle.rules.specs.Octets.{lf, choose}
use Rattle.rules.specs.Answers.{Side, client, server}
use Rattle.rules.specs.Setup.{setup_switches}
use Rattle.rules.specs.declared.Setup.{Setup}
use Rattle.rules.specs.Lines.{is_whole}
use Rattle.rules.specs.Telnet.{data_of, answer_of, command_of, fresh_layer, cleared, layer_octet}
use Rattle.rules.specs.Replies.{auth_at_head}
use Rattle.rules.specs.Edition.{LineRules, document01}
use Rattle.rules.specs.History.{Item, octet, end}
use Rattle.rules.specs.ToClient.{
  Place,
  in_line,
  passing,
  ended,
  ClientState,
  fresh_client,
  client_octet,
  ServerState,
  fresh_server,
  ServerStep,
  server_octet,
  line_octet_gives,
  is_in_line,
  let_go,
  after_octet,
}
use Rattle.rules.specs.declared.Layer.{Layer}
use Rattle.rules.specs.declared.Does.{Does}
use Rattle.rules.specs.declared.Kind.{Kind}

-- what an item writes to each side
pub record Piece : Type 0 where
  pub to_server : List ℕ
  pub to_client : List ℕ

-- what is kept between two items: each side's lines, and what has come of its Telnet commands
pub record Moment (S : Type 0) : Type 0 where
  pub client : ClientState S
  pub server : ServerState
  pub client_layer : Layer
  pub server_layer : Layer

-- an item: what it writes, and the moment after it
pub record ItemStep (S : Type 0) : Type 0 where
  pub moment : Moment S
  pub piece : Piece

-- ---- a client octet

-- the LF of a line: what a line judged whole becomes, or the LF of a flowing one
unfoldable pub line_end_gives : (rules : LineRules) → rules.LineState → List ℕ → List ℕ
line_end_gives rules st l = choose (is_whole l) (rules.client_line st l).to_server (lf ∷ [])

-- what an octet of a client line gives to the server
unfoldable pub client_gives : (rules : LineRules) → rules.LineState → Place → ℕ → List ℕ
client_gives rules st (in_line l) x = choose (eqb x lf) (line_end_gives rules st l) (line_octet_gives (l ++ (x ∷ [])) x)
client_gives rules st passing x = x ∷ []
client_gives rules st ended x = []

-- the client's state after its octet, the kinds that it puts on the queue, and what it gives to each side
pub record ClientRead (S : Type 0) : Type 0 where
  pub state : ClientState S
  pub owes : List Kind
  pub to_server : List ℕ
  pub to_client : List ℕ

-- by the octet of a line that it makes; "WILL is answered to its sender", "pass at once as a command, ahead of a held line"
unfoldable pub client_read : (rules : LineRules) → ClientState rules.LineState → Does → Option ℕ → ClientRead rules.LineState
client_read rules c does None = record { state = c; owes = []; to_server = command_of does; to_client = answer_of does }
client_read rules c does (Some y) =
    let j = client_octet rules c.line_state c.place y in
    record { state = j.state; owes = j.owes; to_server = client_gives rules c.line_state c.place y; to_client = [] }

-- ---- a server octet

-- the server's state after its octet, and what it gives to the client
unfoldable pub server_read : LineRules → ServerState → Does → Option ℕ → ServerStep
server_read rules s does None = record { state = s; gives = command_of does }
server_read rules s does (Some y) = server_octet rules s.place s.owed s.opening y

-- "or until its direction passes at once": the AUTH step leaves nothing of a server's command
abbrev pub layer_then : ServerStep → Layer → Layer
layer_then t l = choose (auth_at_head t.state.owed) (cleared l) l

-- ---- items

-- an octet goes through its side's layer, then "follow the own answers and the AUTH step"; an end lets go what is held
unfoldable pub item_step : (rules : LineRules) → Moment rules.LineState → Item → ItemStep rules.LineState
item_step rules m (octet client x) =
    let r = layer_octet (is_in_line m.client.place) m.client_layer x in
    let j = client_read rules m.client r.does (data_of r.does) in
    let t = after_octet m.server_layer.telnet (record { state = m.server; gives = j.to_client }) j.owes in
    record {
      moment = record { client = j.state; server = t.state; client_layer = r.layer; server_layer = layer_then t m.server_layer };
      piece = record { to_server = j.to_server; to_client = t.gives };
    }
item_step rules m (octet server x) =
    let r = layer_octet (is_in_line m.server.place) m.server_layer x in
    let t = after_octet r.layer.telnet (server_read rules m.server r.does (data_of r.does)) [] in
    record {
      moment = record { client = m.client; server = t.state; client_layer = m.client_layer; server_layer = layer_then t r.layer };
      piece = record { to_server = answer_of r.does; to_client = t.gives };
    }
item_step rules m (end client) =
    let c = m.client in
    record {
      moment = record {
        client = record { line_state = c.line_state; place = ended };
        server = m.server;
        client_layer = cleared m.client_layer;
        server_layer = m.server_layer;
      };
      piece = record { to_server = let_go c.place m.client_layer.telnet; to_client = [] };
    }
item_step rules m (end server) =
    let s = m.server in
    record {
      moment = record {
        client = m.client;
        server = record { place = ended; owed = s.owed; opening = s.opening };
        client_layer = m.client_layer;
        server_layer = cleared m.server_layer;
      };
      piece = record { to_server = []; to_client = let_go s.place m.server_layer.telnet };
    }

-- ---- the whole history

-- each item's own part, then those of the rest from the moment after it
unfoldable pub read_items : (rules : LineRules) → Moment rules.LineState → List Item → List Piece
read_items rules m [] = []
read_items rules m (i ∷ is) = let s = item_step rules m i in s.piece ∷ read_items rules s.moment is

-- the moment after items
unfoldable pub moment_after : (rules : LineRules) → Moment rules.LineState → List Item → Moment rules.LineState
moment_after rules m [] = m
moment_after rules m (i ∷ is) = moment_after rules (item_step rules m i).moment is

-- all that pieces have for the server, and for the client, joined
unfoldable pub all_to_server : List Piece → List ℕ
all_to_server [] = []
all_to_server (p ∷ ps) = p.to_server ++ all_to_server ps

-- the same for the client
unfoldable pub all_to_client : List Piece → List ℕ
all_to_client [] = []
all_to_client (p ∷ ps) = p.to_client ++ all_to_client ps

-- ---- after a setup

-- nothing has come from either side
abbrev pub fresh_moment : {S : Type 0} → S → Moment S
fresh_moment st =
    record { client = fresh_client st; server = fresh_server; client_layer = fresh_layer; server_layer = fresh_layer }

-- what each item of a history writes to each side
unfoldable pub each_item : Setup → List Item → List Piece
each_item su is = read_items (document01 su) (fresh_moment (setup_switches su.flags)) is

-- what has gone to the client, by the history
abbrev pub to_client : Setup → List Item → List ℕ
to_client su is = all_to_client (each_item su is)

-- a side's layer
abbrev pub layer_of : {S : Type 0} → Side → Moment S → Layer
layer_of client m = m.client_layer
layer_of server m = m.server_layer

-- "all its octets removed are counted", of each side
unfoldable pub removed_from : Setup → Side → List Item → ℕ
removed_from su d is = (layer_of d (moment_after (document01 su) (fresh_moment (setup_switches su.flags)) is)).removed

-- this page's definitions, for a proof that computes with them
unfoldable pub items-opened : Unit {0}
unfolding line_end_gives client_gives client_read server_read item_step read_items moment_after all_to_server all_to_client each_item removed_from
items-opened = tt
