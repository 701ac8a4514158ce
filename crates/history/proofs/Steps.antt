-- The session's octets, arrivals and ends do on the record what the readings do with the items of the history, and write the same.
use mathlib.Core.Path.{◌≡◌, refl, sym, ap, ◌∙◌, subst}
use mathlib.Core.Bool.{Bool, false}
use mathlib.Core.List.{List, [], ◌∷◌, ◌++◌, map, append-nil}
use Rattle.std.specs.Prelude.{Option, None, Some}
use Prim.Native.Nat.{ℕ, ◌-◌, ◌≤◌}
use lib.Dec.{eqb}
use native.Mathlib.Omega.{arith}
use lib.ListN.{length, take, drop}
use Rattle.rules.specs.Octets.{lf}
use Rattle.rules.specs.Answers.{Side, client, server, most_owed, is_queue_full, fits}
use Rattle.rules.specs.Telnet.{data_of, answer_of, command_of, cleared, LayerStep, layer_octet}
use Rattle.rules.specs.Edition.{LineRules}
use Rattle.rules.specs.History.{Item, octet, end}
use Rattle.rules.specs.ToClient.{
  ClientState,
  ServerState,
  ClientStep,
  ServerStep,
  is_in_line,
  client_octet,
  server_octet,
  auth_step,
  own_answers,
  after_octet,
}
use Rattle.rules.specs.Items.{
  Piece,
  Moment,
  ItemStep,
  client_gives,
  client_read,
  server_read,
  layer_then,
  item_step,
  read_items,
  moment_after,
}
use Rattle.rules.specs.declared.Does.{Does}
use Rattle.rules.specs.declared.Kind.{Kind}
use Rattle.rules.specs.declared.Switches.{Switches}
use Rattle.rules.specs.declared.Layer.{Layer}
use Rattle.places.specs.declared.Direction.{Direction}
use Rattle.upstream.specs.declared.ClientEffect.{ClientEffect}
use Rattle.downstream.specs.declared.ServerEffect.{ServerEffect}
use Rattle.queue.specs.Kinds.{head_of}
use Rattle.upstream.specs.Upstream.{client_effect}
use Rattle.downstream.specs.Downstream.{server_effect}
use Rattle.rules.specs.declared.Fixed.{Fixed}
use Rattle.steps.specs.Steps.{
  State,
  Step,
  owed_then,
  settled_control,
  settled_state,
  settled_text,
  client_state,
  client_effect_in,
  client_step,
  server_state,
  server_effect_in,
  server_step,
  line_step,
  telnet_step,
  step_by,
  layered,
  layer_read,
  octet_step,
}
use Rattle.places.specs.Places.{is_passing}
use Rattle.steps.specs.Takes.{Took, stop_of, takes}
use Rattle.session.specs.Calls.{end_step}
use Rattle.steps.proofs.Stops.{stop-none, unless-stopped}
use Rattle.steps.proofs.Turns.{place-owed}
use Rattle.history.specs.Gateway.{piece_of, octet_pieces}
use Rattle.history.proofs.Queue.{first_of, Queue, RoomFor, queue-push, queue-first}
use Rattle.history.proofs.Places.{
  Stands,
  ended,
  NoAuth,
  Full,
  in_lines,
  let-go,
  Agrees,
  ClientFits,
  client-fits,
  ServerFits,
  server-fits,
}
use Rattle.history.proofs.Settle.{ServerOf, Settled, settle}

module _ {f : Fixed} {rules : LineRules} (agree : Agrees f rules) where
  -- switches, direction, layer and array of the record's client side, and the reading's client with its layer
  pub record ClientAlike (sw : Switches) (d : Direction) (up : Layer) (command : List ℕ) (c : ClientState rules.LineState) (w : Layer) : Type 0 where
    pub tied : agree.Tied sw c.line_state
    pub place : Stands NoAuth d.place d.held command c.place
    pub full : Full command
    pub layer : up ≡ w

  -- the record's part that octets change, and a moment of the reading
  pub record Alike (s : State) (m : Moment rules.LineState) : Type 0 where
    pub client : ClientAlike s.control.switches s.control.client s.control.up s.command m.client m.client_layer
    pub server : ServerOf s m.server m.server_layer

  -- a step of the session's and an item of the reading's lead to states that are alike, and write the same
  pub record Same (t : Step) (i : ItemStep rules.LineState) : Type 0 where
    pub alike : Alike t.state i.moment
    pub to_server : t.to_server ≡ i.piece.to_server
    pub to_client : t.to_client ≡ i.piece.to_client

  pub same-piece : (t : Step) (i : ItemStep rules.LineState) → Same t i → piece_of t ≡ i.piece
  same-piece t i e = λ k. record { to_server = e.to_server k; to_client = e.to_client k }

  -- items done from a moment on: these are their pieces, and the state then
  pub record Done (m : Moment rules.LineState) (is : List Item) (ps : List Piece) (z : State) : Type 0 where
    pub pieces : ps ≡ read_items rules m is
    pub alike : Alike z (moment_after rules m is)

  pub done-nothing : (s : State) (m : Moment rules.LineState) → Alike s m → Done m [] [] s
  unfolding read_items moment_after
  done-nothing s m a = record { pieces = refl; alike = a }

-- ---- room in the queue

room_for : (owed : ℕ) (o : Option Kind) → owed_then owed o ≤ most_owed → RoomFor owed o
unfolding owed_then
room_for owed None h = tt
room_for owed (Some k) h = omega arith

-- number 1 does not stop the side's octets
abbrev NotFull : Side → State → Type 0
NotFull d s = is_queue_full d (is_passing s.control.client.place) s.control.owed ≡ false

-- a client octet that number 1 does not stop has room for what it owes
room : (f : Fixed) (s : State) (x : ℕ) → s.control.owed ≤ most_owed → NotFull client s → RoomFor s.control.owed (client_effect_in f s x).owes
unfolding client_effect_in client_effect
room f s x most e =
    let d : Direction = s.control.client in
    room_for s.control.owed (client_effect_in f s x).owes
    (place-owed f s.control.switches d.place d.held (take d.held s.command) (eqb x lf) s.control.owed most e)

module _ (f : Fixed) (rules : LineRules) (agree : Agrees f rules) where
  -- ---- one octet of a line

  -- an octet's effect, from the state of the rules, the first kind and the opening code as the reading has them
  client-effect : (s : State) (m : Moment rules.LineState) (x : ℕ) → Alike agree s m
      → ClientFits agree s.command s.control.client.held x (client_effect_in f s x)
      (client_gives rules m.client.line_state m.client.place x) (client_octet rules m.client.line_state m.client.place x)
  unfolding client_effect_in client_effect
  client-effect s m x a = client-fits f rules agree s.control.switches m.client.line_state a.client.tied a.client.place a.client.full x

  server-effect : (s : State) (m : Moment rules.LineState) (x : ℕ) → Alike agree s m
      → let v = m.server in
      ServerFits f s.reply s.control.server.held x v.owed (server_effect_in f s x) (server_octet rules v.place v.owed v.opening x)
  unfolding server_effect_in server_effect
  server-effect s m x a = by-queue s.control.opening m.server.opening (head_of s.kinds s.control.owed) a.server.opening (queue-first a.server.queue)
    where
      by-queue : (u u' : ℕ) (o : Option Kind) → u ≡ u' → o ≡ first_of m.server.owed
          → ServerFits f s.reply s.control.server.held x m.server.owed (server_effect f u o s.control.server s.reply x)
          (server_octet rules m.server.place m.server.owed u' x)
      by-queue u u' o e g = rw (e, g) (server-fits f rules agree u' m.server.owed a.server.place a.server.full x)

  -- ---- an octet of the client's, once it has gone through its layer

  -- the reading's item then, from a moment that has the layer behind the octet
  abbrev client_item : Moment rules.LineState → Does → Option ℕ → ItemStep rules.LineState
  client_item m does o =
      let j = client_read rules m.client does o in
      let t = after_octet m.server_layer.telnet (record { state = m.server; gives = j.to_client }) j.owes in
      record {
        moment = record { client = j.state; server = t.state; client_layer = m.client_layer; server_layer = layer_then t m.server_layer };
        piece = record { to_server = j.to_server; to_client = t.gives };
      }

  client-line : (s : State) (m : Moment rules.LineState) (does : Does) (x : ℕ) → Alike agree s m → NotFull client s
      → Same agree (client_step f s x) (client_item m does (Some x))
  unfolding client_step client_state settled_control settled_state after_octet client_read
  client-line s m does x a not_full =
      let e : ClientEffect = client_effect_in f s x in
      let v : ServerState = m.server in
      let j : ClientStep rules.LineState = client_octet rules m.client.line_state m.client.place x in
      let fit : ClientFits agree s.command s.control.client.held x e (client_gives rules m.client.line_state m.client.place x) j =
      client-effect s m x a in
      let t : State = client_state s x e in
      let owed : List Kind = v.owed ++ j.owes in
      let queue : Queue t.kinds t.control.owed owed =
      rw fit.owes at (queue-push a.server.queue e.owes (room f s x a.server.queue.array.most not_full)) in
      let now : ServerOf t (record { place = v.place; owed = owed; opening = v.opening }) m.server_layer =
      record { place = a.server.place; full = a.server.full; queue = queue; opening = a.server.opening; layer = a.server.layer } in
      let done : Settled t 0 [] m.server_layer (auth_step m.server_layer.telnet (own_answers v.place owed v.opening [])) =
      settle t 0 [] _ _ now owed refl in
      record {
        alike = record {
          client = record { tied = fit.tied; place = fit.place; full = fit.full; layer = a.client.layer };
          server = done.server;
        };
        to_server = fit.gives;
        to_client = done.gives;
      }

  -- ---- an octet that makes none of a line, of either side: an answer or a command, then what follows each octet

  telnet-same : (s : State) (m : Moment rules.LineState) (to_server given : List ℕ) → Alike agree s m
      → let t = after_octet m.server_layer.telnet (record { state = m.server; gives = given }) [] in
      Same agree (record { state = settled_state s 0; to_server = to_server; to_client = given ++ settled_text s 0 })
      (record {
        moment = record { client = m.client; server = t.state; client_layer = m.client_layer; server_layer = layer_then t m.server_layer };
        piece = record { to_server = to_server; to_client = t.gives };
      })
  unfolding settled_control settled_state after_octet
  telnet-same s m to_server given a =
      let v : ServerState = m.server in
      let done : Settled s 0 given m.server_layer (auth_step m.server_layer.telnet (own_answers v.place (v.owed ++ []) v.opening given)) =
      settle s 0 given v _ a.server (v.owed ++ []) (sym (append-nil v.owed)) in
      record { alike = record { client = a.client; server = done.server }; to_server = refl; to_client = done.gives }

  client-by : (s : State) (m : Moment rules.LineState) (does : Does) (o : Option ℕ) → Alike agree s m → NotFull client s
      → Same agree (step_by f client s does o) (client_item m does o)
  unfolding step_by line_step telnet_step client_read
  client-by s m does None a not_full = telnet-same s m (command_of does) (answer_of does) a
  client-by s m does (Some x) a not_full = client-line s m does x a not_full

  -- ---- the same of the server's

  -- the reading's item of an octet that has gone through the layer
  abbrev server_item : Moment rules.LineState → Does → ItemStep rules.LineState
  server_item m does =
      let t = after_octet m.server_layer.telnet (server_read rules m.server does (data_of does)) [] in
      record {
        moment = record { client = m.client; server = t.state; client_layer = m.client_layer; server_layer = layer_then t m.server_layer };
        piece = record { to_server = answer_of does; to_client = t.gives };
      }

  server-line : (s : State) (m : Moment rules.LineState) (x : ℕ) → Alike agree s m → Same agree (server_step f s x) (server_item m (Does.Data x))
  unfolding server_step server_state settled_control settled_state after_octet server_read
  server-line s m x a =
      let e : ServerEffect = server_effect_in f s x in
      let v : ServerState = m.server in
      let r : ServerStep = server_octet rules v.place v.owed v.opening x in
      let fit : ServerFits f s.reply s.control.server.held x v.owed e r = server-effect s m x a in
      let t : State = server_state s x e in
      let owed : drop e.removes v.owed ≡ r.state.owed ++ [] = fit.owed ∙ sym (append-nil r.state.owed) in
      let now : ServerOf t (record { place = r.state.place; owed = v.owed; opening = r.state.opening }) m.server_layer =
      record { place = fit.place; full = fit.full; queue = a.server.queue; opening = fit.opening; layer = a.server.layer } in
      let done : Settled t e.removes r.gives m.server_layer
      (auth_step m.server_layer.telnet (own_answers r.state.place (r.state.owed ++ []) r.state.opening r.gives)) =
      settle t e.removes r.gives _ _ now (r.state.owed ++ []) owed in
      record { alike = record { client = a.client; server = done.server }; to_server = refl; to_client = rw fit.gives done.gives }

  server-by : (s : State) (m : Moment rules.LineState) (does : Does) → Alike agree s m
      → Same agree (step_by f server s does (data_of does)) (server_item m does)
  unfolding step_by line_step telnet_step server_read
  server-by s m (Does.Data x) a = server-line s m x a
  server-by s m Does.Nothing a = telnet-same s m [] [] a
  server-by s m (Does.AnswersDont x) a = telnet-same s m (answer_of (Does.AnswersDont x)) [] a
  server-by s m (Does.AnswersWont x) a = telnet-same s m (answer_of (Does.AnswersWont x)) [] a
  server-by s m (Does.Passes x) a = telnet-same s m [] (command_of (Does.Passes x)) a
  server-by s m (Does.Removes n) a = telnet-same s m [] [] a

  -- ---- an octet of either side, through its layer

  -- an octet read through two layers that are the same
  layer-same : (a b : Bool) (k l : Layer) (x : ℕ) → a ≡ b → k ≡ l → layer_octet a k x ≡ layer_octet b l x
  layer-same a b k l x e g = λ i. layer_octet (e i) (g i) x

  octet-same : (d : Side) (s : State) (m : Moment rules.LineState) (x : ℕ) → Alike agree s m → NotFull d s
      → Same agree (octet_step f d s x) (item_step rules m (octet d x))
  unfolding octet_step item_step
  octet-same client s m x a not_full =
      let c = a.client in
      let r : LayerStep = layer_octet (is_in_line m.client.place) m.client_layer x in
      let read : layer_read client s x ≡ r = layer-same _ _ _ _ x (in_lines c.place) c.layer in
      let now : Moment rules.LineState = record { client = m.client; server = m.server; client_layer = r.layer; server_layer = m.server_layer } in
      let alike : Alike agree (layered client s r.layer) now =
      record { client = record { tied = c.tied; place = c.place; full = c.full; layer = refl }; server = a.server } in
      subst (λ (k : LayerStep). Same agree (step_by f client (layered client s k.layer) k.does (data_of k.does)) (item_step rules m (octet client x)))
      (sym read) (client-by (layered client s r.layer) now r.does (data_of r.does) alike not_full)
  octet-same server s m x a not_full =
      let v = a.server in
      let r : LayerStep = layer_octet (is_in_line m.server.place) m.server_layer x in
      let read : layer_read server s x ≡ r = layer-same _ _ _ _ x (in_lines v.place) v.layer in
      let now : Moment rules.LineState = record { client = m.client; server = m.server; client_layer = m.client_layer; server_layer = r.layer } in
      let alike : Alike agree (layered server s r.layer) now =
      record { client = a.client; server = record { place = v.place; full = v.full; queue = v.queue; opening = v.opening; layer = refl } } in
      subst (λ (k : LayerStep). Same agree (step_by f server (layered server s k.layer) k.does (data_of k.does)) (item_step rules m (octet server x)))
      (sym read) (server-by (layered server s r.layer) now r.does alike)

  -- ---- the octets of an arrival

  pub takes-does : (d : Side) (s : State) (m : Moment rules.LineState) (xs : List ℕ) (rs rc : ℕ) → Alike agree s m
      → let t = takes f d s xs rs rc in Done agree m (map (octet d) (take t.taken xs)) (octet_pieces f d s (take t.taken xs)) t.state
  unfolding takes stop_of octet_pieces read_items moment_after
  takes-does d s m [] rs rc a = done-nothing agree s m a
  takes-does d s m (x ∷ xs) rs rc a =
      let t : Step = octet_step f d s x in
      let i : ItemStep rules.LineState = item_step rules m (octet d x) in
      let P : Took → Type 0 = λ r. Done agree m (map (octet d) (take r.taken (x ∷ xs))) (octet_pieces f d s (take r.taken (x ∷ xs))) r.state in
      unless-stopped P (stop_of d s t rs rc) s _ (λ n e. done-nothing agree s m a)
      (λ e. let o : Same agree t i = octet-same d s m x a (stop-none _ (fits t.to_server t.to_client rs rc) e).0 in
      let rest = takes-does d t.state i.moment xs (rs - length t.to_server) (rc - length t.to_client) o.alike in
      record { pieces = λ k. same-piece agree t i o k ∷ rest.pieces k; alike = rest.alike })

  -- ---- an end

  end_same : (d : Side) (s : State) (m : Moment rules.LineState) → Alike agree s m → Same agree (end_step d s) (item_step rules m (end d))
  unfolding end_step item_step
  end_same client s m a =
      let c = a.client in
      record {
        alike = record { client = record { tied = c.tied; place = ended; full = c.full; layer = ap cleared c.layer }; server = a.server };
        to_server = rw c.layer (let-go c.place c.full m.client_layer.telnet);
        to_client = refl;
      }
  end_same server s m a =
      let v = a.server in
      record {
        alike = record {
          client = a.client;
          server = record { place = ended; full = v.full; queue = v.queue; opening = v.opening; layer = ap cleared v.layer };
        };
        to_server = refl;
        to_client = rw v.layer (let-go v.place v.full m.server_layer.telnet);
      }

  pub end-does : (d : Side) (s : State) (m : Moment rules.LineState) → Alike agree s m
      → Done agree m (end d ∷ []) (piece_of (end_step d s) ∷ []) (end_step d s).state
  unfolding read_items moment_after
  end-does d s m a =
      let o = end_same d s m a in record { pieces = ap (λ (p : Piece). p ∷ []) (same-piece agree (end_step d s) (item_step rules m (end d)) o); alike = o.alike }
