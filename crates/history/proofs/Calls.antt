-- One call: refused, or it does the items that it adds to the history, and its pieces are what it wrote.
use mathlib.Core.Path.{◌≡◌, refl, sym, ap, ◌∙◌}
use mathlib.Core.Bool.{Bool, true, false, true≢false}
use mathlib.Core.List.{List, [], ◌∷◌, ◌++◌, map, append-nil, append_assoc}
use Prim.Native.Nat.{ℕ, suc, ◌+◌, ◌-◌}
use native.Mathlib.Nat.{add-zero}
use lib.ListN.{length, take}
use Rattle.rules.specs.Answers.{Side, client, server, side_of}
use Rattle.rules.specs.Edition.{LineRules}
use Rattle.rules.specs.History.{Item, octet, end, text_of, taken_from}
use Rattle.rules.specs.ToClient.{Place as Reading}
use Rattle.rules.specs.Items.{Piece, Moment, all_to_server, all_to_client, moment_after}
use Rattle.rules.specs.Demand3.{Call, arrival, ending, end_if_done, is_refusal}
use Rattle.rules.specs.declared.Answer.{Answer}
use Rattle.places.specs.declared.Place.{Place}
use Rattle.records.specs.declared.Session.{Session}
use Rattle.rules.specs.declared.Fixed.{Fixed}
use Rattle.steps.specs.Steps.{State, Step, octet_step}
use Rattle.places.specs.Places.{is_ended}
use Rattle.records.specs.Sound.{direction_of, sound, refusal_of}
use Rattle.counts.specs.Counts.{taken_for}
use Rattle.session.specs.Calls.{state_of, session_after, Outcome, refused, unless_refused, outcome, arrived, end_step, end_outcome, end_called as session_ended}
use Rattle.steps.specs.Takes.{Took, stop_of, takes}
use Rattle.records.proofs.Refusals.{refusal-cases}
use Rattle.steps.proofs.Stops.{unless-stopped}
use Rattle.history.specs.Gateway.{piece_of, octet_pieces, end_pieces, call_pieces, outcome_of}
use Rattle.history.proofs.Places.{Stands, holding, flowing, passing, ended, NoAuth, Agrees}
use Rattle.history.proofs.Items.{Speaks, MaySpeak, Leads, octets-lead, end-leads}
use Rattle.history.proofs.Steps.{Alike, Done, done-nothing, takes-does, end-does}
use Rattle.history.proofs.Counts.{Counted, counted-more, taken-octets}

-- ---- what is refused

-- a call is refused by 3, 4 or 6, or its direction has not ended
pub unless-refused : (P : Outcome → Type 0) (r : Session) (d : ℕ) (o : Outcome) → ((a : Answer) → is_refusal a ≡ true → P (refused a r))
    → (is_ended (direction_of (side_of d) r.control).place ≡ false → P o) → P (unless_refused (refusal_of r d) r o)
unfolding refusal_of unless_refused
unless-refused P r d o p q =
    refusal-cases (λ a. P (unless_refused a r o)) d (sound r) (is_ended (direction_of (side_of d) r.control).place) (λ _. p Answer.UnknownDirection refl)
    (λ _ _. p Answer.BadRecord refl) (λ _ _ _. p Answer.DirectionEnded refl) (λ _ _ e. q e)

speaks : {p : Place} {n : ℕ} {line : List ℕ} {q : Reading} → Stands NoAuth p n line q → is_ended p ≡ false → Speaks q
speaks (holding h) e = tt
speaks (flowing k g) e = tt
speaks passing e = tt
speaks ended e = true≢false e

-- an arrival takes as many octets as it says
takes-taken : (f : Fixed) (d : Side) (s : State) (xs : List ℕ) (rs rc : ℕ) → length (take (takes f d s xs rs rc).taken xs) ≡ (takes f d s xs rs rc).taken
unfolding takes
takes-taken f d s [] rs rc = refl
takes-taken f d s (x ∷ xs) rs rc =
    let t : Step = octet_step f d s x in
    let P : Took → Type 0 = λ r. length (take r.taken (x ∷ xs)) ≡ r.taken in
    unless-stopped P (stop_of d s t rs rc) s _ (λ a e. refl) (λ e. ap suc (takes-taken f d t.state xs (rs - length t.to_server) (rc - length t.to_client)))

-- ---- the pieces of a call, joined, are what it wrote

pub record Joined (ps : List Piece) (ws wc : List ℕ) : Type 0 where
  pub to_server : all_to_server ps ≡ ws
  pub to_client : all_to_client ps ≡ wc

pub joined-nothing : Joined [] [] []
unfolding all_to_server all_to_client
joined-nothing = record { to_server = refl; to_client = refl }

joined-one : (t : Step) → Joined (piece_of t ∷ []) t.to_server t.to_client
unfolding all_to_server all_to_client
joined-one t = record { to_server = append-nil t.to_server; to_client = append-nil t.to_client }

all-server : (ps qs : List Piece) → all_to_server (ps ++ qs) ≡ all_to_server ps ++ all_to_server qs
unfolding all_to_server
all-server [] qs = refl
all-server (p ∷ ps) qs = rw append_assoc (ap (λ (l : List ℕ). p.to_server ++ l) (all-server ps qs))

all-client : (ps qs : List Piece) → all_to_client (ps ++ qs) ≡ all_to_client ps ++ all_to_client qs
unfolding all_to_client
all-client [] qs = refl
all-client (p ∷ ps) qs = rw append_assoc (ap (λ (l : List ℕ). p.to_client ++ l) (all-client ps qs))

pub joined-append : (ps qs : List Piece) (ws wc xs xc : List ℕ) → Joined ps ws wc → Joined qs xs xc → Joined (ps ++ qs) (ws ++ xs) (wc ++ xc)
joined-append ps qs ws wc xs xc j k =
    record {
      to_server = all-server ps qs ∙ (λ i. j.to_server i ++ k.to_server i);
      to_client = all-client ps qs ∙ (λ i. j.to_client i ++ k.to_client i);
    }

takes-joined : (f : Fixed) (d : Side) (s : State) (xs : List ℕ) (rs rc : ℕ)
    → let t = takes f d s xs rs rc in Joined (octet_pieces f d s (take t.taken xs)) t.to_server t.to_client
unfolding takes octet_pieces
takes-joined f d s [] rs rc = joined-nothing
takes-joined f d s (x ∷ xs) rs rc =
    let t : Step = octet_step f d s x in
    let P : Took → Type 0 = λ r. Joined (octet_pieces f d s (take r.taken (x ∷ xs))) r.to_server r.to_client in
    unless-stopped P (stop_of d s t rs rc) s _ (λ a e. joined-nothing)
    (λ e. joined-append (piece_of t ∷ []) _ _ _ _ _ (joined-one t) (takes-joined f d t.state xs (rs - length t.to_server) (rc - length t.to_client)))

-- ---- what a call adds to the history

abbrev pub items_of : Call → Outcome → List Item
items_of (arrival d xs s c) o = map (octet (side_of d)) (take o.called.taken xs)
items_of (ending d s c) o = end_if_done o.called.answer (side_of d)

pub refused_end : (a : Answer) (d : Side) (t : Step) → is_refusal a ≡ true → (end_if_done a d ≡ []) × (end_pieces a t ≡ [])
refused_end Answer.Done d t e = absurd (true≢false (sym e))
refused_end Answer.QueueFull d t e = (refl, refl)
refused_end Answer.NoRoom d t e = (refl, refl)
refused_end Answer.UnknownDirection d t e = (refl, refl)
refused_end Answer.BadRecord d t e = (refl, refl)
refused_end Answer.BadSetup d t e = (refl, refl)
refused_end Answer.DirectionEnded d t e = (refl, refl)

module _ {f : Fixed} {rules : LineRules} (agree : Agrees f rules) where
  -- the record, and a moment of the reading
  pub record Stays (r : Session) (m : Moment rules.LineState) : Type 0 where
    pub live : r.live ≡ true
    pub fixed : r.fixed ≡ f
    pub alike : Alike agree (state_of r) m

  -- a call that adds these items to the history, with these pieces
  pub record Makes (r : Session) (m : Moment rules.LineState) (is : List Item) (ps : List Piece) (o : Outcome) : Type 0 where
    pub done : Done agree m is ps (state_of o.called.session)
    pub leads : Leads rules m is
    pub joined : Joined ps o.to_server o.to_client
    pub live : o.called.session.live ≡ true
    pub fixed : o.called.session.fixed ≡ f
    pub written_server : o.called.written.server ≡ length o.to_server
    pub written_client : o.called.written.client ≡ length o.to_client
    pub up : (t w : ℕ) → Counted r.up t w → Counted o.called.session.up (t + taken_from client is) (w + length o.to_server)
    pub down : (t w : ℕ) → Counted r.down t w → Counted o.called.session.down (t + taken_from server is) (w + length o.to_client)

  -- what a call makes by the outcome that the session's definitions have for it
  abbrev pub MakesCall : Session → Moment rules.LineState → Call → Outcome → Type 0
  MakesCall r m c o = Makes r m (items_of c o) (call_pieces r c o.called.answer o.called.taken) o

module _ (f : Fixed) (rules : LineRules) (agree : Agrees f rules) where
  may-arrive : (d : Side) (s : State) (m : Moment rules.LineState) → Alike agree s m
      → is_ended (direction_of d s.control).place ≡ false → MaySpeak d m.client.place
  may-arrive client s m a e = speaks a.client.place e
  may-arrive server s m a e = tt

  makes-nothing : (r : Session) (m : Moment rules.LineState) (a : Answer) → Stays agree r m → Makes agree r m [] [] (refused a r)
  unfolding refused text_of moment_after
  makes-nothing r m a s =
      record {
        done = done-nothing agree (state_of r) m s.alike;
        leads = λ js h. h;
        joined = joined-nothing;
        live = s.live;
        fixed = s.fixed;
        written_server = refl;
        written_client = refl;
        up = λ t w k. rw (add-zero t, add-zero w) k;
        down = λ t w k. rw (add-zero t, add-zero w) k;
      }

  -- octets taken, or an end: what a call that is not refused does
  makes-outcome : (r : Session) (m : Moment rules.LineState) (d : Side) (is : List Item) (ps : List Piece) (t : Took) → Stays agree r m
      → Done agree m is ps t.state → Leads rules m is → Joined ps t.to_server t.to_client
      → taken_from client is ≡ taken_for client d t.taken → taken_from server is ≡ taken_for server d t.taken
      → Makes agree r m is ps (outcome r d t)
  unfolding outcome session_after
  makes-outcome r m d is ps t s done leads joined a b =
      record {
        done = done;
        leads = leads;
        joined = joined;
        live = s.live;
        fixed = s.fixed;
        written_server = refl;
        written_client = refl;
        up = λ n w k. rw a (counted-more r.up n w (taken_for client d t.taken) (length t.to_server) k);
        down = λ n w k. rw b (counted-more r.down n w (taken_for server d t.taken) (length t.to_client) k);
      }

  -- the octets of an arrival, by the record's own fixed part
  arrival-done : (g : Fixed) → g ≡ f → (d : Side) (s : State) (m : Moment rules.LineState) (xs : List ℕ) (rs rc : ℕ) → Alike agree s m
      → let t = takes g d s xs rs rc in Done agree m (map (octet d) (take t.taken xs)) (octet_pieces g d s (take t.taken xs)) t.state
  arrival-done g e d s m xs rs rc a = rw e (takes-does f rules agree d s m xs rs rc a)

  octets-taken : (d e : Side) (g : Fixed) (s : State) (xs : List ℕ) (rs rc : ℕ)
      → taken_from d (map (octet e) (take (takes g e s xs rs rc).taken xs)) ≡ taken_for d e (takes g e s xs rs rc).taken
  octets-taken d e g s xs rs rc =
      taken-octets d e (take (takes g e s xs rs rc).taken xs) ∙ ap (taken_for d e) (takes-taken g e s xs rs rc)

  end-taken : (d e : Side) → taken_from d (end e ∷ []) ≡ taken_for d e 0
  unfolding text_of
  end-taken client client = refl
  end-taken client server = refl
  end-taken server client = refl
  end-taken server server = refl

  makes-end : (r : Session) (m : Moment rules.LineState) (d : Side) → Stays agree r m → (b : Bool)
      → let t = end_step d (state_of r) in
      let o = end_outcome r d t b in
      Makes agree r m (end_if_done o.called.answer d) (end_pieces o.called.answer t) o
  unfolding end_outcome outcome refused
  makes-end r m d s true =
      let t : Step = end_step d (state_of r) in
      makes-outcome r m d (end d ∷ []) (piece_of t ∷ []) (record { answer = Answer.Done; taken = 0; to_server = t.to_server; to_client = t.to_client; state = t.state }) s
      (end-does f rules agree d (state_of r) m s.alike) (end-leads rules d m) (joined-one t) (end-taken client d) (end-taken server d)
  makes-end r m d s false = makes-nothing r m Answer.NoRoom s

  -- every call
  pub makes : (r : Session) (m : Moment rules.LineState) (call : Call) → Stays agree r m → MakesCall agree r m call (outcome_of r call)
  unfolding outcome_of arrived session_ended refused outcome octet_pieces
  makes r m (arrival d xs bs bc) s =
      unless-refused (MakesCall agree r m (arrival d xs bs bc)) r d _
      (λ a e. makes-nothing r m a s)
      (λ e. let t : Took = takes r.fixed (side_of d) (state_of r) xs (length bs) (length bc) in
      makes-outcome r m (side_of d) _ _ t s
      (arrival-done r.fixed s.fixed (side_of d) (state_of r) m xs (length bs) (length bc) s.alike)
      (octets-lead rules (side_of d) m (take t.taken xs) (may-arrive (side_of d) (state_of r) m s.alike e))
      (takes-joined r.fixed (side_of d) (state_of r) xs (length bs) (length bc))
      (octets-taken client (side_of d) r.fixed (state_of r) xs (length bs) (length bc))
      (octets-taken server (side_of d) r.fixed (state_of r) xs (length bs) (length bc)))
  makes r m (ending d bs bc) s =
      unless-refused (MakesCall agree r m (ending d bs bc)) r d _
      (λ a e. let no = refused_end a (side_of d) (end_step (side_of d) (state_of r)) e in rw (no.0, no.1) (makes-nothing r m a s))
      (λ e. makes-end r m (side_of d) s _)
