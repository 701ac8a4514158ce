-- Demand 3: the calls of a list do the items of their history, so the pieces, both readings, both offsets and what was removed hold of
-- it; and every record that they return is sound.
use mathlib.Core.Path.{◌≡◌, refl, sym, ap, ◌∙◌, subst}
use mathlib.Core.Bool.{true}
use mathlib.Core.List.{List, [], ◌∷◌, ◌++◌}
use Prim.Native.Nat.{ℕ, ◌+◌}
use native.Mathlib.Nat.{add-zero, zero-add, add_assoc}
use native.Mathlib.Omega.{arith}
use lib.ListN.{length, take, drop, length-append}
use lib.Seq.{take_at}
use borrow.Author.Tests.{le-leb}
use Rattle.rules.specs.Octets.{choose}
use Rattle.rules.specs.Answers.{Side, client, server, sound_held, sound_record, most_owed}
use Rattle.rules.specs.Lines.{judged, most_held}
use Rattle.rules.specs.Setup.{setup_switches, fixed_by}
use Rattle.rules.specs.declared.Setup.{Setup}
use Rattle.rules.specs.Edition.{LineRules, document01}
use Rattle.rules.specs.History.{Item, text_of, taken_from}
use Rattle.rules.specs.ToServer.{to_server as read_server}
use Rattle.rules.specs.ToClient.{Place as Reading}
use Rattle.rules.specs.Items.{
  Moment,
  read_items,
  moment_after,
  all_to_client,
  fresh_moment,
  each_item,
  removed_from,
}
use Rattle.rules.specs.Pieces.{roles_of, spoken}
use Rattle.rules.specs.declared.Layer.{Layer}
use Rattle.rules.specs.Demand3.{Call, arrival, ending, Return, Made, Calls, no_calls, next, items_of as made_items, history_of, gone_to_server, gone_to_client, pieces_of, lent_server, lent_client, Demand3}
use Rattle.places.specs.declared.Place.{Place}
use Rattle.records.specs.declared.Session.{Session}
use Rattle.rules.specs.declared.Fixed.{Fixed}
use Rattle.setups.specs.Setups.{fresh_session}
use Rattle.counts.specs.Counts.{offset}
use Rattle.session.specs.Calls.{Outcome}
use Rattle.places.specs.Places.{is_holding}
use Rattle.records.specs.Sound.{sound, sound_direction}
use Rattle.readings.proofs.Readings.{readings-agree}
use Rattle.history.specs.Gateway.{Fresh, call_pieces, outcome_of, Promise, gateway}
use Rattle.history.proofs.Places.{Stands, holding, flowing, passing, ended, Agrees}
use Rattle.history.proofs.Items.{Follows, follows_nothing, read-append, after-append}
use Rattle.history.proofs.Counts.{Counted, counted-fresh, counted-offset, text-append}
use Rattle.history.proofs.Calls.{items_of, Joined, joined-nothing, joined-append, Stays, MakesCall, makes}
use Rattle.history.proofs.Fresh.{agrees, fresh-is, fresh-stays}

-- ---- a call that was made, by its promise

made-items : (r : Session) (c : Call) (t : Return Session) → Promise r c t → made_items gateway c t ≡ items_of c (outcome_of r c)
made-items r (arrival d xs s b) t p = rw p.taken
made-items r (ending d s b) t p = rw p.answer

made-pieces : (r : Session) (c : Call) (t : Return Session) → Promise r c t → t.pieces ≡ call_pieces r c (outcome_of r c).called.answer (outcome_of r c).called.taken
made-pieces r c t p = p.pieces ∙ (λ i. call_pieces r c (p.answer i) (p.taken i))

-- what a call wrote is the front of its buffer
front : (w rest buffer : List ℕ) (n : ℕ) → n ≡ length w → buffer ≡ w ++ rest → take n buffer ≡ w
front w rest buffer n e b = rw b (take_at w rest n (sym e))

taken-append : (d : Side) (is js : List Item) → taken_from d (is ++ js) ≡ taken_from d is + taken_from d js
taken-append d is js = ap length (text-append d is js) ∙ length-append (text_of d is) (text_of d js)

-- ---- a list of calls

module _ (f : Fixed) (rules : LineRules) (agree : Agrees f rules) where
  record Holds (r : Session) (m : Moment rules.LineState) (l : List (Made gateway)) (z : Session) : Type 0 where
    pieces : pieces_of gateway l ≡ read_items rules m (history_of gateway l)
    joined : Joined (pieces_of gateway l) (gone_to_server gateway l) (gone_to_client gateway l)
    follows : Follows m.client.place (history_of gateway l)
    up : (t w : ℕ) → Counted r.up t w → Counted z.up (t + taken_from client (history_of gateway l)) (w + length (gone_to_server gateway l))
    down : (t w : ℕ) → Counted r.down t w → Counted z.down (t + taken_from server (history_of gateway l)) (w + length (gone_to_client gateway l))
    last : Stays agree z (moment_after rules m (history_of gateway l))

  holds-none : (r : Session) (m : Moment rules.LineState) → Stays agree r m → Holds r m [] r
  unfolding read_items moment_after text_of
  holds-none r m s =
      record {
        pieces = refl;
        joined = joined-nothing;
        follows = follows_nothing m.client.place;
        up = λ t w k. rw (add-zero t, add-zero w) k;
        down = λ t w k. rw (add-zero t, add-zero w) k;
        last = s;
      }

  holds-next : (r z : Session) (m : Moment rules.LineState) (call : Call) (t : Return Session) (l : List (Made gateway))
      → Promise r call t → MakesCall agree r m call (outcome_of r call)
      → Holds (outcome_of r call).called.session (moment_after rules m (items_of call (outcome_of r call))) l z
      → Holds r m ((call, t) ∷ l) z
  holds-next r z m call t l p k h =
      let o : Outcome = outcome_of r call in
      let is : List Item = items_of call o in
      let js : List Item = history_of gateway l in
      let items : made_items gateway call t ≡ is = made-items r call t p in
      let pieces : t.pieces ≡ call_pieces r call o.called.answer o.called.taken = made-pieces r call t p in
      let server : take t.to_server t.server_buffer ≡ o.to_server =
      front o.to_server (drop t.to_server (lent_server call)) t.server_buffer t.to_server (p.to_server ∙ k.written_server) p.server_buffer in
      let client : take t.to_client t.client_buffer ≡ o.to_client =
      front o.to_client (drop t.to_client (lent_client call)) t.client_buffer t.to_client (p.to_client ∙ k.written_client) p.client_buffer in
      record {
        pieces = rw (items, pieces, read-append rules m is js, k.done.pieces, h.pieces);
        joined = rw (pieces, server, client) (joined-append _ _ _ _ _ _ k.joined h.joined);
        follows = rw items (k.leads js h.follows);
        up = λ a b c. rw (server, items) (simp (taken-append, length-append) (simp add_assoc at (h.up _ _ (k.up a b c))));
        down = λ a b c. rw (client, items) (simp (taken-append, length-append) (simp add_assoc at (h.down _ _ (k.down a b c))));
        last = rw (items, after-append rules m is js) h.last;
      }

  holds : {r z : Session} {l : List (Made gateway)} → Calls gateway r l z → (m : Moment rules.LineState) → Stays agree r m → Holds r m l z
  holds {r} no_calls m s = holds-none r m s
  holds (next {r = r} {z = z} {c = call} {t = t} {l = l} p rest) m s =
      let k : MakesCall agree r m call (outcome_of r call) = makes f rules agree r m call s in
      let m' : Moment rules.LineState = moment_after rules m (items_of call (outcome_of r call)) in
      let now : Stays agree (outcome_of r call).called.session m' = record { live = k.live; fixed = k.fixed; alike = k.done.alike } in
      holds-next r z m call t l p k (rw p.session at (holds rest m' (rw p.session now)))

-- ---- from a fresh session

-- the record that setup returns with 0
abbrev fresh_of : Setup → Session
fresh_of su = fresh_session su

fresh_holds : (su : Setup) (r z : Session) (l : List (Made gateway)) → Fresh su r → Calls gateway r l z
    → Holds (fixed_by su) (document01 su) (agrees su) (fresh_of su) (fresh_moment (setup_switches su.flags)) l z
fresh_holds su r z l fresh calls =
    holds (fixed_by su) (document01 su) (agrees su) (subst (λ (x : Session). Calls gateway x l z) (fresh-is su r fresh) calls)
    (fresh_moment (setup_switches su.flags)) (fresh-stays su)

fresh_up : (su : Setup) → Counted (fresh_of su).up 0 0
unfolding fresh_session
fresh_up su = counted-fresh

fresh-down : (su : Setup) → Counted (fresh_of su).down 0 0
unfolding fresh_session
fresh-down su = counted-fresh

-- demand 3
pub demand3 : Demand3 gateway
unfolding read_server each_item roles_of removed_from offset
demand3 su r z l fresh calls =
    let h = fresh_holds su r z l fresh calls in
    let is : List Item = history_of gateway l in
    record {
      joined_to_server = h.joined.to_server;
      joined_to_client = h.joined.to_client;
      pieces = h.pieces;
      to_server = ap (spoken (roles_of su is)) h.pieces ∙ readings-agree (document01 su) (setup_switches su.flags) is h.follows.1;
      to_client = sym h.joined.to_client ∙ ap all_to_client h.pieces;
      client_offset = counted-offset z.up _ _ (simp zero-add at (h.up 0 0 (fresh_up su)));
      server_offset = counted-offset z.down _ _ (simp zero-add at (h.down 0 0 (fresh-down su)));
      client_removed = ap (λ (k : Layer). k.removed) h.last.alike.client.layer;
      server_removed = ap (λ (k : Layer). k.removed) h.last.alike.server.layer;
    }

-- ---- every record that calls return is one that number 4 does not refuse

stands-sound : {Kept : List ℕ → List ℕ → Type 0} {p : Place} {n : ℕ} {line : List ℕ} {q : Reading} → Stands Kept p n line q → sound_held (is_holding p) n ≡ true
unfolding sound_held choose judged
stands-sound (holding {n = n} h) = le-leb n most_held (omega arith)
stands-sound (flowing k g) = refl
stands-sound passing = refl
stands-sound ended = refl

stays-sound : {f : Fixed} {rules : LineRules} (agree : Agrees f rules) (r : Session) (m : Moment rules.LineState)
    → Stays agree r m → sound r ≡ true
unfolding sound sound_record sound_direction
stays-sound agree r m s =
    let a = s.alike in
    rw (s.live, le-leb r.control.owed most_owed a.server.queue.array.most, a.server.queue.array.listed, stands-sound a.client.place, stands-sound a.server.place)

pub records-sound : (su : Setup) (r z : Session) (l : List (Made gateway)) → Fresh su r → Calls gateway r l z → sound z ≡ true
records-sound su r z l fresh calls =
    let h = fresh_holds su r z l fresh calls in stays-sound (agrees su) z _ h.last
