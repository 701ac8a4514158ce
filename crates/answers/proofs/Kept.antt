-- No call makes a record that number 4 refuses, the bounds hold of every octet that an arrival comes to, and nothing is left to settle after it.
use Rattle.rules.specs.declared.Kind.{Kind}
use mathlib.Core.Path.{◌≡◌, refl, sym, ap, ◌∙◌, subst}
use mathlib.Core.Bool.{Bool, true, false}
use mathlib.Core.List.{List, [], ◌∷◌}
use mathlib.Core.Logic.{inl, inr}
use Rattle.std.specs.Prelude.{Option, None, Some}
use Prim.Native.Nat.{ℕ, zero, suc, ◌+◌, ◌^◌, ◌≤◌, ◌<◌}
use native.Mathlib.Omega.{arith}
use lib.Dec.{eqb, leb, lit≤}
use lib.ListN.{length, take, get_or, length-replicate, get_or-replicate}
use borrow.Author.Tests.{ltb-true}
use Rattle.rules.specs.Octets.{lf, every}
use Rattle.rules.specs.Answers.{Side, client, server, side_of, most_owed, is_queue_full, wrapped}
use Rattle.rules.specs.Telnet.{telnet_octet, removed_after, cleared, layer_octet}
use Rattle.rules.specs.declared.Layer.{Layer}
use Rattle.rules.specs.declared.Does.{Does}
use Rattle.rules.specs.Lines.{most_held, judged, content}
use Rattle.rules.specs.declared.Switches.{Switches}
use Rattle.rules.specs.declared.Answer.{Answer}
use Rattle.places.specs.declared.Place.{Place}
use Rattle.places.specs.declared.Direction.{Direction}
use Rattle.upstream.specs.declared.ClientEffect.{ClientEffect}
use Rattle.downstream.specs.declared.ServerEffect.{ServerEffect}
use Rattle.queue.specs.Kinds.{head_of, pushed}
use Rattle.upstream.specs.Upstream.{judged_effect, join_effect, place_effect, client_effect}
use Rattle.downstream.specs.Downstream.{whole_line, flowing_line, reply_octet, reply_effect, server_effect}
use Rattle.octets.proofs.Choices.{either, by-test}
use Rattle.replies.proofs.Codes.{opening-low}
use Rattle.queue.proofs.Listed.{Listed, listed-push, listed-leave}
use Rattle.rules.specs.declared.Fixed.{Fixed}
use Rattle.rules.specs.declared.Setup.{Setup}
use Rattle.rules.specs.Setup.{ipv4_width}
use Rattle.records.specs.declared.Session.{Session}
use Rattle.steps.specs.Steps.{State, owed_then, leaving, is_auth_next, settled_control, settled_state, client_state, client_effect_in, client_step, server_state, server_effect_in, server_step, line_step, telnet_step, step_by, layered, layer_read, octet_step}
use Rattle.places.specs.Places.{is_holding, is_passing, direction_from_now}
use Rattle.records.specs.Sound.{refusal_of, Counted}
use Rattle.steps.specs.Settled.{Settled}
use Rattle.setups.specs.Setups.{fresh_session}
use Rattle.session.specs.Calls.{state_of, session_after, Outcome, refused, unless_refused, outcome, arrived, end_step, end_outcome, end_called}
use Rattle.session.specs.Bounds.{Shaped, WritesAtMost}
use Rattle.steps.proofs.Octets.{length-stored}
use Rattle.steps.proofs.Turns.{place-owed}
use Rattle.steps.proofs.Quiet.{settled-then}
use Rattle.answers.specs.Table.{
  Situation,
  Result,
  of_arrival,
  of_end,
  SoundDirection,
  Sound,
  Accepted,
  octet_steps,
  before,
  next_step,
  Full,
  Takes,
  One,
}
use Rattle.answers.proofs.Lengths.{judged-held}
use Rattle.answers.proofs.Bounds.{octet-most}
use Rattle.answers.proofs.Refusals.{
  not-holding,
  listed-each,
  each-listed,
  Refusal,
  unknown,
  bad,
  over,
  accepted,
  refusal-of,
}
use Rattle.answers.proofs.Rows.{took, it-takes, ItsLast, taken-first, result, end_result}
use Rattle.answers.proofs.Taking.{queue-open}

-- ---- what a direction holds

record ClientSound (e : ClientEffect) : Type 0 where
  direction : SoundDirection e.direction

record ServerSound (e : ServerEffect) : Type 0 where
  direction : SoundDirection e.direction
  opening : e.opening < 2 ^ 32

-- a line that is judged, let go or passed leaves nothing held
none-held : (p : Place) → SoundDirection (record { place = p; held = 0 })
none-held p = record { most = omega arith; none = λ q. refl }

one_more : (n : ℕ) → n + 1 < judged → SoundDirection (record { place = Place.Holding; held = n + 1 })
one_more n h = record { most = omega (arith, judged-held); none = λ q. absurd (q refl) }

place-sound : (f : Fixed) (sw : Switches) (p : Place) (n : ℕ) (h : List ℕ) (b : Bool)
    → ClientSound (place_effect f sw p n h b)
unfolding place_effect judged_effect join_effect
place-sound f sw Place.Holding n h true = record { direction = none-held _ }
place-sound f sw Place.Holding n h false =
    by-test ClientSound _ _ _ (λ e. record { direction = one_more n (ltb-true (n + 1) judged e) })
    (λ e. either ClientSound _ _ _ (record { direction = none-held _ }) (record { direction = none-held _ }))
place-sound f sw Place.Flowing n h true = record { direction = none-held _ }
place-sound f sw Place.Flowing n h false = record { direction = none-held _ }
place-sound f sw Place.Passing n h b = record { direction = none-held _ }
place-sound f sw Place.Ended n h b = record { direction = none-held _ }

reply-sound : (f : Fixed) (u : ℕ) (o : Option Kind) (p : Place) (n : ℕ) (line : List ℕ) (b : Bool) → u < 2 ^ 32 → ServerSound (reply_effect f u o p n line b)
unfolding reply_effect whole_line flowing_line reply_octet
reply-sound f u o Place.Holding n line true low =
    record { direction = none-held _; opening = opening-low u (content (take n line)) (2 ^ 32) (lit≤ tt) low }
reply-sound f u o Place.Holding n line false low =
    by-test ServerSound _ _ _ (λ e. record { direction = one_more n (ltb-true (n + 1) judged e); opening = low })
    (λ e. record { direction = none-held _; opening = low })
reply-sound f u o Place.Flowing n line true low =
    record { direction = none-held _; opening = opening-low u (take 4 line) (2 ^ 32) (lit≤ tt) low }
reply-sound f u o Place.Flowing n line false low = record { direction = none-held _; opening = low }
reply-sound f u o Place.Passing n line b low = record { direction = none-held _; opening = low }
reply-sound f u o Place.Ended n line b low = record { direction = none-held _; opening = low }

passes-sound : (d : Direction) (p : Place) → SoundDirection d → SoundDirection (direction_from_now d p)
passes-sound d Place.Holding h = none-held _
passes-sound d Place.Flowing h = none-held _
passes-sound d Place.Passing h = none-held _
passes-sound d Place.Ended h = h

-- ---- an octet that 1 does not stop keeps the state sound

-- where there is room for what an octet owes
push_kept : {kinds : List ℕ} {owed : ℕ} → Listed kinds owed → (o : Option Kind) → owed_then owed o ≤ most_owed → Listed (pushed kinds owed o) (owed_then owed o)
unfolding pushed owed_then
push_kept q None h = q
push_kept q (Some k) h = listed-push q k (omega arith)

pub record Kept (s : State) : Type 0 where
  pub queue : Listed s.kinds s.control.owed
  pub client : SoundDirection s.control.client
  pub server : SoundDirection s.control.server
  pub command : length s.command ≡ most_held
  pub reply : length s.reply ≡ most_held
  pub opening : s.control.opening < 2 ^ 32
  pub removed_up : s.control.up.removed < 2 ^ 32
  pub removed_down : s.control.down.removed < 2 ^ 32

-- a state with other directions and layers
kept-with : (s : State) → Kept s → {d e : Direction} (up down : Layer) → SoundDirection d → SoundDirection e
    → up.removed < 2 ^ 32 → down.removed < 2 ^ 32
    → let c = s.control in
    Kept
    (record {
      control = record {
        switches = c.switches;
        client = d;
        server = e;
        owed = c.owed;
        opening = c.opening;
        up = up;
        down = down;
      };
      command = s.command;
      reply = s.reply;
      kinds = s.kinds;
    })
kept-with s h up down first second removed_up removed_down =
    record {
      queue = h.queue;
      client = first;
      server = second;
      command = h.command;
      reply = h.reply;
      opening = h.opening;
      removed_up = removed_up;
      removed_down = removed_down;
    }

settled-kept : (s : State) (n : ℕ) → Kept s → Kept (settled_state s n)
unfolding settled_state settled_control
settled-kept s n h =
    let d : Direction = s.control.server in
    let down : Layer = s.control.down in
    record {
      queue = listed-leave h.queue (leaving s n);
      client = h.client;
      server = either SoundDirection (is_auth_next s n) (direction_from_now d d.place) d (passes-sound d d.place h.server) h.server;
      command = h.command;
      reply = h.reply;
      opening = h.opening;
      removed_up = h.removed_up;
      removed_down = either (λ (l : Layer). l.removed < 2 ^ 32) (is_auth_next s n) (cleared down) down h.removed_down h.removed_down;
    }

-- the octet's own effect
client-turned : (f : Fixed) (s : State) (x : ℕ) → Kept s → is_queue_full client (is_passing s.control.client.place) s.control.owed ≡ false
    → Kept (client_state s x (client_effect_in f s x))
unfolding client_state client_effect_in client_effect
client-turned f s x h not_full =
    let d : Direction = s.control.client in
    let sw : Switches = s.control.switches in
    let l : List ℕ = take d.held s.command in
    let e : ClientEffect = client_effect_in f s x in
    record {
      queue = push_kept h.queue e.owes (place-owed f sw d.place d.held l (eqb x lf) s.control.owed h.queue.most not_full);
      client = (place-sound f sw d.place d.held l (eqb x lf)).direction;
      server = h.server;
      command = length-stored s.command d.held x e.gives ∙ h.command;
      reply = h.reply;
      opening = h.opening;
      removed_up = h.removed_up;
      removed_down = h.removed_down;
    }

server-turned : (f : Fixed) (s : State) (x : ℕ) → Kept s → Kept (server_state s x (server_effect_in f s x))
unfolding server_state server_effect_in server_effect
server-turned f s x h =
    let d : Direction = s.control.server in
    let e : ServerEffect = server_effect_in f s x in
    let sound = reply-sound f s.control.opening (head_of s.kinds s.control.owed) d.place d.held s.reply (eqb x lf) h.opening in
    record {
      queue = h.queue;
      client = h.client;
      server = sound.direction;
      command = h.command;
      reply = length-stored s.reply d.held x e.gives ∙ h.reply;
      opening = sound.opening;
      removed_up = h.removed_up;
      removed_down = h.removed_down;
    }

-- ---- the same through the Telnet layer

-- a count of removed octets stays one of 32 bits
removed-low : (r : ℕ) (does : Does) → r < 2 ^ 32 → removed_after r does < 2 ^ 32
unfolding wrapped
removed-low r (Does.Data y) h = h
removed-low r Does.Nothing h = h
removed-low r (Does.AnswersDont x) h = h
removed-low r (Does.AnswersWont x) h = h
removed-low r (Does.Passes x) h = h
removed-low r (Does.Removes n) h = omega arith

layer-low : (in_lines : Bool) (l : Layer) (x : ℕ) → l.removed < 2 ^ 32 → (layer_octet in_lines l x).layer.removed < 2 ^ 32
unfolding layer_octet
layer-low true l x h = removed-low l.removed (telnet_octet l.telnet x).does h
layer-low false l x h = h

-- a state that came of settling one that is kept
record Turned (s : State) : Type 0 where
  from : State
  removes : ℕ
  same : s ≡ settled_state from removes
  kept : Kept from

step-turned : (f : Fixed) (d : Side) (s : State) (does : Does) (o : Option ℕ) → Kept s
    → is_queue_full d (is_passing s.control.client.place) s.control.owed ≡ false → Turned (step_by f d s does o).state
unfolding step_by line_step client_step server_step telnet_step
step-turned f d s does None h not_full = record { from = s; removes = 0; same = refl; kept = h }
step-turned f client s does (Some y) h not_full =
    record { from = client_state s y (client_effect_in f s y); removes = 0; same = refl; kept = client-turned f s y h not_full }
step-turned f server s does (Some y) h not_full =
    record { from = server_state s y (server_effect_in f s y); removes = (server_effect_in f s y).removes; same = refl; kept = server-turned f s y h }

layered-kept : (d : Side) (s : State) (l : Layer) → l.removed < 2 ^ 32 → Kept s → Kept (layered d s l)
layered-kept client s l low h = kept-with s h l s.control.down h.client h.server low h.removed_down
layered-kept server s l low h = kept-with s h s.control.up l h.client h.server h.removed_up low

octet-turned : (f : Fixed) (d : Side) (s : State) (x : ℕ) → Kept s → is_queue_full d (is_passing s.control.client.place) s.control.owed ≡ false
    → Turned (octet_step f d s x).state
unfolding octet_step
octet-turned f client s x h not_full =
    step-turned f client (layered client s (layer_read client s x).layer) _ _ (layered-kept client s _ (layer-low _ s.control.up x h.removed_up) h) not_full
octet-turned f server s x h not_full =
    step-turned f server (layered server s (layer_read server s x).layer) _ _ (layered-kept server s _ (layer-low _ s.control.down x h.removed_down) h) not_full

octet-kept : (f : Fixed) (d : Side) (s : State) (x : ℕ) → Kept s → is_queue_full d (is_passing s.control.client.place) s.control.owed ≡ false
    → Kept (octet_step f d s x).state
octet-kept f d s x h not_full = let t = octet-turned f d s x h not_full in subst Kept (sym t.same) (settled-kept t.from t.removes t.kept)

-- and leaves nothing to settle
octet-settles : (f : Fixed) (d : Side) (s : State) (x : ℕ) → Kept s → is_queue_full d (is_passing s.control.client.place) s.control.owed ≡ false
    → Settled (octet_step f d s x).state
octet-settles f d s x h not_full =
    let t = octet-turned f d s x h not_full in
    let u = t.from.control.server in
    subst Settled (sym t.same)
    (settled-then t.from t.removes (omega (arith, t.kept.queue.size, t.kept.queue.most))
    (λ e. t.kept.server.none (not-holding u.place (ap is_holding e))))

-- ---- every octet of an arrival

-- the state before an octet, of those that are not stopped
abbrev state_at : Fixed → Side → State → List ℕ → ℕ → State
state_at f d s xs k = (octet_steps f d s (take k xs)).state

steps-kept : (f : Fixed) (d : Side) (s : State) (xs : List ℕ) (k : ℕ) → k ≤ length xs → Kept s
    → ((j : ℕ) → j < k → is_queue_full d (is_passing (state_at f d s xs j).control.client.place) (state_at f d s xs j).control.owed ≡ false)
    → Kept (state_at f d s xs k)
unfolding octet_steps
steps-kept f d s xs zero h m e = m
steps-kept f d s [] (suc k) h m e = absurd (omega arith)
steps-kept f d s (x ∷ xs) (suc k) h m e =
    steps-kept f d (octet_step f d s x).state xs k (omega arith) (octet-kept f d s x m (e 0 (omega arith))) (λ j l. e (suc j) (omega arith))

kept : (s : Session) → Shaped s → Sound s → Kept (state_of s)
kept s shape w =
    record {
      queue = record { size = shape.kinds; most = w.owed; listed = each-listed s.control.owed s.kinds w.listed };
      client = w.client;
      server = w.server;
      command = shape.command;
      reply = shape.reply;
      opening = shape.opening;
      removed_up = shape.removed_up;
      removed_down = shape.removed_down;
    }

countable : (s : State) → Kept s → Counted s.control
countable s h = record { owed = h.queue.most; command = h.client.most; reply = h.server.most }

module _ (c : Situation) (octets : List ℕ) (shape : Shaped c.session) where
  kept-before : (k : ℕ) → k ≤ length octets → Takes c octets k → Kept (before c octets k).state
  kept-before k h t =
      steps-kept c.session.fixed (side_of c.direction) (state_of c.session) octets k h
      (kept c.session shape t.accepted.sound) (λ j l. queue-open c octets j (t.each j l).not_full)

  -- "One octet writes at most .. octets to the server and at most .. to the client": each one that an arrival comes to and 1 does not stop
  pub each-octet : (k : ℕ) → k < length octets → Takes c octets k → (Full c octets k → ⊥) → WritesAtMost (next_step c octets k)
  each-octet k h t n =
      octet-most c.session.fixed shape.mapped shape.octets (before c octets k).state (get_or octets k 0)
      (countable (before c octets k).state (kept-before k (omega arith) t)) (side_of c.direction) (queue-open c octets k n)

  -- after each of them nothing is left to settle, so that a run can begin behind it
  pub each-settled : (k : ℕ) → k < length octets → Takes c octets k → (Full c octets k → ⊥) → Settled (next_step c octets k).state
  each-settled k h t n =
      octet-settles c.session.fixed (side_of c.direction) (before c octets k).state (get_or octets k 0) (kept-before k (omega arith) t)
      (queue-open c octets k n)

  -- where 1 is given, exactly 16 are owed
  pub one-sixteen : (k : ℕ) → One c octets k → (before c octets k).state.control.owed ≡ most_owed
  one-sixteen k o = omega (arith, (kept-before k (omega (arith, o.more)) o.takes).queue.most, o.reason.owed)

-- ---- calls

session-kept : (s : Session) (d : Side) (k a b : ℕ) (t : State) → Shaped s → Sound s → Kept t
    → Shaped (session_after s d k a b t) × Sound (session_after s d k a b t)
unfolding session_after
session-kept s d k a b t shape w h = (
  record { mapped = shape.mapped; octets = shape.octets; command = h.command; reply = h.reply; kinds = h.queue.size; opening = h.opening; removed_up = h.removed_up; removed_down = h.removed_down },
  record {
    live = w.live;
    owed = h.queue.most;
    listed = listed-each t.control.owed t.kinds h.queue.listed;
    client = h.client;
    server = h.server;
  },
)

end_kept : (d : Side) (s : State) → Kept s → Kept (end_step d s).state
unfolding end_step
end_kept client s h = kept-with s h (cleared s.control.up) s.control.down (none-held _) h.server h.removed_up h.removed_down
end_kept server s h = kept-with s h s.control.up (cleared s.control.down) h.client (none-held _) h.removed_up h.removed_down

module _ (c : Situation) (shape : Shaped c.session) (w : Sound c.session) where
  abbrev Stays : Outcome → Type 0
  Stays o = Shaped o.called.session × Sound o.called.session

  unless-kept : (o : Outcome) → (Accepted c → Stays o) → Stays (unless_refused (refusal_of c.session c.direction) c.session o)
  unfolding unless_refused refused
  unless-kept o yields = by-refusal (refusal_of c.session c.direction) (refusal-of c.session c.direction)
    where
      by-refusal : (r : Option Answer) → Refusal c.session c.direction r → Stays (unless_refused r c.session o)
      by-refusal r (unknown u) = (shape, w)
      by-refusal r (bad k n) = (shape, w)
      by-refusal r (over k n e) = (shape, w)
      by-refusal r (accepted k n e) = yields (record { known = k; sound = n; not_ended = e })

  took-kept : (octets : List ℕ) → Accepted c → Kept (took c octets).state
  took-kept octets a =
      subst Kept (sym (it-takes c octets).state) (kept-before c octets shape (took c octets).taken (by_last (it-takes c octets).last) (taken-first c octets a))
    where
      by_last : ItsLast c octets → (took c octets).taken ≤ length octets
      by_last (inl p) = omega (arith, p.0)
      by_last (inr p) = omega (arith, p.0)

  end_stays : (b : Bool) → Stays (end_outcome c.session (side_of c.direction) (end_step (side_of c.direction) (state_of c.session)) b)
  unfolding end_outcome outcome refused
  end_stays true =
      session-kept c.session (side_of c.direction) _ _ _ _ shape w (end_kept (side_of c.direction) (state_of c.session) (kept c.session shape w))
  end_stays false = (shape, w)

  -- a call on a record that number 4 lets through returns such a record
  pub calls-keep : (o : Outcome) → Result c o → Shaped o.called.session × Sound o.called.session
  unfolding arrived end_called outcome
  calls-keep o (of_arrival octets) =
      unless-kept (result c octets) (λ a. session-kept c.session (side_of c.direction) _ _ _ _ shape w (took-kept octets a))
  calls-keep o of_end = unless-kept (end_result c) (λ a. end_stays _)

sixteen : 1 ≤ most_owed
sixteen = lit≤ tt

-- a fresh session is one
pub fresh_kept : (su : Setup) → length su.mapped ≡ ipv4_width → every (λ n. leb n 255) su.mapped ≡ true
    → Shaped (fresh_session su) × Sound (fresh_session su)
unfolding fresh_session
fresh_kept su size octets = (
  record {
    mapped = size;
    octets = octets;
    command = length-replicate {A = ℕ} most_held 0;
    reply = length-replicate {A = ℕ} most_held 0;
    kinds = length-replicate {A = ℕ} most_owed 0;
    opening = omega arith;
    removed_up = omega arith;
    removed_down = omega arith;
  },
  record {
    live = refl;
    owed = sixteen;
    listed = λ i h. omega (arith, get_or-replicate {A = ℕ} most_owed i 0 0 (omega (arith, sixteen)));
    client = none-held _;
    server = none-held _;
  },
)
