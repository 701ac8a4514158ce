-- An octet that makes none of a line, and an octet through the Telnet layer: whether its step fits, and what is there after it.
use mathlib.Core.Path.{◌≡◌, refl, sym, ap, subst, ◌∙◌}
use mathlib.Core.Bool.{Bool, true, false, not}
use Rattle.std.specs.Prelude.{Option, None, Some, is_some, unwrap_or}
use mathlib.Core.List.{List, [], ◌++◌}
use Prim.Native.Nat.{ℕ, ◌+◌, ◌-◌, ◌*◌, ◌<◌, ◌≤◌}
use native.Mathlib.Omega.{arith}
use lib.ListN.{length, take, length-append}
use Rattle.rules.specs.Octets.{choose}
use Rattle.rules.specs.Answers.{Side, client, server, most_answers, is_queue_full}
use Rattle.rules.specs.Telnet.{layer_octet, data_of}
use Rattle.rules.specs.declared.Layer.{Layer}
use Rattle.rules.specs.declared.Fixed.{Fixed}
use Rattle.rules.specs.Lines.{most_held, passed}
use Rattle.rules.specs.declared.Does.{Does}
use Rattle.octets.proofs.Choices.{either}
use Rattle.output.specs.Buffer.{put_at, position_after}
use Rattle.output.proofs.Placing.{length-put, put-after, after-fits}
use Rattle.records.specs.declared.Control.{Control}
use Rattle.places.specs.declared.Direction.{Direction}
use Rattle.places.specs.Places.{is_in_lines, is_passing}
use Rattle.records.specs.Controls.{layer_in, with_layer, unfinished_of}
use Rattle.records.specs.Sound.{direction_of, Counted}
use Rattle.queue.specs.declared.Plan.{Plan}
use Rattle.steps.specs.declared.Written.{Written}
use Rattle.steps.specs.declared.octet.Octet.{Octet}
use Rattle.steps.specs.declared.settling.SettledQueue.{SettledQueue}
use Rattle.steps.specs.Steps.{State, Step, settled_state, settled_text, line_step, telnet_text, telnet_step, is_client, step_by, layered, layer_read, octet_step}
use Rattle.steps.specs.Core.{SteppedBy, Bounded, Planned, step_fits, core_after}
use Rattle.steps.specs.Takes.{Core, state_from, core_from}
use Rattle.steps.proofs.Octets.{fits_both, unfit-server, unfit-client, core-next, settled-counted, settled-size, text_same, bounded-by, place-within}

-- what settling writes is less than can be counted
pub settled-few : (answers n tail : ℕ) (auth : Bool) → answers ≤ most_answers → n ≤ 2 * most_held → tail ≤ 2
    → answers + choose auth (n + tail) 0 ≤ most_answers + (2 * most_held + 2)
settled-few answers n tail auth a b t =
    either (λ (m : ℕ). answers + m ≤ most_answers + (2 * most_held + 2)) auth (n + tail) 0 (omega arith) (omega arith)

module _ (from : Bool) (does : Does) (c : Control) (command reply kinds : List ℕ) where
  abbrev state : State
  state = state_from c command reply kinds

  -- what goes to the server, and what to the client before it settles
  abbrev up : List ℕ
  up = telnet_text from does

  abbrev down : List ℕ
  down = telnet_text (not from) does

  -- what settling writes, which does not look at the client's line
  abbrev text : List ℕ
  text = settled_text (state_from c [] reply kinds) 0

  to-client : down ++ text ≡ (telnet_step from state does).to_client
  unfolding telnet_step
  to-client = ap (λ (l : List ℕ). down ++ l) (text_same c [] command reply kinds 0)

  to-server : up ≡ (telnet_step from state does).to_server
  unfolding telnet_step
  to-server = refl

  then-state : settled_state state 0 ≡ (telnet_step from state does).state
  unfolding telnet_step
  then-state = refl

  -- what the code measures behind what goes back or passes
  pub telnet-size : {p : Plan} {m tail : ℕ} → Planned p (state_from c [] reply kinds) 0 → tail ≡ length (unfinished_of server c)
      → m ≡ p.answers + choose p.auth (length (passed (take c.server.held reply)) + tail) 0 → m ≡ length text
  telnet-size {p} planned e h =
      h
      ∙ ap (λ (n : ℕ). p.answers + choose p.auth (length (passed (take c.server.held reply)) + n) 0) e
      ∙ settled-size p (state_from c [] reply kinds) 0 planned

  module _ (to_server to_client : List ℕ) (w : Written) (bounded : Bounded c w to_server to_client) where
    abbrev core : Core
    core = core_from state to_server to_client w

    pub telnet-no-room : {n : ℕ} → n ≡ length up → length to_server - w.server < n → step_fits (telnet_step from state does) core ≡ false
    telnet-no-room hn h = unfit-server (telnet_step from state does) core (omega (arith, ap length to-server))

    pub telnet-no-room-2 : {n m : ℕ} → n ≡ length down → m ≡ length text → length to_client - w.client < n + m
        → step_fits (telnet_step from state does) core ≡ false
    telnet-no-room-2 hn hm h = unfit-client (telnet_step from state does) core (omega (arith, ap length to-client, length-append down text))

    -- settling has room behind what went before it
    pub telnet-room : {next : ℕ} {between : List ℕ} → w.client + (length down + length text) ≤ length to_client
        → next ≡ position_after to_client w.client down → between ≡ put_at to_client w.client down
        → next + length text ≤ length between
    telnet-room room hn hb =
        let first : w.client + length down ≤ length to_client = omega arith in
        omega (arith, hn ∙ after-fits to_client w.client down first, ap length hb, length-put to_client w.client down first)

    -- what the code leaves, where the octet fits
    pub telnet-after : (s : SettledQueue) (to_server' between to_client' : List ℕ) (next at : ℕ)
        → w.server + length up ≤ length to_server → w.client + (length down + length text) ≤ length to_client
        → next ≡ position_after to_server w.server up → to_server' ≡ put_at to_server w.server up
        → at ≡ position_after to_client w.client down → between ≡ put_at to_client w.client down
        → ((a : List ℕ) → state_from s.control a reply s.kinds ≡ settled_state (state_from c a reply kinds) 0)
        → s.at ≡ at + length text → to_client' ≡ put_at between at text
        → SteppedBy (telnet_step from state does) core true
        (core_from (state_from s.control command reply s.kinds) to_server' to_client' (record { server = next; client = s.at }))
    telnet-after s to_server' between to_client' next at room_s room_c hn hs ha hb settled he ht =
        let S = telnet_step from state does in
        let sum = length-append down text in
        let whole : w.client + length (down ++ text) ≤ length to_client = omega arith in
        let there : state_from s.control command reply s.kinds ≡ S.state = settled command ∙ then-state in
        let place : next ≡ w.server + length up = hn ∙ after-fits to_server w.server up room_s in
        let first : to_server' ≡ put_at to_server w.server S.to_server = hs ∙ ap (put_at to_server w.server) to-server in
        let after : at ≡ w.client + length down = ha ∙ after-fits to_client w.client down (omega arith) in
        let both : to_client' ≡ put_at to_client w.client (down ++ text) =
        ht ∙ ((λ i. put_at (hb i) (after i) text) ∙ put-after to_client w.client down text whole) in
        let end : s.at ≡ w.client + length (down ++ text) = omega arith in
        let m : next ≡ w.server + length S.to_server = place ∙ ap (λ (l : List ℕ). w.server + length l) to-server in
        let n : s.at ≡ w.client + length S.to_client = end ∙ ap (λ (l : List ℕ). w.client + length l) to-client in
        let fit = fits_both S core (omega (arith, ap length to-server)) (omega (arith, ap length to-client)) in
        let counted : Counted c = record { owed = bounded.owed; command = bounded.command; reply = bounded.reply } in
        let kept = subst (λ (u : State). Counted u.control) (sym (settled [])) (settled-counted (state_from c [] reply kinds) 0 counted) in
        record {
          fits = sym fit;
          core = (λ i. core_from (there i) (first i) ((both ∙ ap (put_at to_client w.client) to-client) i) (record { server = m i; client = n i }))
              ∙ core-next S core fit;
          bounded = bounded-by s.control (record { server = next; client = s.at }) to_server' to_client' kept
              (place-within to_server w.server up room_s place hs)
              (place-within to_client w.client (down ++ text) whole end both);
        }

-- ---- through the layer

-- a step leaves what it leaves whatever layer the state before it has; where it does not fit, that state stays
module _ (t : Step) (c c₁ : Control) (line reply kinds sb cb : List ℕ) (w : Written) (line' reply' sb' cb' : List ℕ) where
  abbrev before : Core
  before = core_from (state_from c line reply kinds) sb cb w

  abbrev layered_before : Core
  layered_before = core_from (state_from c₁ line reply kinds) sb cb w

  -- what an octet leaves, which may be nothing behind such a control
  abbrev left : Option Octet → Control → Core
  left o control =
      let q = unwrap_or o (record { control = control; kinds = kinds; written = w }) in
      core_from (state_from q.control line' reply' q.kinds) sb' cb' q.written

  pub through-layer : (o : Option Octet) → Bounded c w sb cb → SteppedBy t layered_before (is_some o) (left o c₁)
      → SteppedBy t before (is_some o) (left o c)
  unfolding step_fits core_after
  through-layer (Some o) bounded stepped =
      let fit : step_fits t before ≡ true = sym stepped.fits in
      record {
        fits = stepped.fits;
        core = stepped.core ∙ ap (core_after t layered_before) fit ∙ ap (core_after t before) (sym fit);
        bounded = stepped.bounded;
      }
  through-layer None bounded stepped =
      let fit : step_fits t before ≡ false = sym stepped.fits in
      let same : left None c₁ ≡ layered_before = stepped.core ∙ ap (core_after t layered_before) fit in
      record {
        fits = stepped.fits;
        core = (λ i. core_from (state_from c (same i).state.command (same i).state.reply kinds) (same i).server_buffer (same i).client_buffer w)
            ∙ ap (core_after t before) (sym fit);
        bounded = subst (λ (k : Core). Bounded c w k.server_buffer k.client_buffer) (sym same) bounded;
      }

-- what the code reads of the layer
module _ (d : Side) (s : State) (x : ℕ) where
  pub read_is : {b : Bool} {p : Direction} {l : Layer} → p ≡ direction_of d s.control → b ≡ is_in_lines p.place → l ≡ layer_in d s.control
      → layer_octet b l x ≡ layer_read d s x
  read_is e f g = λ i. layer_octet ((f ∙ ap (λ (p : Direction). is_in_lines p.place) e) i) (g i) x

  -- an octet of a line
  pub data-step : (f : Fixed) {y : ℕ} {does : Does} → does ≡ (layer_read d s x).does → does ≡ Does.Data y
      → line_step f d (layered d s (layer_read d s x).layer) y ≡ octet_step f d s x
  unfolding octet_step step_by
  data-step f e known = ap (λ (q : Does). step_by f d (layered d s (layer_read d s x).layer) q (data_of q)) (sym known ∙ e)

  -- one that makes none
  pub other_step : (f : Fixed) {does : Does} → does ≡ (layer_read d s x).does → ((y : ℕ) → does ≡ Does.Data y → ⊥)
      → telnet_step (is_client d) (layered d s (layer_read d s x).layer) does ≡ octet_step f d s x
  unfolding octet_step step_by
  other_step f {does} e k =
      other does k ∙ ap (λ (q : Does). step_by f d (layered d s (layer_read d s x).layer) q (data_of q)) e
    where
      other : (q : Does) → ((y : ℕ) → q ≡ Does.Data y → ⊥)
          → telnet_step (is_client d) (layered d s (layer_read d s x).layer) q ≡ step_by f d (layered d s (layer_read d s x).layer) q (data_of q)
      other (Does.Data y) k = absurd (k y refl)
      other Does.Nothing k = refl
      other (Does.AnswersDont y) k = refl
      other (Does.AnswersWont y) k = refl
      other (Does.Passes y) k = refl
      other (Does.Removes n) k = refl

-- what a layer changes of a control is none of its counts
module _ (c : Control) (l : Layer) (w : Written) (sb cb : List ℕ) where
  pub layer-bounded : (d : Side) {c₁ : Control} → c₁ ≡ with_layer d c l → Bounded c w sb cb → Bounded c₁ w sb cb
  layer-bounded d {c₁} e bounded = subst (λ (q : Control). Bounded q w sb cb) (sym e) (of d)
    where
      of : (d : Side) → Bounded (with_layer d c l) w sb cb
      of client = record { owed = bounded.owed; command = bounded.command; reply = bounded.reply; server = bounded.server; client = bounded.client }
      of server = record { owed = bounded.owed; command = bounded.command; reply = bounded.reply; server = bounded.server; client = bounded.client }

  pub layer-open : (d e : Side) {c₁ : Control} → c₁ ≡ with_layer d c l → is_queue_full e (is_passing c.client.place) c.owed ≡ false
      → is_queue_full e (is_passing c₁.client.place) c₁.owed ≡ false
  layer-open d e {c₁} same queue = subst (λ (q : Control). is_queue_full e (is_passing q.client.place) q.owed ≡ false) (sym same) (of d)
    where
      of : (d : Side) → is_queue_full e (is_passing (with_layer d c l).client.place) (with_layer d c l).owed ≡ false
      of client = queue
      of server = queue
