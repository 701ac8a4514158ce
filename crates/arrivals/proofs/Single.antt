-- One octet on a settled state that is held, flows or passes: its step in all, and that the state stays settled.
use Rattle.std.specs.Prelude.{None}
use mathlib.Core.Path.{◌≡◌, refl, sym, ap, subst, ◌∙◌}
use mathlib.Core.Bool.{true, false, ◌||◌, false≢true}
use mathlib.Core.List.{List, [], ◌∷◌, ◌++◌}
use Prim.Native.Nat.{ℕ, ◌+◌, ◌<◌}
use lib.Dec.{eqb}
use lib.ListN.{take, set}
use borrow.Author.Tests.{lt-ltb}
use Rattle.rules.specs.Octets.{lf, iac}
use Rattle.rules.specs.Lines.{judged, passed}
use Rattle.rules.specs.declared.Telnet.{Telnet}
use Rattle.rules.specs.Replies.{is_open}
use Rattle.rules.specs.Answers.{Side, client, server}
use Rattle.octets.proofs.Choices.{choose-true, choose-false}
use Rattle.places.specs.declared.Place.{Place}
use Rattle.places.specs.declared.Direction.{Direction}
use Rattle.places.specs.Places.{at, is_holding, is_in_lines, is_flowing_or_ended}
use Rattle.gives.specs.declared.Gives.{Gives}
use Rattle.gives.specs.Text.{gives_text}
use Rattle.queue.specs.Kinds.{pushed, head_of}
use Rattle.upstream.specs.Upstream.{client_effect_of, join_effect, place_effect, client_effect}
use Rattle.downstream.specs.Downstream.{server_effect_of, reply_octet, reply_effect, server_effect}
use Rattle.rules.specs.declared.Fixed.{Fixed}
use Rattle.records.specs.Sound.{blocked, direction_of}
use Rattle.steps.specs.Steps.{State, Step, stored, owed_then, client_effect_in, client_state, client_step, server_effect_in, server_state, server_step, line_step, octet_step}
use Rattle.steps.specs.Settled.{Through, through_passing, through_ended, Settled}
use Rattle.arrivals.specs.Runs.{to_server_of, to_client_of, with_command, with_reply, holding}
use Rattle.steps.proofs.Quiet.{settles-same, settles-silent}
use Rattle.steps.proofs.Through.{Clear, octet-clear, octet-past}

-- ---- the steps

abbrev pub step_to : State → List ℕ → List ℕ → Step
step_to s a b = record { state = s; to_server = a; to_client = b }

-- what gives the octet alone, and holds nothing
record GoesAlone (f : Fixed) (x : ℕ) (g : Gives) : Type 0 where
  kept : (line : List ℕ) (n : ℕ) → stored line n x g ≡ line
  gives : (h : List ℕ) → gives_text f h x g ≡ x ∷ []

passes-alone : (f : Fixed) (x : ℕ) → GoesAlone f x Gives.Octet
unfolding gives_text stored
passes-alone f x = record { kept = λ line n. refl; gives = λ h. refl }

-- an octet of a line, unless it is 255
flows-alone : (f : Fixed) (x : ℕ) → eqb x iac ≡ false → GoesAlone f x Gives.LineOctet
unfolding gives_text stored passed
flows-alone f x n = record { kept = λ line n. refl; gives = λ h. choose-false (iac ∷ iac ∷ []) (x ∷ []) n }

-- ---- of the client

-- it stays settled, whatever the client's direction and array are
pub client-kept : (s : State) → Settled s → (d : Direction) (line : List ℕ) → Settled (with_command s d line)
unfolding blocked
client-kept s settled d line = record { answers = settled.answers; auth = settled.auth }

module _ (f : Fixed) (s : State) (x : ℕ) where
  -- an octet that owes nothing leaves the queue, the reply and the server alone
  client-step : (g : Gives) (d : Direction)
      → client_effect_in f s x ≡ client_effect_of g d s.control.switches None
      → Settled (with_command s d (stored s.command s.control.client.held x g))
      → line_step f client s x
      ≡ step_to (with_command s d (stored s.command s.control.client.held x g))
      (gives_text f (take s.control.client.held s.command) x g) []
  unfolding line_step client_step client_state owed_then pushed
  client-step g d e settled =
      let t = with_command s d (stored s.command s.control.client.held x g) in
      rw e (λ i. record {
        state = settles-same t settled i;
        to_server = gives_text f (take s.control.client.held s.command) x g;
        to_client = settles-silent t settled i;
      })

  -- an octet that goes on as it is leaves the state alone
  client-gives : Settled s → (p : Place) (g : Gives) → s.control.client ≡ at p 0
      → client_effect_in f s x ≡ client_effect_of g (at p 0) s.control.switches None → GoesAlone f x g
      → line_step f client s x ≡ step_to s (x ∷ []) []
  client-gives settled p g place e alone =
      let kept = alone.kept s.command s.control.client.held in
      client-step g (at p 0) e (client-kept s settled (at p 0) (stored s.command s.control.client.held x g))
      ∙ (λ i. step_to (with_command s (sym place i) (kept i)) (alone.gives (take s.control.client.held s.command) i) [])

-- ---- of the server

-- a holding server is not through, so AUTH is not first
still-through : (p : Place) (n : ℕ) (t : Telnet) → is_holding p ≡ true → Through p n t → (m : ℕ) → Through Place.Holding m t
still-through p n t e through_passing m = absurd (false≢true e)
still-through p n t e through_ended m = absurd (false≢true e)

-- it stays settled while the server goes on holding
pub server-kept : (s : State) → Settled s → s.control.server.place ≡ Place.Holding → (n : ℕ) (line : List ℕ)
    → Settled (with_reply s (at Place.Holding n) line)
unfolding blocked
server-kept s settled p n line =
    record {
      answers = λ e. settled.answers (ap (λ (q : Place). is_open s.control.opening || is_flowing_or_ended q) p ∙ e);
      auth = λ e. still-through s.control.server.place s.control.server.held s.control.down.telnet (ap is_holding p) (settled.auth e) n;
    }

module _ (f : Fixed) (s : State) (x : ℕ) where
  server-step : (g : Gives) (d : Direction) → server_effect_in f s x ≡ server_effect_of g d 0 s.control.opening
      → Settled (with_reply s d (stored s.reply s.control.server.held x g))
      → line_step f server s x
      ≡ step_to (with_reply s d (stored s.reply s.control.server.held x g)) []
      (gives_text f (take s.control.server.held s.reply) x g ++ [])
  unfolding line_step server_step server_state
  server-step g d e settled =
      let t = with_reply s d (stored s.reply s.control.server.held x g) in
      rw e (λ i. record {
        state = settles-same t settled i;
        to_server = [];
        to_client = gives_text f (take s.control.server.held s.reply) x g ++ settles-silent t settled i;
      })

  server-gives : Settled s → (p : Place) (g : Gives) → s.control.server ≡ at p 0
      → server_effect_in f s x ≡ server_effect_of g (at p 0) 0 s.control.opening → GoesAlone f x g
      → line_step f server s x ≡ step_to s [] (x ∷ [])
  server-gives settled p g place e alone =
      let kept = alone.kept s.reply s.control.server.held in
      server-step g (at p 0) e
      (subst (λ (line : List ℕ). Settled (with_reply s (at p 0) line)) (sym kept) (subst (λ (d : Direction). Settled (with_reply s d s.reply)) place settled))
      ∙ (λ i. step_to (with_reply s (sym place i) (kept i)) [] (alone.gives (take s.control.server.held s.reply) i ++ []))

-- ---- of either side

pub holding-kept : (d : Side) (s : State) (k n : ℕ) (line line' : List ℕ) → Settled (holding d s k line) → Settled (holding d s n line')
holding-kept client s k n line line' settled = client-kept (holding client s k line) settled (at Place.Holding n) line'
holding-kept server s k n line line' settled = server-kept (holding server s k line) settled refl n line'

-- a side's layer is none of what holding changes
pub holding-clear : (d : Side) (s : State) (k : ℕ) (line : List ℕ) → Clear d s → Clear d (holding d s k line)
holding-clear client s k line e = e
holding-clear server s k line e = e

module _ (f : Fixed) (s : State) (x : ℕ) where
  line-passes : (d : Side) → Settled s → direction_of d s.control ≡ at Place.Passing 0
      → line_step f d s x ≡ step_to s (to_server_of d (x ∷ [])) (to_client_of d (x ∷ []))
  unfolding client_effect_in client_effect place_effect server_effect_in server_effect reply_effect
  line-passes client settled p =
      client-gives f s x settled Place.Passing Gives.Octet p
      (ap (λ (e : Direction). client_effect f s.control.switches e s.command x) p) (passes-alone f x)
  line-passes server settled p =
      server-gives f s x settled Place.Passing Gives.Octet p
      (ap (λ (e : Direction). server_effect f s.control.opening (head_of s.kinds s.control.owed) e s.reply x) p)
      (passes-alone f x)

  pub octet-passes : (d : Side) → Settled s → direction_of d s.control ≡ at Place.Passing 0
      → octet_step f d s x ≡ step_to s (to_server_of d (x ∷ [])) (to_client_of d (x ∷ []))
  octet-passes d settled p = octet-past f s x d (ap (λ (e : Direction). is_in_lines e.place) p) ∙ line-passes d settled p

  line-flows : (d : Side) → Settled s → direction_of d s.control ≡ at Place.Flowing 0 → eqb x lf ≡ false → eqb x iac ≡ false
      → line_step f d s x ≡ step_to s (to_server_of d (x ∷ [])) (to_client_of d (x ∷ []))
  unfolding client_effect_in client_effect place_effect server_effect_in server_effect reply_effect
  line-flows client settled p n i =
      client-gives f s x settled Place.Flowing Gives.LineOctet p
      (λ i. place_effect f s.control.switches (p i).place (p i).held (take (p i).held s.command) (n i)) (flows-alone f x i)
  line-flows server settled p n i =
      server-gives f s x settled Place.Flowing Gives.LineOctet p
      (λ i. reply_effect f s.control.opening (head_of s.kinds s.control.owed) (p i).place (p i).held s.reply (n i))
      (flows-alone f x i)

  pub octet-flows : (d : Side) → Settled s → Clear d s → direction_of d s.control ≡ at Place.Flowing 0 → eqb x lf ≡ false → eqb x iac ≡ false
      → octet_step f d s x ≡ step_to s (to_server_of d (x ∷ [])) (to_client_of d (x ∷ []))
  octet-flows d settled clear p n i = octet-clear f s x d clear i ∙ line-flows d settled p n i

  line-held : (d : Side) (k : ℕ) (line : List ℕ) → Settled (holding d s k line) → eqb x lf ≡ false → k + 1 < judged
      → line_step f d (holding d s k line) x ≡ step_to (holding d s (k + 1) (set line k x)) [] []
  unfolding client_effect_in client_effect place_effect join_effect server_effect_in server_effect reply_effect reply_octet gives_text stored
  line-held client k line settled n h =
      client-step f (holding client s k line) x Gives.Held (at Place.Holding (k + 1))
      (ap (place_effect f s.control.switches Place.Holding k (take k line)) n ∙ choose-true _ _ (lt-ltb (k + 1) judged h))
      (holding-kept client s k (k + 1) line (set line k x) settled)
  line-held server k line settled n h =
      server-step f (holding server s k line) x Gives.Held (at Place.Holding (k + 1))
      (ap (reply_effect f s.control.opening (head_of s.kinds s.control.owed) Place.Holding k line) n
      ∙ choose-true _ _ (lt-ltb (k + 1) judged h))
      (holding-kept server s k (k + 1) line (set line k x) settled)

  pub octet-held : (d : Side) (k : ℕ) (line : List ℕ) → Settled (holding d s k line) → Clear d s → eqb x lf ≡ false → eqb x iac ≡ false
      → k + 1 < judged → octet_step f d (holding d s k line) x ≡ step_to (holding d s (k + 1) (set line k x)) [] []
  octet-held d k line settled clear n i h =
      octet-clear f (holding d s k line) x d (holding-clear d s k line clear) i ∙ line-held d k line settled n h
