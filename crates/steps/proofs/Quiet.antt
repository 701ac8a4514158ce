-- A settled state settles to itself, and what settles is settled then.
use mathlib.Core.Path.{◌≡◌, refl, sym, ap, subst, ◌∙◌}
use mathlib.Core.Bool.{true, false, ◌||◌, false≢true}
use mathlib.Core.List.{List, [], ◌∷◌, ◌++◌}
use Prim.Native.Nat.{ℕ, ◌+◌, ◌-◌, ◌≤◌}
use native.Mathlib.Omega.{arith}
use lib.ListN.{length, take, drop, take-append-drop}
use lib.Seq.{drop-drop}
use Rattle.rules.specs.Octets.{choose}
use Rattle.rules.specs.Answers.{server}
use Rattle.rules.specs.Lines.{passed}
use Rattle.rules.specs.Telnet.{unfinished_in, cleared}
use Rattle.rules.specs.declared.Telnet.{Telnet}
use Rattle.rules.specs.declared.Layer.{Layer}
use Rattle.rules.specs.Replies.{is_open, head_answers, auth_at_head}
use Rattle.rules.specs.declared.Kind.{Kind}
use Rattle.octets.proofs.Choices.{by-test, choose-true, choose-false}
use Rattle.places.specs.declared.Place.{Place}
use Rattle.places.specs.declared.Direction.{Direction}
use Rattle.places.specs.Places.{at, is_flowing, is_passing, is_in_lines, is_ended, is_flowing_or_ended, direction_from_now}
use Rattle.queue.specs.Kinds.{queue_of, answers_at_head, shifted}
use Rattle.queue.proofs.Answers.{answers-none}
use Rattle.queue.proofs.Listed.{shifted-queue}
use Rattle.queue.specs.declared.Plan.{Plan}
use Rattle.steps.specs.Core.{Planned}
use Rattle.records.specs.Sound.{blocked}
use Rattle.steps.specs.Steps.{State, let_go_of, owed_from, leaving, answers_text, is_auth_next, settled_control, settled_state, settled_text}
use Rattle.steps.specs.Settled.{Through, through_passing, through_ended, Settled}

-- ---- places by their tests

pub place-flowing : (p : Place) → is_flowing p ≡ true → p ≡ Place.Flowing
place-flowing Place.Holding e = absurd (false≢true e)
place-flowing Place.Flowing e = refl
place-flowing Place.Passing e = absurd (false≢true e)
place-flowing Place.Ended e = absurd (false≢true e)

pub place-passing : (p : Place) → is_passing p ≡ true → p ≡ Place.Passing
place-passing Place.Holding e = absurd (false≢true e)
place-passing Place.Flowing e = absurd (false≢true e)
place-passing Place.Passing e = refl
place-passing Place.Ended e = absurd (false≢true e)

pub place-ended : (p : Place) → is_ended p ≡ true → p ≡ Place.Ended
place-ended Place.Holding e = absurd (false≢true e)
place-ended Place.Flowing e = absurd (false≢true e)
place-ended Place.Passing e = absurd (false≢true e)
place-ended Place.Ended e = refl

-- a direction by its place and count
pub direction-at : (d : Direction) {p : Place} → d.place ≡ p → d.held ≡ 0 → d ≡ at p 0
direction-at d e n = λ i. at (e i) (n i)

-- ---- queues

answers-gone : (ks : List Kind) → answers_at_head (drop (answers_at_head ks) ks) ≡ 0
unfolding answers_at_head
answers-gone [] = refl
answers-gone (Kind.Plain ∷ ks) = refl
answers-gone (Kind.TranslatedEpsv ∷ ks) = refl
answers-gone (Kind.Own a ∷ ks) = answers-gone ks
answers-gone (Kind.Auth ∷ ks) = refl

auth-first : (ks : List Kind) → auth_at_head ks ≡ true → answers_at_head ks ≡ 0
unfolding answers_at_head auth_at_head
auth-first [] e = refl
auth-first (Kind.Plain ∷ ks) e = refl
auth-first (Kind.TranslatedEpsv ∷ ks) e = refl
auth-first (Kind.Own a ∷ ks) e = cc
auth-first (Kind.Auth ∷ ks) e = refl

-- ---- a settled state settles to itself

through_same : (p : Place) (n : ℕ) (t : Telnet) → Through p n t → direction_from_now (at p n) p ≡ at p n
through_same p n t through_passing = refl
through_same p n t through_ended = refl

through-clear : (p : Place) (n : ℕ) (t : Telnet) (r : ℕ) → Through p n t
    → cleared (record { telnet = t; removed = r }) ≡ record { telnet = t; removed = r }
through-clear p n t r through_passing = refl
through-clear p n t r through_ended = refl

through-none : (p : Place) (n : ℕ) (t : Telnet) (line : List ℕ) → Through p n t → passed (take n line) ++ unfinished_in (is_in_lines p) t ≡ []
unfolding passed
through-none p n t line through_passing = refl
through-none p n t line through_ended = refl

module _ (s : State) (settled : Settled s) where
  none-leaves : leaving s 0 ≡ 0
  unfolding leaving
  none-leaves =
      by-test (λ (m : ℕ). m ≡ 0) (blocked s.control) 0 (0 + answers_at_head (owed_from s 0)) (λ _. refl)
      (λ e. let none : answers_at_head (owed_from s 0) ≡ 0 = settled.answers e in omega arith)

  no_text : answers_text s 0 ≡ []
  unfolding answers_text
  no_text =
      by-test (λ (l : List ℕ). l ≡ []) (blocked s.control) [] (head_answers (owed_from s 0)) (λ _. refl)
      (λ e. answers-none (owed_from s 0) (settled.answers e))

  auth-now : is_auth_next s 0 ≡ true → Through s.control.server.place s.control.server.held s.control.down.telnet
  unfolding is_auth_next
  auth-now e = settled.auth (sym (ap (λ (m : ℕ). auth_at_head (owed_from s m)) none-leaves) ∙ e)

  pub settles-same : settled_state s 0 ≡ s
  unfolding settled_state settled_control shifted
  settles-same =
      let c = s.control in
      let sv = c.server in
      let down : choose (is_auth_next s 0) (cleared c.down) c.down ≡ c.down =
      by-test (λ (l : Layer). l ≡ c.down) (is_auth_next s 0) (cleared c.down) c.down
      (λ e. through-clear sv.place sv.held c.down.telnet c.down.removed (auth-now e)) (λ _. refl) in
      let server : choose (is_auth_next s 0) (direction_from_now c.server c.server.place) c.server ≡ c.server =
      by-test (λ (d : Direction). d ≡ c.server) (is_auth_next s 0) (direction_from_now c.server c.server.place)
      c.server
      (λ e. through_same sv.place sv.held c.down.telnet (auth-now e)) (λ _. refl) in
      let owed : c.owed - leaving s 0 ≡ c.owed = omega (arith, none-leaves) in
      let kinds : shifted s.kinds (leaving s 0) c.owed ≡ s.kinds =
      (λ i. drop (none-leaves i) (take c.owed s.kinds) ++ drop (owed i) s.kinds)
      ∙ take-append-drop c.owed s.kinds in
      λ i. record {
        control = record {
          switches = c.switches;
          client = c.client;
          server = server i;
          owed = owed i;
          opening = c.opening;
          up = c.up;
          down = down i;
        };
        command = s.command;
        reply = s.reply;
        kinds = kinds i;
      }

  pub settles-silent : settled_text s 0 ≡ []
  unfolding settled_text
  settles-silent =
      let sv = s.control.server in
      let behind : choose (is_auth_next s 0) (let_go_of server s) [] ≡ [] =
      by-test (λ (l : List ℕ). l ≡ []) (is_auth_next s 0) (let_go_of server s) []
      (λ e. through-none sv.place sv.held s.control.down.telnet s.reply (auth-now e)) (λ _. refl) in
      λ i. no_text i ++ behind i

-- ---- what settles is settled then

passes-through : (p : Place) (n : ℕ) → (p ≡ Place.Ended → n ≡ 0)
    → Through (direction_from_now (at p n) p).place (direction_from_now (at p n) p).held Telnet.Clear
passes-through Place.Holding n h = through_passing
passes-through Place.Flowing n h = through_passing
passes-through Place.Passing n h = through_passing
passes-through Place.Ended n h = subst (λ (m : ℕ). Through Place.Ended m Telnet.Clear) (sym (h refl)) through_ended

-- of a state whose array has the kinds owed, and that holds nothing of a server that has ended
module _ (s : State) (n : ℕ) (fits : s.control.owed ≤ length s.kinds)
    (none : s.control.server.place ≡ Place.Ended → s.control.server.held ≡ 0) where
  abbrev left : List Kind
  left = owed_from s (leaving s n)

  queue-then : queue_of (settled_state s n).kinds (settled_state s n).control.owed ≡ left
  unfolding settled_state settled_control
  queue-then = shifted-queue s.kinds (leaving s n) s.control.owed fits

  -- own answers that nothing blocked are gone
  answers-left : blocked s.control ≡ false → answers_at_head left ≡ 0
  unfolding leaving
  answers-left e =
      let r = owed_from s n in
      let m : leaving s n ≡ n + answers_at_head r = choose-false n (n + answers_at_head r) e in
      rw (m, ← drop-drop (answers_at_head r) n (queue_of s.kinds s.control.owed)) (answers-gone r)

  pub settled-then : Settled (settled_state s n)
  unfolding settled_state settled_control is_auth_next blocked
  settled-then =
      let sv = s.control.server in
      let down = s.control.down in
      let go : Direction = direction_from_now sv sv.place in
      record {
        answers = λ e. rw queue-then
            (by-test (λ (d : Direction). (is_open s.control.opening || is_flowing_or_ended d.place) ≡ false
            → answers_at_head left ≡ 0)
            (is_auth_next s n) go sv (λ a _. auth-first left a) (λ _ e. answers-left e) e);
        auth = λ e.
            let a : is_auth_next s n ≡ true = sym (ap auth_at_head queue-then) ∙ e in
            subst (λ (d : Direction). Through d.place d.held (choose (is_auth_next s n) (cleared down) down).telnet) (sym (choose-true go sv a))
            (subst (λ (l : Layer). Through go.place go.held l.telnet) (sym (choose-true (cleared down) down a))
            (passes-through sv.place sv.held none));
      }

-- ---- what the code's test of a state shows

module _ (s : State) (p : Plan) (planned : Planned p s 0) (stays : p.leaving ≡ 0) where
  none_left : leaving s 0 ≡ 0
  none_left = sym planned.leaving ∙ stays

  no-answers : blocked s.control ≡ false → answers_at_head (queue_of s.kinds s.control.owed) ≡ 0
  unfolding leaving
  no-answers e =
      let q = queue_of s.kinds s.control.owed in
      let all : leaving s 0 ≡ 0 + answers_at_head q = choose-false 0 (0 + answers_at_head q) e in
      let none = none_left in
      omega arith

  next-auth : auth_at_head (queue_of s.kinds s.control.owed) ≡ true → p.auth ≡ true
  unfolding is_auth_next
  next-auth e = planned.auth ∙ (ap (λ (m : ℕ). auth_at_head (owed_from s m)) none_left ∙ e)

  -- nothing leaves the queue, and AUTH is not first
  pub quiet-plain : p.auth ≡ false → Settled s
  quiet-plain never = record { answers = no-answers; auth = λ e. absurd (false≢true (sym never ∙ next-auth e)) }

  -- nothing leaves the queue, and the server is through
  pub quiet_through : Through s.control.server.place s.control.server.held s.control.down.telnet → Settled s
  quiet_through through = record { answers = no-answers; auth = λ _. through }

-- a server that holds nothing, no Telnet command of which is unfinished, is through where it passes, or has ended
module _ (d : Direction) (t : Telnet) (none : d.held ≡ 0) (clear : t ≡ Telnet.Clear) where
  through-at : (p : Place) → d.place ≡ p → Through p 0 Telnet.Clear → Through d.place d.held t
  through-at p e through =
      subst (Through d.place d.held) (sym clear)
      (subst (λ (n : ℕ). Through d.place n Telnet.Clear) (sym none) (subst (λ (q : Place). Through q 0 Telnet.Clear) (sym e) through))

  pub through-passing : is_passing d.place ≡ true → Through d.place d.held t
  through-passing e = through-at Place.Passing (place-passing d.place e) through_passing

  pub through-ended : is_ended d.place ≡ true → Through d.place d.held t
  through-ended e = through-at Place.Ended (place-ended d.place e) through_ended
