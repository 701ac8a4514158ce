-- The octets of an arrival one by one: what is taken from the first state is what was taken so far and what is taken from the present one.
use mathlib.Core.Path.{◌≡◌, refl, sym, ap, subst, ◌∙◌}
use mathlib.Core.Bool.{Bool, true, false, ◌&&◌}
use mathlib.Core.List.{List, [], ◌++◌, append_assoc, append-nil}
use Prim.Native.Nat.{ℕ, suc, ◌+◌, ◌-◌, ◌<◌, ◌≤◌}
use native.Mathlib.Numerals.{add-one}
use native.Mathlib.Omega.{arith}
use lib.Dec.{eqb}
use lib.ListN.{length, take, drop, get_or, drop_of_length-le, take-append-drop}
use lib.Seq.{length-take-le, drop-cons, drop-drop}
use Rattle.rules.specs.Octets.{choose}
use Rattle.rules.specs.Answers.{Side, is_queue_full, fits, stop, answer_number}
use Rattle.rules.specs.declared.Answer.{Answer}
use Rattle.records.specs.Layout.{lent_size}
use Rattle.output.specs.Buffer.{put_at}
use Rattle.records.specs.declared.Control.{Control}
use Rattle.rules.specs.declared.Fixed.{Fixed}
use Rattle.steps.specs.declared.Written.{Written}
use Rattle.steps.specs.Steps.{State, Step, octet_step}
use Rattle.places.specs.Places.{is_passing}
use Rattle.records.specs.Sound.{holdable, Counted}
use Rattle.steps.specs.Takes.{Took, took_nothing, and_then, unless_stopped, stop_of, takes, took_in, Core, Given, fixed_lent, state_lent, core_from, core_took, took_next}
use Rattle.steps.specs.Core.{Bounded, step_fits, octet_fits, octet_core}
use Rattle.arrivals.specs.Runs.{prefixed}
use Rattle.output.proofs.Placing.{put-fits, length-put, take-put-at, drop-put, nothing_put}
use Rattle.steps.proofs.Stops.{fits-room}
use Rattle.steps.proofs.Octets.{core-same, core-next}
use Rattle.steps.proofs.Nexts.{Answered, next-full, next-unfit, next_fits}

-- ---- one turn of the loop

prefixed-more : (n : ℕ) (a b : List ℕ) (t : Step) (r : Took)
    → prefixed n a b (and_then t r) ≡ prefixed (n + 1) (a ++ t.to_server) (b ++ t.to_client) r
prefixed-more n a b t r =
    let count : n + suc r.taken ≡ n + 1 + r.taken = omega arith in
    λ i. record {
      answer = r.answer;
      taken = count i;
      to_server = sym (append_assoc a t.to_server r.to_server) i;
      to_client = sym (append_assoc b t.to_client r.to_client) i;
      state = r.state;
    }

module _ (f : Fixed) (d : Side) (s : State) (l : List ℕ) (i room_s room_c : ℕ) where
  pub takes-end : length l ≤ i → takes f d s (drop i l) room_s room_c ≡ took_nothing Answer.Done s
  unfolding takes
  takes-end h = rw (drop_of_length-le l h)

  module _ (h : i < length l) where
    abbrev step : Step
    step = octet_step f d s (get_or l i 0)

    takes-turn : takes f d s (drop i l) room_s room_c
        ≡ unless_stopped (stop_of d s step room_s room_c) s
        (and_then step (takes f d step.state (drop (i + 1) l) (room_s - length step.to_server) (room_c - length step.to_client)))
    unfolding takes
    takes-turn = rw (drop-cons l i 0 h, add-one i)

    pub takes-full : is_queue_full d (is_passing s.control.client.place) s.control.owed ≡ true → takes f d s (drop i l) room_s room_c ≡ took_nothing Answer.QueueFull s
    unfolding unless_stopped stop_of stop choose
    takes-full full = takes-turn ∙ rw full

    pub takes-unfit : is_queue_full d (is_passing s.control.client.place) s.control.owed ≡ false → fits step.to_server step.to_client room_s room_c ≡ false
        → takes f d s (drop i l) room_s room_c ≡ took_nothing Answer.NoRoom s
    unfolding unless_stopped stop_of stop choose
    takes-unfit full fit = takes-turn ∙ rw (full, fit)

    takes-more : is_queue_full d (is_passing s.control.client.place) s.control.owed ≡ false → fits step.to_server step.to_client room_s room_c ≡ true
        → takes f d s (drop i l) room_s room_c
        ≡ and_then step (takes f d step.state (drop (i + 1) l) (room_s - length step.to_server) (room_c - length step.to_client))
    unfolding unless_stopped stop_of stop choose
    takes-more full fit = takes-turn ∙ rw (full, fit)

-- ---- the loop: s₀, from and to are the state and the buffers at its start, and k what is there after i octets

pub record Going (f : Fixed) (d : Side) (l : List ℕ) (s₀ : State) (from to : List ℕ) (k : Core) (i : ℕ) : Type 0 where
  pub so_far : takes f d s₀ l (length from) (length to)
      ≡ prefixed i (take k.written.server k.server_buffer) (take k.written.client k.client_buffer)
      (takes f d k.state (drop i l) (length from - k.written.server) (length to - k.written.client))
  pub server-rest : drop k.written.server k.server_buffer ≡ drop k.written.server from
  pub client-rest : drop k.written.client k.client_buffer ≡ drop k.written.client to
  pub server-size : length k.server_buffer ≡ length from
  pub client-size : length k.client_buffer ≡ length to
  pub bounded : Bounded k.state.control k.written k.server_buffer k.client_buffer

-- what the loop has to show
abbrev pub Stopped : Fixed → Side → List ℕ → State → List ℕ → List ℕ → Answer → ℕ → Core → Type 0
Stopped f d l s₀ from to = Given (takes f d s₀ l (length from) (length to)) from to

-- a buffer whose first n octets are written, as those octets put in what it was
put-at-front : (out from : List ℕ) (n : ℕ) → n ≤ length out → length out ≡ length from → drop n out ≡ drop n from → put_at from 0 (take n out ++ []) ≡ out
put-at-front out from n h size rest =
    let long : 0 + length (take n out) ≡ n = omega (arith, length-take-le n out h) in
    ap (put_at from 0) (append-nil (take n out))
    ∙ (put-fits from 0 (take n out) (omega arith)
    ∙ ((λ i. take n out ++ drop (long i) from) ∙ (ap (λ (r : List ℕ). take n out ++ r) (sym rest) ∙ take-append-drop n out)))

front-size : (out : List ℕ) (n : ℕ) → n ≤ length out → n ≡ length (take n out ++ [])
front-size out n h = sym (length-take-le n out h) ∙ sym (ap length (append-nil (take n out)))

-- what stands behind a text just put
pub put-at-rest : (out from : List ℕ) (at : ℕ) (t : List ℕ) → at + length t ≤ length out → drop at out ≡ drop at from → drop (at + length t) (put_at out at t) ≡ drop (at + length t) from
put-at-rest out from at t h rest =
    let same : at + length t + 0 ≡ at + length t = omega arith in
    sym (ap (λ (n : ℕ). drop n (put_at out at t)) same)
    ∙ (drop-put out at t 0 h
    ∙ (ap (λ (n : ℕ). drop n out) same
    ∙ (sym (drop-drop (length t) at out) ∙ (ap (drop (length t)) rest ∙ drop-drop (length t) at from))))

module _ (f : Fixed) (d : Side) (l : List ℕ) (s₀ : State) (from to : List ℕ) where
  pub going_start : Bounded s₀.control (record { server = 0; client = 0 }) from to
      → Going f d l s₀ from to (core_from s₀ from to (record { server = 0; client = 0 })) 0
  going_start bounded =
      let m : length from ≡ length from - 0 = omega arith in
      let n : length to ≡ length to - 0 = omega arith in
      let r = takes f d s₀ l (length from - 0) (length to - 0) in
      let count : r.taken ≡ 0 + r.taken = omega arith in
      record { so_far = (λ j. takes f d s₀ l (m j) (n j)) ∙ (λ j. record { answer = r.answer; taken = count j; to_server = r.to_server; to_client = r.to_client; state = r.state }); server-rest = refl; client-rest = refl; server-size = refl; client-size = refl; bounded = bounded }

  module _ (k : Core) (i : ℕ) (going : Going f d l s₀ from to k i) where
    abbrev w : Written
    w = k.written

    stopped-with : (answer : Answer)
        → takes f d k.state (drop i l) (length from - k.written.server) (length to - k.written.client) ≡ took_nothing answer k.state
        → Stopped f d l s₀ from to answer i k
    unfolding core_took
    stopped-with answer nothing =
        let r : takes f d s₀ l (length from) (length to) ≡ prefixed i (take w.server k.server_buffer) (take w.client k.client_buffer) (took_nothing answer k.state) = going.so_far ∙ ap (prefixed i (take w.server k.server_buffer) (take w.client k.client_buffer)) nothing in
        let server = put-at-front k.server_buffer from w.server going.bounded.server going.server-size going.server-rest in
        let client = put-at-front k.client_buffer to w.client going.bounded.client going.client-size going.client-rest in
        let m = front-size k.server_buffer w.server going.bounded.server in
        let n = front-size k.client_buffer w.client going.bounded.client in
        let count : i ≡ i + 0 = omega arith in (
          (sym (ap (λ (t : Took). t.answer) r), count ∙ sym (ap (λ (t : Took). t.taken) r)),
          (λ j. record { state = k.state; server_buffer = sym server j; client_buffer = sym client j; written = record { server = m j; client = n j } })
              ∙ sym (ap (λ (t : Took). core_took t from to) r),
        )

    pub stopped-done : length l ≤ i → Stopped f d l s₀ from to Answer.Done i k
    stopped-done h = stopped-with Answer.Done (takes-end f d k.state l i (length from - w.server) (length to - w.client) h)

    module _ (h : i < length l) where
      pub stopped-full : is_queue_full d (is_passing k.state.control.client.place) k.state.control.owed ≡ true → Stopped f d l s₀ from to Answer.QueueFull i k
      stopped-full full = stopped-with Answer.QueueFull (takes-full f d k.state l i (length from - w.server) (length to - w.client) h full)

      module _ (open-queue : is_queue_full d (is_passing k.state.control.client.place) k.state.control.owed ≡ false) where
        same-fits : (fit : Bool) → fit ≡ octet_fits f d (get_or l i 0) k
            → fits (octet_step f d k.state (get_or l i 0)).to_server (octet_step f d k.state (get_or l i 0)).to_client (length from - w.server) (length to - w.client) ≡ fit
        unfolding step_fits
        same-fits fit e =
            (λ j. fits (octet_step f d k.state (get_or l i 0)).to_server (octet_step f d k.state (get_or l i 0)).to_client (sym going.server-size j - w.server) (sym going.client-size j - w.client))
            ∙ sym e

        -- an octet that does not fit leaves all as it was
        pub stopped-unfit : (k' : Core) → false ≡ octet_fits f d (get_or l i 0) k → k' ≡ octet_core f d (get_or l i 0) k → Stopped f d l s₀ from to Answer.NoRoom i k'
        stopped-unfit k' fit after =
            subst (λ (c : Core). Stopped f d l s₀ from to Answer.NoRoom i c) (core-same (octet_step f d k.state (get_or l i 0)) k (sym fit) ∙ sym after)
            (stopped-with Answer.NoRoom (takes-unfit f d k.state l i (length from - w.server) (length to - w.client) h open-queue (same-fits false fit)))

        -- an octet that fits goes before the rest
        pub going_on : (k' : Core) → true ≡ octet_fits f d (get_or l i 0) k → k' ≡ octet_core f d (get_or l i 0) k
            → Bounded k'.state.control k'.written k'.server_buffer k'.client_buffer → Going f d l s₀ from to k' (i + 1)
        unfolding step_fits
        going_on k' fit after bounded =
            let t = octet_step f d k.state (get_or l i 0) in
            let next = core-next (octet_step f d k.state (get_or l i 0)) k (sym fit) in
            let room = fits-room t.to_server t.to_client (length k.server_buffer - w.server) (length k.client_buffer - w.client) (sym fit) in
            let more = takes-more f d k.state l i (length from - w.server) (length to - w.client) h open-queue (same-fits true fit) in
            let server = going.bounded.server in
            let client = going.bounded.client in
            let room_s = room.0 in
            let room_c = room.1 in
            let first : w.server + length t.to_server ≤ length k.server_buffer = omega arith in
            let second : w.client + length t.to_client ≤ length k.client_buffer = omega arith in
            let m : length from - w.server - length t.to_server ≡ length from - (w.server + length t.to_server) = omega arith in
            let n : length to - w.client - length t.to_client ≡ length to - (w.client + length t.to_client) = omega arith in
            let a = take-put-at k.server_buffer w.server t.to_server first in
            let b = take-put-at k.client_buffer w.client t.to_client second in
            subst (λ (c : Core). Going f d l s₀ from to c (i + 1)) (next ∙ sym after)
            (record {
              so_far = going.so_far
                  ∙ (ap (prefixed i (take w.server k.server_buffer) (take w.client k.client_buffer)) more
                  ∙ (prefixed-more i (take w.server k.server_buffer) (take w.client k.client_buffer) t (takes f d t.state (drop (i + 1) l) (length from - w.server - length t.to_server) (length to - w.client - length t.to_client))
                  ∙ (λ j. prefixed (i + 1) (sym a j) (sym b j) (takes f d t.state (drop (i + 1) l) (m j) (n j)))));
              server-rest = put-at-rest k.server_buffer from w.server t.to_server first going.server-rest;
              client-rest = put-at-rest k.client_buffer to w.client t.to_client second going.client-rest;
              server-size = length-put k.server_buffer w.server t.to_server first ∙ going.server-size;
              client-size = length-put k.client_buffer w.client t.to_client second ∙ going.client-size;
              bounded = subst (λ (c : Core). Bounded c.state.control c.written c.server_buffer c.client_buffer) (after ∙ sym next) bounded;
            })

-- ---- the same by what an octet answers

-- what was taken next leaves the core m and answers a
module _ (f : Fixed) (d : Side) (l : List ℕ) (s₀ : State) (from to : List ℕ) (k : Core) (i : ℕ) (going : Going f d l s₀ from to k i) (h : i < length l)
    {within : Bool} (can : within ≡ true) (a : Answer) (m : Core) (next : Answered a m (took_next within f d (get_or l i 0) k) k) where
  abbrev x : ℕ
  x = get_or l i 0

  same-as : {b : Answer} {k' : Core} → Answered b k' (took_next within f d x k) k → (a ≡ b) × (m ≡ k')
  same-as other = (next.0 ∙ sym other.0, next.1 ∙ sym other.1)

  abbrev queue : Bool
  queue = is_queue_full d (is_passing k.state.control.client.place) k.state.control.owed

  -- it stops the call
  stops-by : (full fit : Bool) → queue ≡ full → octet_fits f d x k ≡ fit → (answer_number a ≡ 0 → ⊥) → Stopped f d l s₀ from to a i m
  stops-by true fit e g not =
      let same = same-as (next-full f d x k can e) in
      subst (λ (b : Answer). Stopped f d l s₀ from to b i m) (sym same.0)
      (subst (λ (j : Core). Stopped f d l s₀ from to Answer.QueueFull i j) (sym same.1) (stopped-full f d l s₀ from to k i going h e))
  stops-by false false e g not =
      let same = same-as (next-unfit f d x k can e (sym g) refl) in
      subst (λ (b : Answer). Stopped f d l s₀ from to b i m) (sym same.0) (stopped-unfit f d l s₀ from to k i going h e m (sym g) same.1)
  stops-by false true e g not = absurd (not (ap answer_number (same-as (next_fits f d x k can e (sym g) refl)).0))

  pub stopped-next : (answer_number a ≡ 0 → ⊥) → Stopped f d l s₀ from to a i m
  stopped-next = stops-by queue (octet_fits f d x k) refl refl

  -- it is taken
  bounded-next : true ≡ octet_fits f d x k → m ≡ octet_core f d x k → Counted m.state.control
      → Bounded m.state.control m.written m.server_buffer m.client_buffer
  unfolding step_fits
  bounded-next fit same counts =
      let t = octet_step f d k.state x in
      let w = k.written in
      let core = same ∙ sym (core-next (octet_step f d k.state x) k (sym fit)) in
      let room = fits-room t.to_server t.to_client (length k.server_buffer - w.server) (length k.client_buffer - w.client) (sym fit) in
      let room_s = room.0 in
      let room_c = room.1 in
      let server = going.bounded.server in
      let client = going.bounded.client in
      let ws = ap (λ (c : Core). c.written.server) core in
      let wc = ap (λ (c : Core). c.written.client) core in
      let ls = ap (λ (c : Core). length c.server_buffer) core ∙ length-put k.server_buffer w.server t.to_server (omega arith) in
      let lc = ap (λ (c : Core). length c.client_buffer) core ∙ length-put k.client_buffer w.client t.to_client (omega arith) in
      record { owed = counts.owed; command = counts.command; reply = counts.reply; server = omega arith; client = omega arith }

  goes_by : (full fit : Bool) → queue ≡ full → octet_fits f d x k ≡ fit → answer_number a ≡ 0 → Counted m.state.control → Going f d l s₀ from to m (i + 1)
  goes_by true fit e g is counts =
      let one = ap answer_number (same-as (next-full f d x k can e)).0 in absurd (omega arith)
  goes_by false false e g is counts =
      let two = ap answer_number (same-as (next-unfit f d x k can e (sym g) refl)).0 in absurd (omega arith)
  goes_by false true e g is counts =
      let same = (same-as (next_fits f d x k can e (sym g) refl)).1 in
      going_on f d l s₀ from to k i going h e m (sym g) same (bounded-next (sym g) same counts)

  pub going_next : answer_number a ≡ 0 → Counted m.state.control → Going f d l s₀ from to m (i + 1)
  going_next = goes_by queue (octet_fits f d x k) refl refl

-- ---- an arrival on any state

module _ (supported strict : Bool) (d : Side) (c : Control) (lent l : List ℕ) where
  abbrev s : State
  s = state_lent c lent

  pub took-all : (m n : ℕ) → holdable c ≡ true → length lent ≡ lent_size
      → took_in supported strict d c lent l m n ≡ takes (fixed_lent supported strict lent) d s l m n
  unfolding took_in choose
  took-all m n h g = rw (h, g)

  took-nothing : (from to : List ℕ) (r : Took) → r ≡ took_nothing Answer.BadRecord s
      → Given r from to Answer.BadRecord 0 (core_from s from to (record { server = 0; client = 0 }))
  unfolding core_took
  took-nothing from to r e =
      let server = (nothing_put from 0).1 in
      let client = (nothing_put to 0).1 in
      rw e ((refl, refl), λ i. record { state = s; server_buffer = server i; client_buffer = client i; written = record { server = 0; client = 0 } })

  -- what the function returns where the counts, or the number of octets lent, can't be
  abbrev None : Type 0
  None = (from to : List ℕ) → Given (took_in supported strict d c lent l (length from) (length to)) from to Answer.BadRecord 0
      (core_from s from to (record { server = 0; client = 0 }))

  pub took-none : holdable c ≡ false → None
  unfolding took_in choose
  took-none h from to = took-nothing from to _ (rw h)

  by_both : (m n : ℕ) (b : Bool) → eqb (length lent) lent_size ≡ false
      → choose (b && eqb (length lent) lent_size) (takes (fixed_lent supported strict lent) d s l m n) (took_nothing Answer.BadRecord s) ≡ took_nothing Answer.BadRecord s
  unfolding choose
  by_both m n true e = rw e
  by_both m n false e = refl

  pub took-other : eqb (length lent) lent_size ≡ false → None
  unfolding took_in
  took-other h from to = took-nothing from to _ (by_both (length from) (length to) (holdable c) h)
