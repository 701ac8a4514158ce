-- Octet by octet: an arrival takes the octets before the first one that 1 or 2 stops.
use mathlib.Core.Path.{◌≡◌, refl, sym, ap, ◌∙◌}
use mathlib.Core.Bool.{Bool, true, false, true≢false}
use mathlib.Core.List.{List, [], ◌∷◌, ◌++◌}
use mathlib.Core.Logic.{◌↔◌, ◌≢◌, ◌⊎◌, inl, inr}
use Rattle.std.specs.Prelude.{Option, None, Some}
use Prim.Native.Nat.{ℕ, zero, suc, ◌-◌, ◌≤◌, ◌<◌}
use native.Mathlib.Nat.{sub-zero, sub-add-eq}
use native.Mathlib.Omega.{arith}
use lib.Dec.{leb, ltb}
use lib.ListN.{length, take, get_or, length-append}
use borrow.Author.Tests.{leb-true, leb-false, ltb-true, ltb-false}
use Rattle.rules.specs.Answers.{Side, side_of, answer_number, most_owed, is_queue_full, fits, stop}
use Rattle.rules.specs.declared.Answer.{Answer}
use Rattle.places.specs.declared.Place.{Place}
use Rattle.rules.specs.declared.Fixed.{Fixed}
use Rattle.steps.specs.Steps.{State, Step, octet_step}
use Rattle.places.specs.Places.{is_passing}
use Rattle.steps.specs.Takes.{Took, took_nothing, and_then, stop_of, takes}
use Rattle.session.specs.Calls.{state_of}
use Rattle.steps.proofs.Stops.{fits-room, stop-cases, unless-stopped}
use Rattle.answers.specs.Table.{Situation, octet_steps, before, next_step, Full, Exceeds}

-- ---- what stops an octet

pub no_room_lem : (xs ys : List ℕ) (rs rc : ℕ) → fits xs ys rs rc ≡ false → (rs < length xs) ⊎ (rc < length ys)
unfolding fits
no_room_lem xs ys rs rc e = by-test (leb (length xs) rs) refl
  where
    by-test : (b : Bool) → leb (length xs) rs ≡ b → (rs < length xs) ⊎ (rc < length ys)
    by-test true p = inr (leb-false (length ys) rc (rw p at e))
    by-test false p = inl (leb-false (length xs) rs p)

pub room : (xs ys : List ℕ) (rs rc : ℕ) → fits xs ys rs rc ≡ true → (rs < length xs) ⊎ (rc < length ys) → ⊥
room xs ys rs rc e (inl h) = omega (arith, (fits-room xs ys rs rc e).0)
room xs ys rs rc e (inr h) = omega (arith, (fits-room xs ys rs rc e).1)

-- "1 before 2"
pub data Stops (full : Type 0) (exceeds : Type 0) : Option Answer → Type 0 where
  is_full : full → Stops full exceeds (Some Answer.QueueFull)
  no_room : (full → ⊥) → exceeds → Stops full exceeds (Some Answer.NoRoom)
  goes_on : (full → ⊥) → (exceeds → ⊥) → Stops full exceeds None

abbrev or_done : Option Answer → Answer
or_done None = Answer.Done
or_done (Some a) = a

some-none : {a : Answer} → Some a ≡ None → ⊥
some-none e = let z : ◌≡◌ {A = ℕ} 0 1 = cc in omega arith

pub stops : (full exceeds : Type 0) (a b : Bool) → (a ≡ true → full) → (a ≡ false → full → ⊥) → (b ≡ false → exceeds) → (b ≡ true → exceeds → ⊥)
    → Stops full exceeds (stop a b)
stops full exceeds a b is is_not more less =
    stop-cases (Stops full exceeds) a b (λ e. is_full (is e)) (λ e f. no_room (is_not e) (more f)) (λ e f. goes_on (is_not e) (less f))

module _ {full exceeds : Type 0} where
  pub stops-none : {o : Option Answer} → Stops full exceeds o → (o ≡ None) ↔ ((full → ⊥) × (exceeds → ⊥))
  stops-none (is_full p) = ((λ e. absurd (some-none e)), (λ w. absurd (w.0 p)))
  stops-none (no_room n p) = ((λ e. absurd (some-none e)), (λ w. absurd (w.1 p)))
  stops-none (goes_on n m) = ((λ e. (n, m)), (λ w. refl))

  pub stops-full : {o : Option Answer} → Stops full exceeds o → (o ≡ Some Answer.QueueFull) ↔ full
  stops-full (is_full p) = ((λ e. p), (λ w. refl))
  stops-full (no_room n p) = ((λ e. absurd (let z : ◌≡◌ {A = ℕ} 0 1 = cc in omega arith)), (λ w. absurd (n w)))
  stops-full (goes_on n m) = ((λ e. absurd (some-none (sym e))), (λ w. absurd (n w)))

  pub stops-room : {o : Option Answer} → Stops full exceeds o → (o ≡ Some Answer.NoRoom) ↔ ((full → ⊥) × exceeds)
  stops-room (is_full p) = ((λ e. absurd (let z : ◌≡◌ {A = ℕ} 0 1 = cc in omega arith)), (λ w. absurd (w.0 p)))
  stops-room (no_room n p) = ((λ e. (n, p)), (λ w. refl))
  stops-room (goes_on n m) = ((λ e. absurd (some-none (sym e))), (λ w. absurd (m w.1)))

  pub stops-low : {o : Option Answer} {a : Answer} → Stops full exceeds o → o ≡ Some a → answer_number a < 3
  stops-low (is_full p) e = rw (← ap or_done e) (omega arith)
  stops-low (no_room n p) e = rw (← ap or_done e) (omega arith)
  stops-low (goes_on n m) e = absurd (some-none (sym e))

  pub stops-not-done : {o : Option Answer} → Stops full exceeds o → o ≡ Some Answer.Done → ⊥
  stops-not-done (is_full p) e = let z : ◌≡◌ {A = ℕ} 0 1 = cc in omega arith
  stops-not-done (no_room n p) e = let z : ◌≡◌ {A = ℕ} 0 1 = cc in omega arith
  stops-not-done (goes_on n m) e = some-none (sym e)

-- ---- the octets of an arrival

-- what stops octet k, after those before it
abbrev pub stop_at : Fixed → Side → State → List ℕ → ℕ → ℕ → ℕ → Option Answer
stop_at f d s xs rs rc k =
    let b = octet_steps f d s (take k xs) in
    stop_of d b.state (octet_step f d b.state (get_or xs k 0)) (rs - length b.to_server) (rc - length b.to_client)

-- all octets are taken, or the next one is stopped
abbrev pub Last : Fixed → Side → State → List ℕ → ℕ → ℕ → ℕ → Answer → Type 0
Last f d s xs rs rc k a = ((k ≡ length xs) × (a ≡ Answer.Done)) ⊎ ((k < length xs) × (stop_at f d s xs rs rc k ≡ Some a))

pub record Taking (f : Fixed) (d : Side) (s : State) (xs : List ℕ) (rs rc : ℕ) (r : Took) : Type 0 where
  pub to_server : r.to_server ≡ (octet_steps f d s (take r.taken xs)).to_server
  pub to_client : r.to_client ≡ (octet_steps f d s (take r.taken xs)).to_client
  pub state : r.state ≡ (octet_steps f d s (take r.taken xs)).state
  pub each : (j : ℕ) → j < r.taken → stop_at f d s xs rs rc j ≡ None
  pub last : Last f d s xs rs rc r.taken r.answer

module _ (f : Fixed) (d : Side) where
  stop-first : (s : State) (x : ℕ) (xs : List ℕ) (rs rc : ℕ) → stop_at f d s (x ∷ xs) rs rc 0 ≡ stop_of d s (octet_step f d s x) rs rc
  unfolding octet_steps
  stop-first s x xs rs rc = rw (sub-zero rs, sub-zero rc)

  stop-next : (s : State) (x : ℕ) (xs : List ℕ) (rs rc : ℕ) (k : ℕ) → let t = octet_step f d s x in
      stop_at f d s (x ∷ xs) rs rc (suc k) ≡ stop_at f d t.state xs (rs - length t.to_server) (rc - length t.to_client) k
  unfolding octet_steps
  stop-next s x xs rs rc k =
      let t : Step = octet_step f d s x in
      let b : Step = octet_steps f d t.state (take k xs) in
      rw (length-append t.to_server b.to_server, length-append t.to_client b.to_client, sub-add-eq rs (length t.to_server) (length b.to_server), sub-add-eq rc (length t.to_client) (length b.to_client))

  taking-nothing : (s : State) (x : ℕ) (xs : List ℕ) (rs rc : ℕ) (a : Answer) → stop_of d s (octet_step f d s x) rs rc ≡ Some a → Taking f d s (x ∷ xs) rs rc (took_nothing a s)
  unfolding octet_steps
  taking-nothing s x xs rs rc a e =
      record {
        to_server = refl;
        to_client = refl;
        state = refl;
        each = λ j h. absurd (omega arith);
        last = inr (omega arith, stop-first s x xs rs rc ∙ e);
      }

  taking-more : (s : State) (x : ℕ) (xs : List ℕ) (rs rc : ℕ) (r : Took) → let t = octet_step f d s x in
      stop_of d s t rs rc ≡ None → Taking f d t.state xs (rs - length t.to_server) (rc - length t.to_client) r
      → Taking f d s (x ∷ xs) rs rc (and_then t r)
  unfolding octet_steps
  taking-more s x xs rs rc r e m =
      let t : Step = octet_step f d s x in
      record {
        to_server = ap (λ (l : List ℕ). t.to_server ++ l) m.to_server;
        to_client = ap (λ (l : List ℕ). t.to_client ++ l) m.to_client;
        state = m.state;
        each = each_more;
        last = last_more m.last;
      }
    where
      each_more : (j : ℕ) → j < suc r.taken → stop_at f d s (x ∷ xs) rs rc j ≡ None
      each_more zero h = stop-first s x xs rs rc ∙ e
      each_more (suc j) h = stop-next s x xs rs rc j ∙ m.each j (omega arith)

      last_more : Last f d (octet_step f d s x).state xs (rs - length (octet_step f d s x).to_server) (rc - length (octet_step f d s x).to_client) r.taken r.answer
          → Last f d s (x ∷ xs) rs rc (suc r.taken) r.answer
      last_more (inl p) = inl (ap suc p.0, p.1)
      last_more (inr p) = inr (omega (arith, p.0), stop-next s x xs rs rc r.taken ∙ p.1)

  pub taking : (s : State) (xs : List ℕ) (rs rc : ℕ) → Taking f d s xs rs rc (takes f d s xs rs rc)
  unfolding takes octet_steps
  taking s [] rs rc =
      record { to_server = refl; to_client = refl; state = refl; each = λ j h. absurd (omega arith); last = inl (refl, refl) }
  taking s (x ∷ xs) rs rc =
      let t : Step = octet_step f d s x in
      unless-stopped (Taking f d s (x ∷ xs) rs rc) (stop_of d s t rs rc) s _ (λ a e. taking-nothing s x xs rs rc a e)
      (λ e. taking-more s x xs rs rc _ e (taking t.state xs (rs - length t.to_server) (rc - length t.to_client)))

-- ---- where it stops is the first position where something stops it

module _ {f : Fixed} {d : Side} {s : State} {xs : List ℕ} {rs rc : ℕ} {r : Took} (t : Taking f d s xs rs rc r) where
  -- at a position with nothing before it, the arrival stops there or goes on beyond it
  at_least : (k : ℕ) → k ≤ length xs → ((j : ℕ) → j < k → stop_at f d s xs rs rc j ≡ None) → k ≤ r.taken
  at_least k h e = by-test (leb k r.taken) refl
    where
      past : r.taken < k → Last f d s xs rs rc r.taken r.answer → ⊥
      past less (inl p) = omega (arith, p.0)
      past less (inr p) = let z : ◌≡◌ {A = ℕ} 0 1 = cc (p.1, e r.taken less) in omega arith

      by-test : (b : Bool) → leb k r.taken ≡ b → k ≤ r.taken
      by-test true p = leb-true k r.taken p
      by-test false p = absurd (past (leb-false k r.taken p) t.last)

  pub all-taken : ((j : ℕ) → j < length xs → stop_at f d s xs rs rc j ≡ None) → (r.taken ≡ length xs) × (r.answer ≡ Answer.Done)
  all-taken e = by_last t.last
    where
      by_last : Last f d s xs rs rc r.taken r.answer → (r.taken ≡ length xs) × (r.answer ≡ Answer.Done)
      by_last (inl p) = p
      by_last (inr p) = let z : ◌≡◌ {A = ℕ} 0 1 = cc (p.1, e r.taken p.0) in absurd (omega arith)

  pub stopped-at : (k : ℕ) (a : Answer) → k < length xs → ((j : ℕ) → j < k → stop_at f d s xs rs rc j ≡ None) → stop_at f d s xs rs rc k ≡ Some a
      → (r.taken ≡ k) × (r.answer ≡ a)
  stopped-at k a h e stopped = by-test (ltb k r.taken) refl
    where
      here : r.taken ≡ k → Last f d s xs rs rc r.taken r.answer → (r.taken ≡ k) × (r.answer ≡ a)
      here same (inl p) = absurd (omega (arith, p.0))
      here same (inr p) = (same, ap or_done (sym p.1 ∙ ap (λ (n : ℕ). stop_at f d s xs rs rc n) same ∙ stopped))

      by-test : (b : Bool) → ltb k r.taken ≡ b → (r.taken ≡ k) × (r.answer ≡ a)
      by-test true p = let z : ◌≡◌ {A = ℕ} 0 1 = cc (stopped, t.each k (ltb-true k r.taken p)) in absurd (omega arith)
      by-test false p = here (omega (arith, ltb-false k r.taken p, at_least k (omega arith) e)) t.last

-- ---- the same of a call

not-passing : (p : Place) → is_passing p ≡ false → p ≢ Place.Passing
not-passing p e q = true≢false (sym (ap is_passing q) ∙ e)

passing : (p : Place) → is_passing p ≡ true → p ≡ Place.Passing
passing Place.Holding e = absurd (true≢false (sym e))
passing Place.Flowing e = absurd (true≢false (sym e))
passing Place.Passing e = refl
passing Place.Ended e = absurd (true≢false (sym e))

full_is : (d : ℕ) (p : Place) (owed : ℕ) (b : Bool) → is_passing p ≡ b → is_queue_full (side_of d) b owed ≡ true
    → (d ≡ 0) × (p ≢ Place.Passing) × (most_owed ≤ owed)
unfolding is_queue_full
full_is zero p owed true e t = absurd (true≢false (sym t))
full_is zero p owed false e t = (refl, not-passing p e, leb-true most_owed owed t)
full_is (suc d) p owed b e t = absurd (true≢false (sym t))

full-not : (d : ℕ) (p : Place) (owed : ℕ) (b : Bool) → is_passing p ≡ b → is_queue_full (side_of d) b owed ≡ false
    → d ≡ 0 → p ≢ Place.Passing → most_owed ≤ owed → ⊥
unfolding is_queue_full
full-not zero p owed true e t z n m = n (passing p e)
full-not zero p owed false e t z n m = omega (arith, leb-false most_owed owed t)
full-not (suc d) p owed b e t z n m = omega arith

module _ (c : Situation) (octets : List ℕ) where
  abbrev pub stops_at : ℕ → Option Answer
  stops_at k = stop_at c.session.fixed (side_of c.direction) (state_of c.session) octets c.server_room c.client_room k

  pub stop-words : (k : ℕ) → Stops (Full c octets k) (Exceeds c octets k) (stops_at k)
  unfolding stop_of
  stop-words k =
      let b : Step = before c octets k in
      let n : Step = next_step c octets k in
      let p : Place = b.state.control.client.place in
      let owed : ℕ = b.state.control.owed in
      let rs : ℕ = c.server_room - length b.to_server in
      let rc : ℕ = c.client_room - length b.to_client in
      stops (Full c octets k) (Exceeds c octets k) (is_queue_full (side_of c.direction) (is_passing p) owed) (fits n.to_server n.to_client rs rc)
      (λ e. let w = full_is c.direction p owed (is_passing p) refl e in record { client = w.0; no_auth = w.1; owed = w.2 })
      (λ e f. full-not c.direction p owed (is_passing p) refl e f.client f.no_auth f.owed)
      (λ e. no_room_lem n.to_server n.to_client rs rc e)
      (λ e. room n.to_server n.to_client rs rc e)

  -- where 1 does not stop the next octet, the queue's test says so
  pub queue-open : (k : ℕ) → (Full c octets k → ⊥)
      → is_queue_full (side_of c.direction) (is_passing (before c octets k).state.control.client.place) (before c octets k).state.control.owed ≡ false
  queue-open k n = by-test _ refl
    where
      by-test : (b : Bool) → is_queue_full (side_of c.direction) (is_passing (before c octets k).state.control.client.place) (before c octets k).state.control.owed ≡ b
          → b ≡ false
      by-test true e =
          let w = full_is c.direction (before c octets k).state.control.client.place _ _ refl e in
          absurd (n (record { client = w.0; no_auth = w.1; owed = w.2 }))
      by-test false e = refl
