-- The rows of the table, on the outcomes that the definitions give: what proofs/Table.antt is made of.
use mathlib.Core.Path.{◌≡◌, refl, sym, ap, ◌∙◌, subst}
use mathlib.Core.Bool.{Bool, true, false, ◌&&◌, ◌||◌, not, true≢false}
use mathlib.Core.List.{List, []}
use mathlib.Core.Logic.{◌↔◌, ◌≢◌, ◌⊎◌, inl, inr}
use Rattle.std.specs.Prelude.{Option, None, Some}
use Prim.Native.Nat.{ℕ, zero, suc, ◌^◌, ◌≤◌, ◌<◌}
use native.Mathlib.Omega.{arith}
use lib.Dec.{leb}
use lib.ListN.{length}
use borrow.Author.Tests.{leb-true, leb-false}
use Rattle.rules.specs.Answers.{Side, client, server, side_of, answer_number, fits}
use Rattle.rules.specs.Setup.{eprt_on, eprt_supported, bad_flags}
use Rattle.rules.specs.declared.Answer.{Answer}
use Rattle.records.specs.declared.Session.{Session}
use Rattle.steps.specs.Steps.{State, Step}
use Rattle.records.specs.Sound.{refusal_of}
use Rattle.session.specs.Calls.{state_of, session_after, Outcome, refused, unless_refused, outcome, arrived, end_step, end_outcome, end_called}
use Rattle.steps.specs.Takes.{Took, takes}
use Rattle.answers.specs.Table.{
  Situation,
  Result,
  of_arrival,
  of_end,
  number_of,
  Unknown,
  Known,
  Sound,
  HasEnded,
  Accepted,
  Untouched,
  NotStopped,
  Takes,
  Zero,
  StopsAt,
  After,
  end_gives,
  EndExceeds,
  Ends,
  BadFlags,
}
use Rattle.answers.proofs.Refusals.{Refusal, unknown, bad, over, accepted, refusal-of}
use Rattle.answers.proofs.Taking.{
  stops-none,
  stops-low,
  stops-not-done,
  Last,
  Taking,
  taking,
  all-taken,
  stopped-at,
  stops_at,
  stop-words,
  no_room_lem,
  room,
}

-- ---- numbers

abbrev named : ℕ → Answer
named zero = Answer.Done
named (suc zero) = Answer.QueueFull
named (suc (suc zero)) = Answer.NoRoom
named (suc (suc (suc zero))) = Answer.UnknownDirection
named (suc (suc (suc (suc zero)))) = Answer.BadRecord
named (suc (suc (suc (suc (suc zero))))) = Answer.BadSetup
named (suc (suc (suc (suc (suc (suc n)))))) = Answer.DirectionEnded

named_back : (a : Answer) → named (answer_number a) ≡ a
named_back Answer.Done = refl
named_back Answer.QueueFull = refl
named_back Answer.NoRoom = refl
named_back Answer.UnknownDirection = refl
named_back Answer.BadRecord = refl
named_back Answer.BadSetup = refl
named_back Answer.DirectionEnded = refl

-- an answer is known by its number
pub same_number : (a b : Answer) → answer_number a ≡ answer_number b → a ≡ b
same_number a b e = sym (named_back a) ∙ ap named e ∙ named_back b

-- ---- refused, or not

both_ways : (d : ℕ) → Unknown d → Known d → ⊥
both_ways d u (inl e) = u.0 e
both_ways d u (inr e) = u.1 e

untouched : (a : Answer) (s : Session) → Untouched s (refused a s)
unfolding refused
untouched a s =
    record { taken = refl; written_server = refl; written_client = refl; to_server = refl; to_client = refl; session = refl }

-- a call is refused, or its outcome has a number below 3
pub data Unless (c : Situation) : Outcome → Type 0 where
  unless : (o : Outcome) → number_of o < 3 → Unless c (unless_refused (refusal_of c.session c.direction) c.session o)

module _ (s : Session) (d : ℕ) (o : Outcome) (low : number_of o < 3) where
  pub three-words : (r : Option Answer) → Refusal s d r → (number_of (unless_refused r s o) ≡ 3) ↔ Unknown d
  unfolding unless_refused refused
  three-words r (unknown u) = ((λ e. u), (λ w. refl))
  three-words r (bad k n) = ((λ e. absurd (omega arith)), (λ w. absurd (both_ways d w k)))
  three-words r (over k n e) = ((λ e. absurd (omega arith)), (λ w. absurd (both_ways d w k)))
  three-words r (accepted k n e) = ((λ e. absurd (omega arith)), (λ w. absurd (both_ways d w k)))

  pub four-words : (r : Option Answer) → Refusal s d r → (number_of (unless_refused r s o) ≡ 4) ↔ (Known d × (Sound s → ⊥))
  unfolding unless_refused refused
  four-words r (unknown u) = ((λ e. absurd (omega arith)), (λ w. absurd (both_ways d u w.0)))
  four-words r (bad k n) = ((λ e. (k, n)), (λ w. refl))
  four-words r (over k n e) = ((λ e. absurd (omega arith)), (λ w. absurd (w.1 n)))
  four-words r (accepted k n e) = ((λ e. absurd (omega arith)), (λ w. absurd (w.1 n)))

  pub six-words : (r : Option Answer) → Refusal s d r → (number_of (unless_refused r s o) ≡ 6) ↔ (Known d × Sound s × HasEnded s d)
  unfolding unless_refused refused
  six-words r (unknown u) = ((λ e. absurd (omega arith)), (λ w. absurd (both_ways d u w.0)))
  six-words r (bad k n) = ((λ e. absurd (omega arith)), (λ w. absurd (n w.1)))
  six-words r (over k n e) = ((λ t. (k, n, e)), (λ w. refl))
  six-words r (accepted k n e) = ((λ t. absurd (omega arith)), (λ w. absurd (e w.2)))

  pub five-never : (r : Option Answer) → Refusal s d r → number_of (unless_refused r s o) ≢ 5
  unfolding unless_refused refused
  five-never r (unknown u) e = omega arith
  five-never r (bad k n) e = omega arith
  five-never r (over k n t) e = omega arith
  five-never r (accepted k n t) e = omega arith

  pub untouched-words : (r : Option Answer) → Refusal s d r → 3 ≤ number_of (unless_refused r s o) → Untouched s (unless_refused r s o)
  unfolding unless_refused
  untouched-words r (unknown u) h = untouched Answer.UnknownDirection s
  untouched-words r (bad k n) h = untouched Answer.BadRecord s
  untouched-words r (over k n e) h = untouched Answer.DirectionEnded s
  untouched-words r (accepted k n e) h = absurd (omega arith)

-- what is said of the outcome of an accepted call, in words that hold of accepted calls only
pub unless-words : (c : Situation) (o : Outcome) (P : Outcome → Type 0) (W : Type 0) → ((a : Answer) → 3 ≤ answer_number a → P (refused a c.session) → ⊥)
    → (W → Accepted c) → (Accepted c → P o ↔ W) → P (unless_refused (refusal_of c.session c.direction) c.session o) ↔ W
unfolding unless_refused
unless-words c o P W never needs words = by-refusal (refusal_of c.session c.direction) (refusal-of c.session c.direction)
  where
    by-refusal : (r : Option Answer) → Refusal c.session c.direction r → P (unless_refused r c.session o) ↔ W
    by-refusal r (unknown u) =
        ((λ p. absurd (never Answer.UnknownDirection (omega arith) p)), (λ w. absurd (both_ways c.direction u (needs w).known)))
    by-refusal r (bad k n) = ((λ p. absurd (never Answer.BadRecord (omega arith) p)), (λ w. absurd (n (needs w).sound)))
    by-refusal r (over k n e) =
        ((λ p. absurd (never Answer.DirectionEnded (omega arith) p)), (λ w. absurd ((needs w).not_ended e)))
    by-refusal r (accepted k n e) = words (record { known = k; sound = n; not_ended = e })

-- nothing refuses an accepted call
not-refused : (c : Situation) → Accepted c → (r : Option Answer) → Refusal c.session c.direction r → r ≡ None
not-refused c w r (unknown u) = absurd (both_ways c.direction u w.known)
not-refused c w r (bad k n) = absurd (n w.sound)
not-refused c w r (over k n e) = absurd (w.not_ended e)
not-refused c w r (accepted k n e) = refl

pub accepted-outcome : (c : Situation) → Accepted c → (o : Outcome) → unless_refused (refusal_of c.session c.direction) c.session o ≡ o
unfolding unless_refused
accepted-outcome c w o = rw (not-refused c w (refusal_of c.session c.direction) (refusal-of c.session c.direction))

-- ---- an arrival

module _ (c : Situation) (octets : List ℕ) where
  abbrev pub took : Took
  took = takes c.session.fixed (side_of c.direction) (state_of c.session) octets c.server_room c.client_room

  abbrev pub result : Outcome
  result = outcome c.session (side_of c.direction) took

  pub it-takes : Taking c.session.fixed (side_of c.direction) (state_of c.session) octets c.server_room c.client_room took
  it-takes = taking c.session.fixed (side_of c.direction) (state_of c.session) octets c.server_room c.client_room

  abbrev pub ItsLast : Type 0
  ItsLast = Last c.session.fixed (side_of c.direction) (state_of c.session) octets c.server_room c.client_room took.taken took.answer

  goes_on : (j : ℕ) → (stops_at c octets j ≡ None) ↔ NotStopped c octets j
  goes_on j =
      let w = stops-none (stop-words c octets j) in
      ((λ e. record { not_full = (w.0 e).0; room = (w.0 e).1 }), (λ g. w.1 (g.not_full, g.room)))

  pub taken-first : Accepted c → Takes c octets took.taken
  taken-first w = record { accepted = w; each = λ j h. (goes_on j).0 (it-takes.each j h) }

  result_low : number_of result < 3
  unfolding outcome
  result_low = by_last it-takes.last
    where
      by_last : ItsLast
          → answer_number took.answer < 3
      by_last (inl p) = rw p.1 (omega arith)
      by_last (inr p) = stops-low (stop-words c octets took.taken) p.1

  pub zero-words : (k : ℕ) → Accepted c → ((number_of result ≡ 0) × (result.called.taken ≡ k)) ↔ Zero c octets k
  unfolding outcome
  zero-words k w = (
    (λ p. subst (λ (n : ℕ). Zero c octets n) p.1 (by_last (same_number took.answer Answer.Done p.0) it-takes.last)),
    (λ z. let t = all-taken it-takes (λ j h. (goes_on j).1 (z.takes.each j (omega (arith, z.all)))) in
        (rw t.1, t.0 ∙ sym z.all)),
  )
    where
      by_last : took.answer ≡ Answer.Done
          → ItsLast
          → Zero c octets took.taken
      by_last e (inl p) = record { takes = taken-first w; all = p.0 }
      by_last e (inr p) = absurd (stops-not-done (stop-words c octets took.taken) (p.1 ∙ ap Some e))

  -- 1 and 2: a number that is not 0, and what stops the next octet with it
  pub stopped-words : (a : Answer) (why : ℕ → Type 0) → a ≢ Answer.Done → ((k : ℕ) → (stops_at c octets k ≡ Some a) ↔ why k)
      → (k : ℕ) → Accepted c → ((number_of result ≡ answer_number a) × (result.called.taken ≡ k)) ↔ StopsAt c octets k (why k)
  unfolding outcome
  stopped-words a why n stops_by k w = (
    (λ p. subst (λ (j : ℕ). StopsAt c octets j (why j)) p.1 (by_last (same_number took.answer a p.0) it-takes.last)),
    (λ z. let t = stopped-at it-takes k a z.more (λ j h. (goes_on j).1 (z.takes.each j h)) ((stops_by k).1 z.reason) in
        (ap answer_number t.1, t.0)),
  )
    where
      by_last : took.answer ≡ a → ItsLast → StopsAt c octets took.taken (why took.taken)
      by_last e (inl p) = absurd (n (sym e ∙ p.1))
      by_last e (inr p) = record { takes = taken-first w; more = p.0; reason = (stops_by took.taken).0 (p.1 ∙ ap Some e) }

  pub result-after : After c octets result.called.taken result
  unfolding outcome
  result-after =
      let t = it-takes in
      record {
        to_server = t.to_server;
        to_client = t.to_client;
        written_server = ap length t.to_server;
        written_client = ap length t.to_client;
        session = same-session c.session (side_of c.direction) took.taken t.to_server t.to_client t.state;
      }
    where
      same-session : (s : Session) (d : Side) (k : ℕ) {a a' b b' : List ℕ} {t t' : State} → a ≡ a' → b ≡ b' → t ≡ t'
          → session_after s d k (length a) (length b) t ≡ session_after s d k (length a') (length b') t'
      same-session s d k p q r = cc

-- ---- an end

module _ (s : Session) (rs rc : ℕ) where
  abbrev at_end : Side → Step
  at_end d = end_step d (state_of s)

  abbrev end_fits : Side → Bool
  end_fits d = fits (at_end d).to_server (at_end d).to_client rs rc

  abbrev end_call : ℕ → Situation
  end_call d = record { session = s; direction = d; server_room = rs; client_room = rc }

  exceed : (d : ℕ) → end_fits (side_of d) ≡ false → EndExceeds (end_call d)
  unfolding end_step
  exceed zero e = by-sum (no_room_lem (end_gives client s) [] rs rc e)
    where
      by-sum : (rs < length (end_gives client s)) ⊎ (rc < 0) → rs < length (end_gives client s)
      by-sum (inl h) = h
      by-sum (inr h) = absurd (omega arith)
  exceed (suc d) e = by-sum (no_room_lem [] (end_gives server s) rs rc e)
    where
      by-sum : (rs < 0) ⊎ (rc < length (end_gives server s)) → rc < length (end_gives server s)
      by-sum (inl h) = absurd (omega arith)
      by-sum (inr h) = h

  not-exceed : (d : ℕ) → end_fits (side_of d) ≡ true → EndExceeds (end_call d) → ⊥
  unfolding end_step
  not-exceed zero e h = room (end_gives client s) [] rs rc e (inl h)
  not-exceed (suc d) e h = room [] (end_gives server s) rs rc e (inr h)

  end_low : (d : Side) (b : Bool) → number_of (end_outcome s d (at_end d) b) < 3
  unfolding end_outcome outcome refused
  end_low d true = omega arith
  end_low d false = omega arith

  -- 0 and 2 by whether what it lets go fits
  pub end-zero-words : (d : ℕ) → Accepted (end_call d) → (b : Bool) → end_fits (side_of d) ≡ b
      → (number_of (end_outcome s (side_of d) (at_end (side_of d)) b) ≡ 0) ↔ (Accepted (end_call d) × (EndExceeds (end_call d) → ⊥))
  unfolding end_outcome outcome refused
  end-zero-words d w true e = ((λ p. (w, not-exceed d e)), (λ q. refl))
  end-zero-words d w false e = ((λ p. absurd (omega arith)), (λ q. absurd (q.1 (exceed d e))))

  pub end-two-words : (d : ℕ) → Accepted (end_call d) → (b : Bool) → end_fits (side_of d) ≡ b
      → (number_of (end_outcome s (side_of d) (at_end (side_of d)) b) ≡ 2) ↔ (Accepted (end_call d) × EndExceeds (end_call d))
  unfolding end_outcome outcome refused
  end-two-words d w true e = ((λ p. absurd (omega arith)), (λ q. absurd (not-exceed d e q.1)))
  end-two-words d w false e = ((λ p. (w, exceed d e)), (λ q. refl))

  pub end-one-never : (d : Side) (b : Bool) → number_of (end_outcome s d (at_end d) b) ≢ 1
  unfolding end_outcome outcome refused
  end-one-never d true e = omega arith
  end-one-never d false e = omega arith

  pub ends : (d : ℕ) (b : Bool) → number_of (end_outcome s (side_of d) (at_end (side_of d)) b) ≡ 0 → Ends (end_call d) (end_outcome s (side_of d) (at_end (side_of d)) b)
  unfolding end_outcome outcome refused end_step session_after
  ends zero true e =
      record { passed = refl; nothing = refl; taken = refl; owed = refl; kinds = refl; over = refl; written_server = refl; written_client = refl; session = refl }
  ends (suc d) true e =
      record { passed = refl; nothing = refl; taken = refl; owed = refl; kinds = refl; over = refl; written_server = refl; written_client = refl; session = refl }
  ends d false e = absurd (omega arith)

  pub end-untouched : (d : Side) (b : Bool) → number_of (end_outcome s d (at_end d) b) ≡ 2 → Untouched s (end_outcome s d (at_end d) b)
  unfolding end_outcome outcome
  end-untouched d true e = absurd (omega arith)
  end-untouched d false e = untouched Answer.NoRoom s

-- what an accepted end gives
abbrev pub end_result : Situation → Outcome
end_result c =
    let d = side_of c.direction in
    end_outcome c.session d (end_step d (state_of c.session)) (end_fits c.session c.server_room c.client_room d)

-- a call is refused by 3, 4 or 6, or its number is lower
pub by_call : (c : Situation) (o : Outcome) → Result c o → Unless c o
unfolding arrived end_called
by_call c o (of_arrival octets) = unless (result c octets) (result_low c octets)
by_call c o of_end = unless (end_result c) (end_low c.session c.server_room c.client_room (side_of c.direction) _)

-- ---- setup

bad-words : (flags : ℕ) (high on supported : Bool) → leb (2 ^ 4) flags ≡ high → eprt_on flags ≡ on → eprt_supported flags ≡ supported
    → (high || (on && not supported) ≡ true) ↔ BadFlags flags
bad-words flags true on supported p q r = ((λ e. inl (leb-true 16 flags p)), (λ w. refl))
bad-words flags false true false p q r = ((λ e. inr (q, r)), (λ w. refl))
bad-words flags false true true p q r = ((λ e. absurd (true≢false (sym e))), fine)
  where
    fine : BadFlags flags → false ≡ true
    fine (inl h) = absurd (omega (arith, leb-false 16 flags p))
    fine (inr w) = sym w.1 ∙ r
bad-words flags false false supported p q r = ((λ e. absurd (true≢false (sym e))), fine)
  where
    fine : BadFlags flags → false ≡ true
    fine (inl h) = absurd (omega (arith, leb-false 16 flags p))
    fine (inr w) = sym q ∙ w.0

pub flags-words : (flags : ℕ) → (bad_flags flags ≡ true) ↔ BadFlags flags
unfolding bad_flags
flags-words flags = bad-words flags (leb (2 ^ 4) flags) (eprt_on flags) (eprt_supported flags) refl refl refl
