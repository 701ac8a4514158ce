-- Document 01's table of answers, a theorem for each number: given exactly when its row says.
use mathlib.Core.Path.{◌≡◌, refl, sym, ◌∙◌}
use mathlib.Core.Bool.{Bool, true, false, true≢false}
use mathlib.Core.List.{List, []}
use mathlib.Core.Logic.{◌↔◌, ◌≢◌}
use Rattle.std.specs.Prelude.{Option}
use Prim.Native.Nat.{ℕ, ◌≤◌, ◌<◌}
use native.Mathlib.Omega.{arith}
use Rattle.rules.specs.Octets.{choose}
use Rattle.rules.specs.Answers.{Side, client, server, side_of, answer_number, most_to_server}
use Rattle.rules.specs.Lines.{most_held}
use Rattle.rules.specs.Setup.{bad_flags, setup_answer}
use Rattle.rules.specs.declared.Answer.{Answer}
use Rattle.rules.specs.declared.Setup.{Setup}
use Rattle.records.specs.declared.Session.{Session}
use Rattle.records.specs.Sound.{direction_of}
use Rattle.setups.specs.declared.Prepared.{Prepared}
use Rattle.steps.specs.Takes.{takes}
use Rattle.setups.specs.Setups.{fresh_session, dead_session, prepared}
use Rattle.session.specs.Calls.{Outcome, refused, unless_refused, outcome, arrived, end_called, state_of}
use Rattle.answers.specs.Table.{
  Situation,
  arrived_at,
  ended_at,
  Result,
  number_of,
  Unknown,
  Known,
  Sound,
  HasEnded,
  Accepted,
  Untouched,
  Full,
  Exceeds,
  Takes,
  Zero,
  One,
  Two,
  After,
  room_for,
  EndExceeds,
  Ends,
  BadFlags,
}
use Rattle.answers.proofs.Lengths.{judged-held}
use Rattle.answers.proofs.Bounds.{let-go-most}
use Rattle.answers.proofs.Refusals.{Refusal, refusal-of}
use Rattle.answers.proofs.Taking.{stops-full, stops-room, stop-words}
use Rattle.answers.proofs.Rows.{
  Unless,
  unless,
  by_call,
  unless-words,
  accepted-outcome,
  three-words,
  four-words,
  six-words,
  five-never,
  untouched-words,
  result,
  zero-words,
  stopped-words,
  result-after,
  end_result,
  end-zero-words,
  end-two-words,
  end-one-never,
  ends,
  end-untouched,
  flags-words,
}

sound-held : (s : Session) → Sound s → (d : Side) → (direction_of d s.control).held ≤ most_held
sound-held s h client = h.client.most
sound-held s h server = h.server.most

module _ (c : Situation) where
  -- what every refusal says of any outcome below 3 holds of arrivals and ends
  of_calls : (P : Outcome → Type 0)
      → ((r : Option Answer) (o : Outcome) → number_of o < 3 → Refusal c.session c.direction r → P (unless_refused r c.session o))
      → (o : Outcome) → Result c o → P o
  of_calls P all o g = of (by_call c o g)
    where
      of : {u : Outcome} → Unless c u → P u
      of (unless o low) = all _ o low (refusal-of c.session c.direction)

  -- 3: "direction is neither 0 nor 1"
  pub three : (o : Outcome) → Result c o → (number_of o ≡ 3) ↔ Unknown c.direction
  three = of_calls (λ o. (number_of o ≡ 3) ↔ Unknown c.direction) (λ r o low t. three-words c.session c.direction o low r t)

  -- 4: "record not live, over 16 owed, an owed kind not listed here, over 511 octets held, or octets held where" they may not be
  pub four : (o : Outcome) → Result c o → (number_of o ≡ 4) ↔ (Known c.direction × (Sound c.session → ⊥))
  four =
      of_calls (λ o. (number_of o ≡ 4) ↔ (Known c.direction × (Sound c.session → ⊥)))
      (λ r o low t. four-words c.session c.direction o low r t)

  -- 6: "that direction has ended"
  pub six : (o : Outcome) → Result c o → (number_of o ≡ 6) ↔ (Known c.direction × Sound c.session × HasEnded c.session c.direction)
  six =
      of_calls (λ o. (number_of o ≡ 6) ↔ (Known c.direction × Sound c.session × HasEnded c.session c.direction))
      (λ r o low t. six-words c.session c.direction o low r t)

  -- 5 is given by setup only
  pub never-five : (o : Outcome) → Result c o → number_of o ≢ 5
  never-five = of_calls (λ o. number_of o ≢ 5) (λ r o low t. five-never c.session c.direction o low r t)

  -- "With 3, 4 and 6 nothing is written and the record comes back equal"; nothing is taken
  pub refused-untouched : (o : Outcome) → Result c o → 3 ≤ number_of o → Untouched c.session o
  refused-untouched =
      of_calls (λ o. 3 ≤ number_of o → Untouched c.session o) (λ r o low t. untouched-words c.session c.direction o low r t)

  module _ (octets : List ℕ) where
    -- a row below 3, for an arrival that takes k octets
    row : (n k : ℕ) → n < 3 → (W : Type 0) → (W → Takes c octets k)
        → (Accepted c → ((number_of (result c octets) ≡ n) × ((result c octets).called.taken ≡ k)) ↔ W)
        → ((number_of (arrived_at c octets) ≡ n) × ((arrived_at c octets).called.taken ≡ k)) ↔ W
    unfolding arrived refused
    row n k low W takes words =
        unless-words c (result c octets) (λ o. (number_of o ≡ n) × (o.called.taken ≡ k)) W (λ a h p. omega (arith, p.0)) (λ w. (takes w).accepted) words

    -- 0: "all octets taken"
    pub zero-all : (k : ℕ) → ((number_of (arrived_at c octets) ≡ 0) × ((arrived_at c octets).called.taken ≡ k)) ↔ Zero c octets k
    zero-all k = row 0 k (omega arith) (Zero c octets k) (λ z. z.takes) (zero-words c octets k)

    -- 1: "next octet is the client's, no AUTH yet, 16 replies owed", "those before it" taken
    pub one : (k : ℕ) → ((number_of (arrived_at c octets) ≡ 1) × ((arrived_at c octets).called.taken ≡ k)) ↔ One c octets k
    one k =
        row 1 k (omega arith) (One c octets k) (λ z. z.takes)
        (stopped-words c octets Answer.QueueFull (Full c octets) (λ e. let z : ◌≡◌ {A = ℕ} 0 1 = cc in omega arith) (λ j. stops-full (stop-words c octets j)) k)

    -- 2: "next octet's output .. exceeds the room left in either buffer", "those before it" taken
    pub two : (k : ℕ) → ((number_of (arrived_at c octets) ≡ 2) × ((arrived_at c octets).called.taken ≡ k)) ↔ Two c octets k
    two k =
        row 2 k (omega arith) (Two c octets k) (λ z. z.takes)
        (stopped-words c octets Answer.NoRoom (λ j. (Full c octets j → ⊥) × Exceeds c octets j) (λ e. let z : ◌≡◌ {A = ℕ} 0 1 = cc in omega arith)
        (λ j. stops-room (stop-words c octets j)) k)

    -- "the record, written octets and counts are those after the octets taken"
    pub after-taken : Accepted c → After c octets (arrived_at c octets).called.taken (arrived_at c octets)
    unfolding arrived
    after-taken w = rw (accepted-outcome c w (result c octets)) (result-after c octets)

  -- "An empty arrival answers 0 unless 3, 4 or 6 applies"
  pub empty-arrival : (number_of (arrived_at c []) ≡ 0) ↔ Accepted c
  unfolding arrived refused takes outcome
  empty-arrival =
      unless-words c (result c []) (λ o. number_of o ≡ 0) (Accepted c) (λ a h p. omega arith) (λ w. w) (λ w. ((λ p. w), (λ q. refl)))

  -- an end, 0: "done"
  pub end-zero : (number_of (ended_at c) ≡ 0) ↔ (Accepted c × (EndExceeds c → ⊥))
  unfolding end_called refused
  end-zero =
      unless-words c (end_result c) (λ o. number_of o ≡ 0) (Accepted c × (EndExceeds c → ⊥)) (λ a h p. omega arith) (λ w. w.0)
      (λ w. end-zero-words c.session c.server_room c.client_room c.direction w _ refl)

  -- an end, 2: "at an end the held octets, exceeds the room left", with a command still unfinished
  pub end-two : (number_of (ended_at c) ≡ 2) ↔ (Accepted c × EndExceeds c)
  unfolding end_called refused
  end-two =
      unless-words c (end_result c) (λ o. number_of o ≡ 2) (Accepted c × EndExceeds c) (λ a h p. omega arith) (λ w. w.0)
      (λ w. end-two-words c.session c.server_room c.client_room c.direction w _ refl)

  -- so an end with room for the most that an octet gives to the server is not stopped
  pub end-room : Accepted c → most_to_server ≤ room_for (side_of c.direction) c → number_of (ended_at c) ≡ 0
  unfolding most_to_server
  end-room w room =
      let most = let-go-most (side_of c.direction) (state_of c.session) in
      let few = sound-held c.session w.sound (side_of c.direction) in
      end-zero.1 (w, λ e. omega (arith, most, few, room, e, judged-held))

  -- 1 speaks of an octet
  pub end-never-one : number_of (ended_at c) ≢ 1
  unfolding end_called refused
  end-never-one =
      (unless-words c (end_result c) (λ o. number_of o ≡ 1) ⊥ (λ a h p. omega arith) (λ w. absurd w)
      (λ w. (end-one-never c.session c.server_room c.client_room (side_of c.direction) _, (λ w. absurd w)))).0

  -- "Ending a direction passes its held octets on unchanged and owes nothing for them"
  pub end-passes : number_of (ended_at c) ≡ 0 → Ends c (ended_at c)
  unfolding end_called
  end-passes e =
      let same = accepted-outcome c (end-zero.0 e).0 (end_result c) in
      rw same (ends c.session c.server_room c.client_room c.direction _ (rw same at e))

  -- "if they do not fit, answer 2 and nothing changes"
  pub end-two-untouched : number_of (ended_at c) ≡ 2 → Untouched c.session (ended_at c)
  unfolding end_called
  end-two-untouched e =
      let same = accepted-outcome c (end-two.0 e).0 (end_result c) in
      rw same (end-untouched c.session c.server_room c.client_room (side_of c.direction) _ (rw same at e))

-- ---- setup

module _ (su : Setup) where
  abbrev flags : ℕ
  flags = su.flags

  abbrev setup_by : Bool → Prepared
  setup_by b = record { answer = choose b Answer.BadSetup Answer.Done; session = choose b dead_session (fresh_session su) }

  -- 5: "an undefined flag bit, or EPRT on and not supported"
  pub five : (answer_number (prepared su).answer ≡ 5) ↔ BadFlags flags
  unfolding prepared setup_answer choose
  five = by_flags (bad_flags flags) refl
    where
      by_flags : (b : Bool) → bad_flags flags ≡ b → (answer_number (setup_by b).answer ≡ 5) ↔ BadFlags flags
      by_flags true e = ((λ p. (flags-words flags).0 e), (λ w. refl))
      by_flags false e = ((λ p. absurd (omega arith)), (λ w. absurd (true≢false (sym ((flags-words flags).1 w) ∙ e))))

  -- "With 5 the record is not live and otherwise all zero"
  pub five-dead : answer_number (prepared su).answer ≡ 5 → (prepared su).session ≡ dead_session
  unfolding prepared setup_answer choose
  five-dead p = by_flags (bad_flags flags) p
    where
      by_flags : (b : Bool) → answer_number (setup_by b).answer ≡ 5 → (setup_by b).session ≡ dead_session
      by_flags true e = refl
      by_flags false e = absurd (omega arith)

  -- a setup that does not answer 5 answers 0, and its record is a fresh session
  pub setup-zero : (BadFlags flags → ⊥) → prepared su ≡ record { answer = Answer.Done; session = fresh_session su }
  unfolding prepared setup_answer choose
  setup-zero n = by_flags (bad_flags flags) refl
    where
      by_flags : (b : Bool) → bad_flags flags ≡ b → setup_by b ≡ record { answer = Answer.Done; session = fresh_session su }
      by_flags true e = absurd (n ((flags-words flags).0 e))
      by_flags false e = refl
