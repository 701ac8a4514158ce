-- One octet writes at most 1,024 octets to the server and 1,791 to the client, and so a call goes on where there is room.
use mathlib.Core.Path.{◌≡◌, refl, sym, ap, ◌∙◌}
use mathlib.Core.Bool.{Bool, true, false, ◌||◌, not, true≢false}
use mathlib.Core.List.{List, [], ◌∷◌, ◌++◌}
use mathlib.Core.Logic.{◌≢◌}
use Rattle.std.specs.Prelude.{Option, None, Some}
use Prim.Native.Nat.{ℕ, zero, suc, ◌+◌, ◌*◌, ◌≤◌}
use native.Mathlib.Omega.{arith}
use lib.Dec.{eqb}
use lib.ListN.{length, take, drop, length-append, length-drop}
use lib.Seq.{drop-drop}
use borrow.Author.Tests.{ltb-true, le-leb}
use Rattle.rules.specs.Octets.{lf, choose, every}
use Rattle.rules.specs.Answers.{
  Side,
  client,
  server,
  side_of,
  most_owed,
  is_queue_full,
  fits,
  stop,
  most_to_server,
  most_to_client,
  longest_answer,
  most_answers,
}
use Rattle.rules.specs.Lines.{most_held, judged, passed, content}
use Rattle.rules.specs.Commands.{command}
use Rattle.rules.specs.Replies.{is_open, reply_line, passive_reply, head_answers, auth_at_head}
use Rattle.rules.specs.Demand3.{is_refusal}
use Rattle.rules.specs.declared.Answer.{Answer}
use Rattle.rules.specs.declared.Switches.{Switches}
use Rattle.rules.specs.declared.Does.{Does}
use Rattle.rules.specs.declared.Kind.{Kind}
use Rattle.rules.specs.declared.Command.{Command}
use Rattle.rules.specs.declared.ReplyLine.{ReplyLine}
use Rattle.rules.specs.declared.PassiveReply.{PassiveReply}
use Rattle.places.specs.declared.Place.{Place}
use Rattle.places.specs.declared.Direction.{Direction}
use Rattle.gives.specs.declared.Gives.{Gives}
use Rattle.upstream.specs.declared.ClientEffect.{ClientEffect}
use Rattle.downstream.specs.declared.ServerEffect.{ServerEffect}
use Rattle.queue.specs.Kinds.{queue_of, head_of, answers_at_head}
use Rattle.queue.specs.Heads.{answers_from, auth_after}
use Rattle.gives.specs.Text.{gives_text}
use Rattle.upstream.specs.Upstream.{command_effect, judged_effect, join_effect, place_effect, client_effect}
use Rattle.downstream.specs.Downstream.{passive_effect, kind_effect, head_effect, line_gives, whole_line, flowing_line, reply_octet, reply_effect, server_effect}
use Rattle.octets.proofs.Choices.{either, by-test}
use Rattle.queue.proofs.Answers.{length-queue}
use Rattle.rules.specs.declared.Fixed.{Fixed}
use Rattle.rules.specs.Setup.{ipv4_width}
use Rattle.records.specs.declared.Session.{Session}
use Rattle.steps.specs.Steps.{State, Step, held_of, let_go_of, leaving, answers_text, is_auth_next, settled_text, client_state, client_effect_in, client_step, server_state, server_effect_in, server_step, line_step, telnet_text, telnet_step, is_client, step_by, layered, layer_read, octet_step}
use Rattle.records.specs.declared.Control.{Control}
use Rattle.records.specs.Controls.{layer_in, unfinished_of}
use Rattle.records.specs.Sound.{refusal_of, direction_of, blocked, Counted}
use Rattle.places.specs.Places.{is_passing, is_in_lines, is_flowing_or_ended}
use Rattle.steps.specs.Takes.{Took, unless_stopped, stop_of, takes}
use Rattle.session.specs.Calls.{state_of, refused, unless_refused, outcome, arrived}
use Rattle.session.specs.Bounds.{Shaped, WritesAtMost, OctetBound, Progress}
use Rattle.steps.proofs.Turns.{place-owed}
use Rattle.answers.proofs.Lengths.{is_octet, judged-most, judged-held, port-line, pasv-line, passive-line, cannot-open-line, head-answers, answers-auth, passed-within, lf-single, telnet-most, unfinished-most}
use Rattle.answers.specs.Table.{Sound}
use Rattle.answers.proofs.Refusals.{Refusal, unknown, bad, over, accepted, sound-words, refusal-of}
use Rattle.answers.proofs.Ports.{
  SmallCommand,
  passes,
  passive,
  port,
  answered,
  auth,
  command-small,
  SmallReply,
  named,
  unreadable,
  reply-small,
}

-- ---- lists

take-most : {A : Type 0} (n : ℕ) (l : List A) → length (take n l) ≤ n
take-most zero l = omega arith
take-most (suc n) [] = omega arith
take-most (suc n) (x ∷ l) = omega (arith, take-most n l)

-- ---- what an octet gives on its own side: no more than the held octets and itself, or a line of the gateway's

module _ (f : Fixed) (size : length f.mapped ≡ ipv4_width) (octets : every is_octet f.mapped ≡ true) (h : List ℕ) (x limit : ℕ)
    (held : length (passed h) + length (passed (x ∷ [])) ≤ limit) (wide : judged ≤ limit) where
  record Line (g : Gives) : Type 0 where
    most : length (gives_text f h x g) ≤ limit

  octet-line : Line Gives.Octet
  unfolding gives_text
  octet-line = record { most = omega (arith, judged-most) }

  flowing-line : Line Gives.LineOctet
  unfolding gives_text
  flowing-line = record { most = omega arith }

  nothing_line : Line Gives.Nothing
  unfolding gives_text
  nothing_line = record { most = omega arith }

  kept_line : Line Gives.Held
  unfolding gives_text
  kept_line = record { most = omega arith }

  held-line : Line Gives.HeldAndOctet
  unfolding gives_text
  held-line = record { most = rw (length-append (passed h) (passed (x ∷ []))) held }

  command-line : (k : Command) → SmallCommand k → Line (command_effect k)
  unfolding command_effect gives_text
  command-line k passes = held-line
  command-line k passive = record { most = omega (arith, pasv-line) }
  command-line k (port p small) = record { most = omega (arith, port-line f.mapped p size octets small) }
  command-line k (answered a) = nothing_line
  command-line k auth = held-line

  -- ---- a client octet

  record ClientLine (e : ClientEffect) : Type 0 where
    line : Line e.gives

  join-line : (sw : Switches) (n : ℕ) → ClientLine (join_effect sw n h)
  unfolding join_effect
  join-line sw n =
      either ClientLine _ _ _ (record { line = kept_line }) (either ClientLine _ _ _ (record { line = held-line }) (record { line = held-line }))

  place-line : (sw : Switches) (p : Place) (n : ℕ) (b : Bool) → ClientLine (place_effect f sw p n h b)
  unfolding place_effect judged_effect
  place-line sw Place.Holding n true = record { line = command-line (command f sw h) (command-small f sw h) }
  place-line sw Place.Holding n false = join-line sw n
  place-line sw Place.Flowing n true = record { line = flowing-line }
  place-line sw Place.Flowing n false = record { line = flowing-line }
  place-line sw Place.Passing n b = record { line = octet-line }
  place-line sw Place.Ended n b = record { line = nothing_line }

  -- ---- a server line judged whole

  refused-line : Line Gives.CannotOpen
  unfolding gives_text
  refused-line = record { most = omega (arith, cannot-open-line) }

  extended-line : (p : ℕ) → p ≤ 65535 → Line (Gives.ExtendedPassive p)
  unfolding gives_text
  extended-line p small = record { most = omega (arith, passive-line p small) }

  passive-reply-line : (r : Option PassiveReply) → SmallReply r → Line (passive_effect f r)
  unfolding passive_effect
  passive-reply-line r (named n small) = either Line _ _ _ refused-line (extended-line n.port small)
  passive-reply-line r unreadable = held-line

  kind-line : (k : Kind) (c : List ℕ) → Line (kind_effect f k c)
  unfolding kind_effect
  kind-line Kind.Plain c = held-line
  kind-line Kind.TranslatedEpsv c = passive-reply-line (passive_reply c) (reply-small c)
  kind-line (Kind.Own a) c = held-line
  kind-line Kind.Auth c = held-line

  head-line : (o : Option Kind) (c : List ℕ) → Line (head_effect f o c)
  unfolding head_effect
  head-line None c = held-line
  head-line (Some k) c = kind-line k c

  whole-line : (r : ReplyLine) (u : ℕ) (o : Option Kind) (c : List ℕ) → Line (line_gives f r u o c)
  unfolding line_gives
  whole-line (ReplyLine.Opens code) u o c = held-line
  whole-line ReplyLine.Belongs u o c = held-line
  whole-line ReplyLine.StandsAlone u o c = held-line
  whole-line ReplyLine.Preliminary u o c = held-line
  whole-line ReplyLine.Final u o c = either Line _ _ _ held-line (head-line o c)

-- ---- a server octet

-- the most that goes ahead of own answers: a line of 511 doubled octets, and its LF
abbrev most_ahead : ℕ
most_ahead = 2 * most_held + 1

module _ (f : Fixed) (size : length f.mapped ≡ ipv4_width) (octets : every is_octet f.mapped ≡ true) (h : List ℕ) (x : ℕ) (less : length h ≤ most_held) where
  -- a line that goes while own answers may follow it, and a line with what is held after it and a Telnet command
  record ServerLine (e : ServerEffect) : Type 0 where
    ahead : is_flowing_or_ended e.direction.place ≡ false → length (gives_text f h x e.gives) ≤ most_ahead
    together : length (gives_text f h x e.gives) + (2 * e.direction.held + 2) ≤ most_ahead + longest_answer

  one-most : length (passed (x ∷ [])) ≤ 2
  one-most = passed-within (x ∷ []) {n = 1} (omega arith)

  doubled-most : length (passed h) + length (passed (x ∷ [])) ≤ 2 * judged
  doubled-most = omega (arith, judged-held, passed-within h less, one-most)

  next-line : (u n : ℕ) → ServerLine (reply_octet u n)
  unfolding reply_octet gives_text is_flowing_or_ended
  next-line u n =
      by-test ServerLine _ _ _ (λ e. record { ahead = λ _. omega arith; together = omega (arith, judged-held, ltb-true (n + 1) judged e) })
      (λ e. record { ahead = λ p. absurd (true≢false p); together = rw (length-append (passed h) (passed (x ∷ []))) (omega (arith, judged-held, doubled-most)) })

  -- the LF of a line that is held
  end_line : eqb x lf ≡ true → (u : ℕ) (o : Option Kind) (c : List ℕ) → ServerLine (whole_line f u o c)
  unfolding whole_line
  end_line e u o c =
      let most = (whole-line f size octets h x most_ahead (omega (arith, passed-within h less, lf-single x e)) (omega (arith, judged-held)) (reply_line u c) u o c).most in
      record { ahead = λ _. most; together = omega arith }

  reply-line : (u : ℕ) (o : Option Kind) (p : Place) (n : ℕ) (line : List ℕ) (b : Bool) → eqb x lf ≡ b → ServerLine (reply_effect f u o p n line b)
  unfolding reply_effect flowing_line gives_text
  reply-line u o Place.Holding n line true e = end_line e u o (content (take n line))
  reply-line u o Place.Holding n line false e = next-line u n
  reply-line u o Place.Flowing n line true e = record { ahead = λ _. omega (arith, one-most); together = omega (arith, one-most) }
  reply-line u o Place.Flowing n line false e = record { ahead = λ _. omega (arith, one-most); together = omega (arith, one-most) }
  reply-line u o Place.Passing n line b e = record { ahead = λ _. omega arith; together = omega arith }
  reply-line u o Place.Ended n line b e = record { ahead = λ _. omega arith; together = omega arith }

-- ---- own answers and the AUTH step

held-most : (d : Side) (s : State) → length (held_of d s) ≤ (direction_of d s.control).held
held-most client s = take-most s.control.client.held s.command
held-most server s = take-most s.control.server.held s.reply

-- what AUTH lets go, or an end: the held octets doubled, and two of a Telnet command
pub let-go-most : (d : Side) (s : State) → length (let_go_of d s) ≤ 2 * (direction_of d s.control).held + 2
let-go-most d s =
    let c : Control = s.control in
    let held = passed-within (held_of d s) (held-most d s) in
    let command = unfinished-most (is_in_lines (direction_of d c).place) (layer_in d c).telnet in
    omega (arith, length-append (passed (held_of d s)) (unfinished_of d c))

-- own answers wait where a server line flows, or its direction has ended
answers-free : (c : Control) → blocked c ≡ false → is_flowing_or_ended c.server.place ≡ false
unfolding blocked
answers-free c e = by_code (is_open c.opening) e
  where
    by_code : (b : Bool) → b || is_flowing_or_ended c.server.place ≡ false → is_flowing_or_ended c.server.place ≡ false
    by_code true e = absurd (true≢false e)
    by_code false e = e

-- n octets, own answers, and what AUTH lets go if it is first
behind-most : (n limit : ℕ) (answers go : List ℕ) (first : Bool) → (first ≡ true → n + length answers + length go ≤ limit) → n + length answers ≤ limit
    → n + length (answers ++ choose first go []) ≤ limit
behind-most n limit answers go first goes stays =
    by-test (λ (l : List ℕ). n + length (answers ++ l) ≤ limit) first go [] (λ e. omega (arith, length-append answers go, goes e))
    (λ e. omega (arith, length-append {A = ℕ} answers []))

module _ (s : State) (removed : ℕ) where
  abbrev queue : List Kind
  queue = queue_of s.kinds s.control.owed

  abbrev left : List Kind
  left = drop removed queue

  -- Sixteen answers, or fifteen and what AUTH lets go, behind n octets: few enough where no answer has to wait, and few enough
  -- with what AUTH lets go.
  settled-most : (n : ℕ) → s.control.owed ≤ most_owed → (blocked s.control ≡ false → n ≤ most_ahead)
      → n + length (let_go_of server s) ≤ most_ahead + longest_answer → n + length (settled_text s removed) ≤ most_to_client
  unfolding settled_text answers_text is_auth_next leaving most_to_client choose
  settled-most n few ahead together = by-blocked (blocked s.control) refl
    where
      short : length left ≤ most_owed
      short = omega (arith, length-drop removed queue, length-queue s.kinds s.control.owed)

      by-blocked : (b : Bool) → blocked s.control ≡ b
          → n + length (answers_from b queue removed ++ choose (auth_after b queue removed) (let_go_of server s) []) ≤ most_ahead + most_answers
      by-blocked true e = behind-most n _ [] (let_go_of server s) (auth_after true queue removed) (λ a. omega arith) (omega arith)
      by-blocked false e =
          behind-most n _ (head_answers left) (let_go_of server s) (auth_after false queue removed)
          (λ a. omega (arith, short, answers-auth left (ap auth_at_head (drop-drop (answers_at_head left) removed queue) ∙ a)))
          (omega (arith, short, ahead e, head-answers left))

-- ---- one octet of a record that number 4 lets through

pub counted : (s : Session) → Sound s → Counted s.control
counted s w = record { owed = w.owed; command = w.client.most; reply = w.server.most }

module _ (f : Fixed) (size : length f.mapped ≡ ipv4_width) (octets : every is_octet f.mapped ≡ true) (s : State) (few : Counted s.control) where
  client-most : (x : ℕ) → is_queue_full client (is_passing s.control.client.place) s.control.owed ≡ false → WritesAtMost (client_step f s x)
  unfolding client_step client_state client_effect_in client_effect most_to_server
  client-most x not_full =
      let d : Direction = s.control.client in
      let h : List ℕ = take d.held s.command in
      let e : ClientEffect = client_effect_in f s x in
      let less : length h ≤ most_held = omega (arith, take-most d.held s.command, few.command) in
      let given = place-line f size octets h x (2 * judged) (doubled-most f size octets h x less) (omega arith) s.control.switches d.place d.held (eqb x lf) in
      let owed = place-owed f s.control.switches d.place d.held h (eqb x lf) s.control.owed few.owed not_full in
      record {
        to_server = given.line.most;
        to_client = omega (arith, settled-most (client_state s x e) 0 0 owed (λ _. omega arith) (omega (arith, let-go-most server (client_state s x e), few.reply)));
      }

  server-most : (x : ℕ) → WritesAtMost (server_step f s x)
  unfolding server_step server_state server_effect_in server_effect
  server-most x =
      let d : Direction = s.control.server in
      let h : List ℕ = take d.held s.reply in
      let e : ServerEffect = server_effect_in f s x in
      let t : State = server_state s x e in
      let less : length h ≤ most_held = omega (arith, take-most d.held s.reply, few.reply) in
      let given = reply-line f size octets h x less s.control.opening (head_of s.kinds s.control.owed) d.place d.held s.reply (eqb x lf) refl in
      record {
        to_server = omega arith;
        to_client = rw (length-append (gives_text f h x e.gives) (settled_text t e.removes))
            (settled-most t e.removes (length (gives_text f h x e.gives)) few.owed (λ b. given.ahead (answers-free t.control b))
            (omega (arith, given.together, let-go-most server t)));
      }

  -- one that makes none of a line
  telnet-step-most : (from_client : Bool) (does : Does) → WritesAtMost (telnet_step from_client s does)
  unfolding telnet_step most_to_server
  telnet-step-most from_client does =
      let back = telnet-most (not from_client) does in
      record {
        to_server = omega (arith, judged-most, telnet-most from_client does);
        to_client = rw (length-append (telnet_text (not from_client) does) (settled_text s 0))
            (settled-most s 0 (length (telnet_text (not from_client) does)) few.owed (λ _. omega arith) (omega (arith, let-go-most server s, few.reply)));
      }

  step-most : (d : Side) (does : Does) (o : Option ℕ) → is_queue_full d (is_passing s.control.client.place) s.control.owed ≡ false → WritesAtMost (step_by f d s does o)
  unfolding step_by line_step
  step-most d does None not_full = telnet-step-most (is_client d) does
  step-most client does (Some y) not_full = client-most y not_full
  step-most server does (Some y) not_full = server-most y

module _ (f : Fixed) (size : length f.mapped ≡ ipv4_width) (octets : every is_octet f.mapped ≡ true) (s : State) (x : ℕ) (few : Counted s.control) where
  pub octet-most : (d : Side) → is_queue_full d (is_passing s.control.client.place) s.control.owed ≡ false → WritesAtMost (octet_step f d s x)
  unfolding octet_step
  octet-most client not_full =
      step-most f size octets (layered client s (layer_read client s x).layer) (record { owed = few.owed; command = few.command; reply = few.reply }) client _ _ not_full
  octet-most server not_full =
      step-most f size octets (layered server s (layer_read server s x).layer) (record { owed = few.owed; command = few.command; reply = few.reply }) server _ _ not_full

pub octet-bound : OctetBound
octet-bound s d x shape e not_full = octet-most s.fixed shape.mapped shape.octets (state_of s) x (counted s ((sound-words s).0 e)) d not_full

-- ---- a call goes on

-- each buffer has room for what one octet writes at most
goes_on : (d : Side) (s : State) (t : Step) (rs rc : ℕ) → is_queue_full d (is_passing s.control.client.place) s.control.owed ≡ false
    → WritesAtMost t → most_to_client ≤ rs → most_to_client ≤ rc → stop_of d s t rs rc ≡ None
unfolding stop_of stop fits choose most_to_server most_to_client
goes_on d s t rs rc not_full w hs hc =
    rw (not_full, le-leb (length t.to_server) rs (omega (arith, judged-held, w.to_server)), le-leb (length t.to_client) rc (omega (arith, w.to_client)))

takes_one : (f : Fixed) (d : Side) (s : State) (x : ℕ) (xs : List ℕ) (rs rc : ℕ) → stop_of d s (octet_step f d s x) rs rc ≡ None
    → 1 ≤ (takes f d s (x ∷ xs) rs rc).taken
unfolding takes unless_stopped
takes_one f d s x xs rs rc e = rw e (omega arith)

module _ (s : Session) (shape : Shaped s) (d x : ℕ) (xs : List ℕ) (rs rc : ℕ) (hs : most_to_client ≤ rs) (hc : most_to_client ≤ rc) where
  abbrev took : Took
  took = takes s.fixed (side_of d) (state_of s) (x ∷ xs) rs rc

  -- a call that nothing refuses takes its first octet, unless 1 stops it
  pub first_taken : Sound s → is_queue_full (side_of d) (is_passing s.control.client.place) s.control.owed ≡ false → 1 ≤ took.taken
  first_taken w not_full =
      let t : Step = octet_step s.fixed (side_of d) (state_of s) x in
      takes_one s.fixed (side_of d) (state_of s) x xs rs rc
      (goes_on (side_of d) (state_of s) t rs rc not_full (octet-bound s (side_of d) x shape ((sound-words s).1 w) not_full) hs hc)

  -- and where 1 stops it, 1 is the answer
  by-queue : (b : Bool) → is_queue_full (side_of d) (is_passing s.control.client.place) s.control.owed ≡ b → Sound s
      → took.answer ≢ Answer.QueueFull → 1 ≤ took.taken
  unfolding takes unless_stopped stop_of stop choose
  by-queue true e w other = absurd (other (rw e))
  by-queue false e w other = first_taken w e

  by-refusal : (r : Option Answer) → Refusal s d r → is_refusal (unless_refused r s (outcome s (side_of d) took)).called.answer ≡ false
      → (unless_refused r s (outcome s (side_of d) took)).called.answer ≢ Answer.QueueFull
      → 1 ≤ (unless_refused r s (outcome s (side_of d) took)).called.taken
  unfolding unless_refused refused outcome
  by-refusal r (unknown u) e other = absurd (true≢false e)
  by-refusal r (bad k n) e other = absurd (true≢false e)
  by-refusal r (over k n p) e other = absurd (true≢false e)
  by-refusal r (accepted k n p) e other = by-queue _ refl n other

-- so it is of what an arrival answered and took
pub progress : (s : Session) (d : ℕ) (octets : List ℕ) (rs rc : ℕ) {a : Answer} {n : ℕ} → Shaped s
    → a ≡ (arrived s d octets rs rc).called.answer → n ≡ (arrived s d octets rs rc).called.taken → Progress octets rs rc a n
unfolding arrived
progress s d [] rs rc shape answer taken more e other hs hc = absurd (omega arith)
progress s d (x ∷ xs) rs rc shape answer taken more e other hs hc =
    rw taken (by-refusal s shape d x xs rs rc hs hc (refusal_of s d) (refusal-of s d) (sym (ap is_refusal answer) ∙ e) (λ q. other (answer ∙ q)))
