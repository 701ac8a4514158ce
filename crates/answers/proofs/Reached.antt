-- Both bounds on one octet are reached. Octets 255 that are held are taken one after the other by a law, so that what is computed does
-- not grow with the square of a line's length.
use mathlib.Core.Path.{◌≡◌, refl, sym, ap, ◌∙◌, subst}
use mathlib.Core.Bool.{true}
use mathlib.Core.List.{List, [], ◌∷◌, ◌++◌}
use Rattle.std.specs.Prelude.{Option, None}
use Prim.Native.Nat.{ℕ, ◌+◌, ◌-◌, ◌<◌}
use native.Mathlib.Nat.{add-zero}
use native.Mathlib.Omega.{arith}
use lib.Dec.{lit<, lit≤}
use lib.ListN.{length, take, set, replicate, length-append}
use lib.Seq.{set-append_seam, append_snoc}
use borrow.Author.Tests.{lt-ltb}
use Rattle.rules.specs.Octets.{oct, lf, iac, octets-opened}
use Rattle.rules.specs.Answers.{Side, client, server, side_of, most_owed, most_to_server, most_to_client, most_reached, answers-opened}
use Rattle.rules.specs.Setup.{setup-opened}
use Rattle.rules.specs.Lines.{most_held, judged, passed, lines-opened}
use Rattle.rules.specs.Telnet.{telnet-opened}
use Rattle.rules.specs.Address.{address-opened}
use Rattle.rules.specs.Commands.{commands-opened}
use Rattle.rules.specs.Replies.{replies-opened}
use Rattle.rules.specs.declared.Fixed.{Fixed}
use Rattle.rules.specs.declared.Answer.{Answer}
use Rattle.rules.specs.declared.Telnet.{Telnet}
use Rattle.rules.specs.declared.Layer.{Layer}
use Rattle.octets.proofs.Choices.{choose-true}
use Rattle.queue.specs.Kinds.{kinds-opened}
use Rattle.gives.specs.Text.{gives_text, gives-opened}
use Rattle.places.specs.declared.Place.{Place}
use Rattle.places.specs.Places.{at, places-opened}
use Rattle.records.specs.Controls.{with_server}
use Rattle.records.specs.Sound.{sound, refusal_of, sound-opened}
use Rattle.upstream.specs.declared.ClientEffect.{ClientEffect}
use Rattle.downstream.specs.declared.ServerEffect.{ServerEffect}
use Rattle.upstream.specs.Upstream.{upstream-opened}
use Rattle.downstream.specs.Downstream.{downstream-opened}
use Rattle.steps.specs.Steps.{State, Step, settled_state, settled_text, client_state, server_state, layered, octet_step, steps-opened}
use Rattle.records.specs.declared.Session.{Session}
use Rattle.steps.specs.Takes.{Took, takes}
use Rattle.arrivals.specs.Runs.{holding}
use Rattle.arrivals.proofs.Runs.{Open, one-taken}
use Rattle.session.specs.Bounds.{Shaped}
use Rattle.setups.specs.Setups.{no_octets, no_kinds}
use Rattle.session.specs.Calls.{state_of, session_after, unless_refused, outcome, arrived, calls-opened}
use Rattle.answers.specs.Reached.{Recomputed, Writes, fresh, enough, arrive, times, doubles, long_line, last_line, begun, sixteen_answers, waiting, all_at_once}

-- what is computed here, but for the judged length, which a law leaves as it is
unfoldable opened : Unit {0}
unfolding octets-opened answers-opened setup-opened passed telnet-opened address-opened commands-opened replies-opened kinds-opened gives-opened places-opened sound-opened upstream-opened downstream-opened steps-opened calls-opened
opened = tt

pub recomputed : Recomputed
unfolding answers-opened lines-opened
recomputed = record { to_server = refl; to_client = refl; from_fresh = refl }

-- ---- a line of octets 255

-- the state after octets that a side sends
abbrev state_then : Fixed → Side → State → List ℕ → State
state_then f d s xs = (takes f d s xs enough enough).state

-- a step that writes nothing
abbrev still : State → Step
still s = record { state = s; to_server = []; to_client = [] }

-- behind one octet 255
abbrev behind : Layer
behind = record { telnet = Telnet.Iac; removed = 0 }

-- where the second of two octets 255 is held, whatever else is
module _ (f : Fixed) (d : Side) (s : State) (open1 : (k : ℕ) (line : List ℕ) → Open d (holding d s k line))
    (open2 : (k : ℕ) (line : List ℕ) → Open d (layered d (holding d s k line) behind))
    (first : (k : ℕ) (line : List ℕ) → octet_step f d (holding d s k line) iac ≡ still (layered d (holding d s k line) behind))
    (second : (k : ℕ) (line : List ℕ) → k + 1 < judged
    → octet_step f d (layered d (holding d s k line) behind) iac ≡ still (holding d s (k + 1) (set line k iac))) where
  held-double : (k : ℕ) (line ys : List ℕ) → k + 1 < judged
      → state_then f d (holding d s k line) (iac ∷ iac ∷ ys) ≡ state_then f d (holding d s (k + 1) (set line k iac)) ys
  held-double k line ys h =
      let here = holding d s k line in
      let mid = layered d here behind in
      ap (λ (t : Took). t.state) (one-taken f d here iac (iac ∷ ys) enough enough (still mid) (first k line) (open1 k line) (lit≤ tt) (lit≤ tt))
      ∙ ap (λ (t : Took). t.state) (one-taken f d mid iac ys enough enough (still (holding d s (k + 1) (set line k iac))) (second k line h) (open2 k line) (lit≤ tt) (lit≤ tt))

  -- so are as many as replace the octets `old` of the array
  held-doubles : (old front : List ℕ) → length front + length old < judged
      → state_then f d (holding d s (length front) (front ++ old)) (doubles (length old))
      ≡ holding d s (length front + length old) (front ++ replicate (length old) iac)
  unfolding takes
  held-doubles [] front h = λ i. holding d s (sym (add-zero (length front)) i) (front ++ [])
  held-doubles (o ∷ old) front h =
      let longer : length (front ++ (iac ∷ [])) ≡ length front + 1 = length-append front (iac ∷ []) in
      let stored : set (front ++ (o ∷ old)) (length front) iac ≡ (front ++ (iac ∷ [])) ++ old =
      set-append_seam front o old iac ∙ sym (append_snoc front iac old) in
      let count : length (front ++ (iac ∷ [])) + length old ≡ length front + length (o ∷ old) = omega (arith, longer) in
      held-double (length front) (front ++ (o ∷ old)) (doubles (length old)) (omega arith)
      ∙ (λ i. state_then f d (holding d s (sym longer i) (stored i)) (doubles (length old)))
      ∙ held-doubles old (front ++ (iac ∷ [])) (omega arith)
      ∙ (λ i. holding d s (count i) (append_snoc front iac (replicate (length old) iac) i))

-- what is so after an arrival that nothing refuses, by the state that it leads to, whatever is counted then
module _ (s : Session) (d : ℕ) (xs : List ℕ) (free : refusal_of s d ≡ None) (t : State)
    (leads : state_then s.fixed (side_of d) (state_of s) xs ≡ t) where
  abbrev took : Took
  took = takes s.fixed (side_of d) (state_of s) xs enough enough

  arrived-then : (P : Session → Type 0) → ((a b c : ℕ) → P (session_after s (side_of d) a b c t)) → P (arrive s d xs).session
  unfolding arrived unless_refused outcome
  arrived-then P all =
      subst P
      (sym (ap (λ (r : Option Answer). (unless_refused r s (outcome s (side_of d) took)).called.session) free
      ∙ ap (session_after s (side_of d) took.taken (length took.to_server) (length took.to_client)) leads))
      (all took.taken (length took.to_server) (length took.to_client))

-- ---- the most to the server

abbrev freshly : ℕ → List ℕ → State
freshly n l = holding client (state_of fresh) n l

fresh-first : (k : ℕ) (line : List ℕ) → octet_step fresh.fixed client (freshly k line) iac ≡ still (layered client (freshly k line) behind)
unfolding opened
fresh-first k line = refl

fresh-second : (k : ℕ) (line : List ℕ) → k + 1 < judged
    → octet_step fresh.fixed client (layered client (freshly k line) behind) iac ≡ still (freshly (k + 1) (set line k iac))
unfolding opened
fresh-second k line h =
    let next : ClientEffect → State = λ e. client_state (freshly k line) iac e in
    ap (λ (e : ClientEffect). record { state = settled_state (next e) 0; to_server = gives_text fresh.fixed (take k line) iac e.gives; to_client = settled_text (next e) 0 })
    (choose-true _ _ (lt-ltb (k + 1) judged h))

fresh-held : state_then fresh.fixed client (state_of fresh) (doubles most_held) ≡ freshly most_held (replicate most_held iac)
unfolding opened lines-opened
fresh-held = held-doubles fresh.fixed client (state_of fresh) (λ k line. refl) (λ k line. refl) fresh-first fresh-second no_octets [] (lit< tt)

pub server-reached : Writes long_line most_to_server 0
unfolding opened lines-opened long_line
server-reached =
    arrived-then fresh 0 (doubles most_held) refl _ fresh-held (λ (r : Session). Writes (arrive (arrive r 0 (iac ∷ [])).session 0 (iac ∷ [])) most_to_server 0)
    (λ a b c. record { answer = refl; taken = refl; to_server = refl; to_client = refl })

-- ---- the most to the client from a fresh session

-- so many octets of the last line are held, in this array; no reply is owed, and the one that goes on began with 200
abbrev begins : ℕ → List ℕ → State
begins n line =
    record { control = with_server fresh.control (at Place.Holding n) 0 200; command = no_octets; reply = line; kinds = no_kinds }

abbrev others : ℕ
others = most_held - length last_line

begun-is : state_of begun ≡ begins (length last_line) (last_line ++ replicate others 0)
unfolding opened lines-opened
begun-is = refl

begun_first : (k : ℕ) (line : List ℕ) → octet_step fresh.fixed server (begins k line) iac ≡ still (layered server (begins k line) behind)
unfolding opened
begun_first k line = refl

begun-second : (k : ℕ) (line : List ℕ) → k + 1 < judged
    → octet_step fresh.fixed server (layered server (begins k line) behind) iac ≡ still (begins (k + 1) (set line k iac))
unfolding opened
begun-second k line h =
    let next : ServerEffect → State = λ e. server_state (begins k line) iac e in
    ap (λ (e : ServerEffect). record { state = settled_state (next e) e.removes; to_server = []; to_client = gives_text fresh.fixed (take k line) iac e.gives ++ settled_text (next e) e.removes })
    (choose-true _ _ (lt-ltb (k + 1) judged h))

begun-held : state_then fresh.fixed server (state_of begun) (doubles others) ≡ begins most_held (last_line ++ replicate others iac)
unfolding opened lines-opened
begun-held =
    ap (λ (s : State). state_then fresh.fixed server s (doubles others)) begun-is
    ∙ held-doubles fresh.fixed server (begins 0 []) (λ k line. refl) (λ k line. refl) begun_first begun-second (replicate others 0) last_line (lit< tt)

pub client-reached : Writes sixteen_answers 0 most_reached
unfolding opened lines-opened sixteen_answers
client-reached =
    arrived-then begun 1 (doubles others) refl _ begun-held
    (λ (r : Session). Writes (arrive (arrive r 0 (times most_owed (oct "ALGS\r\n"))).session 1 (lf ∷ [])) 0 most_reached)
    (λ a b c. record { answer = refl; taken = refl; to_server = refl; to_client = refl })

-- ---- the most to the client from a record that number 4 lets through

pub waiting-sound : (sound waiting ≡ true) × Shaped waiting
unfolding opened lines-opened
waiting-sound = (
  refl,
  record {
    mapped = refl;
    octets = refl;
    command = refl;
    reply = refl;
    kinds = refl;
    opening = lit< tt;
    removed_up = lit< tt;
    removed_down = lit< tt;
  },
)

pub waiting-reached : Writes all_at_once 0 most_to_client
unfolding opened lines-opened all_at_once
waiting-reached = record { answer = refl; taken = refl; to_server = refl; to_client = refl }
