-- What a call promises, from what its parts promise.
use Rattle.std.specs.Prelude.{Some}
use mathlib.Core.Path.{◌≡◌, refl, sym, ap, ◌∙◌}
use mathlib.Core.Bool.{Bool, true, false, and-true}
use mathlib.Core.List.{List, ◌++◌}
use Rattle.std.specs.Prelude.{Option, None}
use Prim.Native.Nat.{ℕ, ◌+◌, ◌*◌, ◌≤◌, ◌<◌}
use lib.Dec.{leb, leb-zero}
use lib.ListN.{length, drop, length-append, length-take}
use borrow.Author.Tests.{le-leb, lt-leb}
use native.Mathlib.Omega.{arith}
use Rattle.rules.specs.Answers.{Side, client, server, side_of, fits}
use Rattle.rules.specs.Lines.{passed, most_held}
use Rattle.rules.specs.declared.Answer.{Answer}
use Rattle.session.specs.declared.Called.{Called}
use Rattle.records.specs.declared.Counts.{Counts}
use Rattle.records.specs.declared.Session.{Session}
use Rattle.steps.specs.declared.Written.{Written}
use Rattle.output.specs.Buffer.{put_at}
use Rattle.steps.specs.Steps.{State, held_of, let_go_of}
use Rattle.steps.specs.Takes.{Took, takes, Core, core_from, core_took}
use Rattle.session.specs.Calls.{Outcome, state_of, session_after, refused, unless_refused, outcome, arrived, goes_to, end_step, end_outcome, held_end, buffer_after, end_called}
use Rattle.records.specs.Sound.{refusal_of}
use Rattle.records.specs.Controls.{unfinished_of}
use Rattle.records.proofs.Sides.{not-zero}
use Rattle.octets.proofs.Passed.{passed-most}
use Rattle.output.proofs.Placing.{Wrote, after-fits, joined}
use Rattle.output.proofs.Front.{front-put}
use Rattle.steps.proofs.Fits.{takes-fit}
use Rattle.counts.specs.Counts.{counted, taken_for, written_from}

-- a call's result r, and its buffers before and after
abbrev pub Promised : Outcome → Called → List ℕ → List ℕ → List ℕ → List ℕ → Type 0
Promised w r out other out' other' =
    (r ≡ w.called) × ((out' ≡ buffer_after client w out) × (other' ≡ buffer_after server w other))

-- the record after a call, from the two counts
pub advanced : (s : Session) (d : Side) (n to_server to_client : ℕ) (t : State) {up down : Counts}
    → up ≡ counted s.up (taken_for client d n) to_server → down ≡ counted s.down (taken_for server d n) to_client
    → ◌≡◌ {A = Session}
    (record {
      live = s.live;
      fixed = s.fixed;
      control = t.control;
      command = t.command;
      reply = t.reply;
      kinds = t.kinds;
      up = up;
      down = down;
    })
    (session_after s d n to_server to_client t)
unfolding session_after
advanced s d n to_server to_client t u v = rw (u, v)

-- ---- refused

promised-refused : (s : Session) (a : Answer) (out other : List ℕ) {r : Called} → r ≡ (refused a s).called → Promised (refused a s) r out other out other
unfolding refused
promised-refused s a out other e = (e, (refl, refl))

pub turned-away : (s : Session) (o : Option Answer) (w : Outcome) (a : Answer) (out other : List ℕ) {q : Option Answer} {r : Called} → q ≡ o
    → q ≡ Some a → r ≡ (refused a s).called → Promised (unless_refused o s w) r out other out other
unfolding unless_refused
turned-away s o w a out other p q e = rw (sym p ∙ q) (promised-refused s a out other e)

-- ---- an arrival

-- side is the direction's, which does not refuse
module _ (s : Session) (d : ℕ) (octets out other : List ℕ) (side : Side) (same : side ≡ side_of d) (free : refusal_of s d ≡ None) where
  abbrev pub taking : Took
  taking = takes s.fixed side (state_of s) octets (length out) (length other)

  unrefused : arrived s d octets (length out) (length other) ≡ outcome s side taking
  unfolding arrived unless_refused
  unrefused = rw (free, same)

  pub arrives : {took : Took} {a : Answer} {n : ℕ} {t : State} {out' other' : List ℕ} {w : Written} {s' : Session} → took ≡ taking → a ≡ took.answer
      → n ≡ took.taken → core_from t out' other' w ≡ core_took took out other → s' ≡ session_after s side n w.server w.client t
      → Promised (arrived s d octets (length out) (length other)) (record { answer = a; taken = n; written = w; session = s' }) out other out' other'
  unfolding core_took outcome
  arrives {t = t} {w = w} all p₀ q₀ k₀ e =
      let p = p₀ ∙ ap (λ (x : Took). x.answer) all in
      let q = q₀ ∙ ap (λ (x : Took). x.taken) all in
      let k = k₀ ∙ ap (λ (x : Took). core_took x out other) all in
      let fit = takes-fit s.fixed side (state_of s) octets (length out) (length other) in
      let st : t ≡ taking.state = ap (λ (x : Core). x.state) k in
      let size : w ≡ record { server = length taking.to_server; client = length taking.to_client } = ap (λ (x : Core). x.written) k in (
        rw (unrefused, e, p, q, st, size),
        (
          ap (λ (x : Core). x.server_buffer) k ∙ rw unrefused (front-put out taking.to_server fit.server),
          ap (λ (x : Core). x.client_buffer) k ∙ rw unrefused (front-put other taking.to_client fit.client),
        ),
      )

-- ---- an end

-- the octets that an array of a line holds give at most twice as many
pub held_gives : (d : Side) (s : State) → length s.command ≡ most_held → length s.reply ≡ most_held → length (passed (held_of d s)) ≤ 2 * most_held
held_gives client s c r = omega (arith, passed-most (held_of client s), length-take s.control.client.held s.command)
held_gives server s c r = omega (arith, passed-most (held_of server s), length-take s.control.server.held s.reply)

-- what an end leaves of the side d: what it returns, and the one buffer that the held octets go to
module _ (s : Session) (d : Side) (out : List ℕ) where
  abbrev text : List ℕ
  text = let_go_of d (state_of s)

  abbrev pub Left : Called → List ℕ → Type 0
  Left r out' = (r ≡ (held_end s d (length out)).called) × (out' ≡ buffer_after d (held_end s d (length out)) out)

  -- where they have no room
  same-buffer : (e : Side) → out ≡ buffer_after e (refused Answer.NoRoom s) out
  unfolding refused
  same-buffer client = refl
  same-buffer server = refl

  sizes : (e : Side) (l : List ℕ) → written_from e (length l) ≡ record { server = length (goes_to server e l); client = length (goes_to client e l) }
  sizes client l = refl
  sizes server l = refl

  buffer-then : (e : Side) → let_go_of e (state_of s) ++ drop (length (let_go_of e (state_of s))) out
      ≡ buffer_after e (end_outcome s e (end_step e (state_of s)) true) out
  unfolding end_step end_outcome outcome
  buffer-then client = refl
  buffer-then server = refl

  -- a is what the held octets give, and b what has come of a Telnet command
  module _ {a b : List ℕ} (ea : a ≡ passed (held_of d (state_of s))) (eb : b ≡ unfinished_of d s.control) {m k : ℕ} (em : m ≡ length a) (ek : k ≡ length b) where
    both : a ++ b ≡ text
    both = λ i. ea i ++ eb i

    long : m + k ≡ length text
    long = omega (arith, length-append a b, ap length both)

    -- where they have no room
    pub no_room : {r : Called} → length out < m + k → r ≡ (refused Answer.NoRoom s).called → Left r out
    unfolding held_end end_outcome
    no_room less e = rw (lt-leb (length text) (length out) (omega (arith, long))) (e, same-buffer d)

    -- where they have room, and were put behind each other
    module _ (fit : m + k ≤ length out) {next n : ℕ} {after out' : List ℕ} (one : Wrote out 0 a next after) (two : Wrote after next b n out') where
      wrote : Wrote out 0 (a ++ b) n out'
      wrote = joined out 0 a b (λ room. one) (λ room. two) (omega (arith, length-append a b))

      pub let-go : n ≡ m + k
      let-go = wrote.0 ∙ (after-fits out 0 (a ++ b) (omega (arith, length-append a b)) ∙ omega (arith, length-append a b))

      pub passed_on : {w : Written} {s' : Session} → w ≡ written_from d n → s' ≡ session_after s d 0 w.server w.client (end_step d (state_of s)).state
          → Left (record { answer = Answer.Done; taken = 0; written = w; session = s' }) out'
      unfolding held_end end_outcome outcome end_step
      passed_on ew es =
          let room : length text ≤ length out = omega (arith, long) in
          let size = ew ∙ (ap (written_from d) (let-go ∙ long) ∙ sizes d text) in
          rw (le-leb (length text) (length out) room) (
            rw (es, size),
            wrote.1 ∙ (ap (put_at out 0) both ∙ (front-put out text room ∙ buffer-then d)),
          )

-- a buffer for which an end has no text is as it was
pub untouched : (s : Session) (b : Bool) (buffer : List ℕ)
    → (buffer ≡ buffer_after server (end_outcome s client (end_step client (state_of s)) b) buffer)
    × (buffer ≡ buffer_after client (end_outcome s server (end_step server (state_of s)) b) buffer)
unfolding end_outcome outcome refused end_step
untouched s true buffer = (refl, refl)
untouched s false buffer = (refl, refl)

-- an end by its direction's number looks at the one buffer that its side's octets go to
module _ (s : Session) (d : ℕ) (out other : List ℕ) (free : refusal_of s d ≡ None) where
  pub client-ends : d ≡ 0 → end_called s d (length out) (length other) ≡ held_end s client (length out)
  unfolding end_called unless_refused held_end end_step fits
  client-ends z = rw (free, z, leb-zero (length other), and-true (leb (length (let_go_of client (state_of s))) (length out)))

  pub server-ends : (d ≡ 0 → ⊥) → end_called s d (length out) (length other) ≡ held_end s server (length other)
  unfolding end_called unless_refused held_end end_step fits
  server-ends z = rw (free, not-zero d z, leb-zero (length out))

  module _ {r : Called} {changed : List ℕ} where
    pub client-ended : d ≡ 0 → Left s client out r changed → Promised (end_called s d (length out) (length other)) r out other changed other
    unfolding held_end
    client-ended z (e, b) = rw (client-ends z) (e, (b, (untouched s _ other).0))

    pub server-ended : (d ≡ 0 → ⊥) → Left s server other r changed → Promised (end_called s d (length out) (length other)) r out other out changed
    unfolding held_end
    server-ended z (e, b) = rw (server-ends z) (e, ((untouched s _ out).1, b))
