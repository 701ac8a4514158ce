-- One octet as an arrival of its own: what it answers, and the core behind it.
use mathlib.Core.Path.{◌≡◌, sym, ap, ◌∙◌}
use mathlib.Core.Bool.{Bool, true, false, ◌&&◌, and-false}
use mathlib.Core.List.{List, [], ◌++◌, append-nil}
use Prim.Native.Nat.{ℕ, ◌+◌, ◌≤◌, ◌<◌}
use native.Mathlib.Omega.{arith}
use lib.Dec.{leb}
use lib.ListN.{length}
use borrow.Author.Tests.{le-leb, lt-leb, leb-true, ne_eqb}
use Rattle.rules.specs.Octets.{choose}
use Rattle.rules.specs.Answers.{Side, is_queue_full, stop}
use Rattle.rules.specs.declared.Answer.{Answer}
use Rattle.records.specs.Layout.{lent_size}
use Rattle.octets.proofs.Ranges.{and_both}
use Rattle.output.proofs.Placing.{nothing_put}
use Rattle.places.specs.Places.{is_passing}
use Rattle.records.specs.declared.Control.{Control}
use Rattle.records.specs.Sound.{holdable}
use Rattle.records.proofs.Limits.{holdable-counts, counts-holdable}
use Rattle.rules.specs.declared.Fixed.{Fixed}
use Rattle.steps.specs.declared.Written.{Written}
use Rattle.steps.specs.Steps.{octet_step}
use Rattle.steps.specs.Takes.{Took, took_nothing, unless_stopped, stop_of, takes, Core, core_behind, is_within, took_next}
use Rattle.steps.specs.Core.{Bounded, step_fits, octet_fits, octet_core}
use Rattle.steps.proofs.Octets.{core-same, core-next}

-- ---- counts and places, test by test

-- another number of lent octets
pub not-lent : (c : Control) (lent m n : ℕ) (w : Written) → (lent ≡ lent_size → ⊥) → is_within c lent m n w ≡ false
unfolding is_within
not-lent c lent m n w k =
    ap (λ (b : Bool). b && leb w.server m && leb w.client n) (ap (λ (b : Bool). holdable c && b) (ne_eqb lent lent_size k) ∙ and-false (holdable c))

-- as many lent octets as an array of them has
pub as-array : (c : Control) (lent to_server to_client : List ℕ) (w : Written) → length lent ≡ lent_size → {b : Bool}
    → b ≡ is_within c lent_size (length to_server) (length to_client) w → is_within c (length lent) (length to_server) (length to_client) w ≡ b
as-array c lent to_server to_client w long is = ap (λ (k : ℕ). is_within c k (length to_server) (length to_client) w) long ∙ sym is

module _ (c : Control) (m n : ℕ) (w : Written) where
  pub not-held : holdable c ≡ false → false ≡ is_within c lent_size m n w
  unfolding is_within
  not-held h = rw h

  pub not-server : holdable c ≡ true → m < w.server → false ≡ is_within c lent_size m n w
  unfolding is_within
  not-server h less = rw (h, lt-leb w.server m less)

  pub by-client : holdable c ≡ true → w.server ≤ m → leb w.client n ≡ is_within c lent_size m n w
  unfolding is_within
  by-client h room = rw (h, le-leb w.server m room)

-- what they say where they can be
pub within-facts : (c : Control) (to_server to_client : List ℕ) (w : Written)
    → is_within c lent_size (length to_server) (length to_client) w ≡ true → Bounded c w to_server to_client
unfolding is_within
within-facts c to_server to_client w h =
    let a = and_both (holdable c && true && leb w.server (length to_server)) (leb w.client (length to_client)) h in
    let b = and_both (holdable c && true) (leb w.server (length to_server)) a.0 in
    let counts = holdable-counts c (and_both (holdable c) true b.0).0 in record {
      owed = counts.owed;
      command = counts.command;
      reply = counts.reply;
      server = leb-true w.server (length to_server) b.1;
      client = leb-true w.client (length to_client) a.1;
    }

-- and they can be where they are bounded
pub within-bounded : (c : Control) (lent : ℕ) (to_server to_client : List ℕ) (w : Written) → lent ≡ lent_size → Bounded c w to_server to_client
    → is_within c lent (length to_server) (length to_client) w ≡ true
within-bounded c lent to_server to_client w all bounded =
    let counts = counts-holdable c bounded.owed bounded.command bounded.reply in
    ap (λ (n : ℕ). is_within c n (length to_server) (length to_client) w) all
    ∙ (sym (by-client c (length to_server) (length to_client) w counts bounded.server) ∙ le-leb w.client (length to_client) bounded.client)

-- ---- the octet

-- nothing taken leaves the core as it was
pub behind-nothing : (k : Core) (a : Answer) → k ≡ core_behind (took_nothing a k.state) k
unfolding core_behind
behind-nothing k a =
    let w = k.written in
    let server = (nothing_put k.server_buffer w.server).1 in
    let client = (nothing_put k.client_buffer w.client).1 in
    let m : w.server ≡ w.server + 0 = omega arith in
    let n : w.client ≡ w.client + 0 = omega arith in
    λ i. record { state = k.state; server_buffer = server i; client_buffer = client i; written = record { server = m i; client = n i } }

-- an answer and a core are those of what was taken next
abbrev pub Answered : Answer → Core → Took → Core → Type 0
Answered a m t k = (a ≡ t.answer) × (m ≡ core_behind t k)

module _ (f : Fixed) (d : Side) (x : ℕ) (k : Core) where
  nothing-next : (within : Bool) (a : Answer) → took_next within f d x k ≡ took_nothing a k.state → Answered a k (took_next within f d x k) k
  nothing-next within a e =
      (sym (ap (λ (t : Took). t.answer) e), behind-nothing k a ∙ ap (λ (t : Took). core_behind t k) (sym e))

  pub next-refused : {within : Bool} → within ≡ false → Answered Answer.BadRecord k (took_next within f d x k) k
  unfolding took_next choose
  next-refused {within} e = nothing-next within Answer.BadRecord (rw e)

  module _ {within : Bool} (can : within ≡ true) where
    pub next-full : is_queue_full d (is_passing k.state.control.client.place) k.state.control.owed ≡ true
        → Answered Answer.QueueFull k (took_next within f d x k) k
    unfolding took_next takes unless_stopped stop_of stop choose
    next-full full = nothing-next within Answer.QueueFull (rw (can, full))

    module _ (room : is_queue_full d (is_passing k.state.control.client.place) k.state.control.owed ≡ false) where
      pub next-unfit : {m : Core} → false ≡ octet_fits f d x k → m ≡ octet_core f d x k → Answered Answer.NoRoom m (took_next within f d x k) k
      unfolding took_next takes unless_stopped stop_of stop choose step_fits
      next-unfit fit e =
          let none = nothing-next within Answer.NoRoom (rw (can, room, sym fit)) in
          (none.0, e ∙ sym (core-same (octet_step f d k.state x) k (sym fit)) ∙ none.1)

      pub next_fits : {m : Core} → true ≡ octet_fits f d x k → m ≡ octet_core f d x k → Answered Answer.Done m (took_next within f d x k) k
      unfolding took_next takes unless_stopped stop_of stop choose step_fits core_behind
      next_fits fit e =
          let t = octet_step f d k.state x in
          let one : took_next within f d x k
          ≡ record { answer = Answer.Done; taken = 1; to_server = t.to_server ++ []; to_client = t.to_client ++ []; state = t.state } =
          rw (can, room, sym fit) in
          let same : took_next within f d x k
          ≡ record { answer = Answer.Done; taken = 1; to_server = t.to_server; to_client = t.to_client; state = t.state } =
          one ∙ (λ i. record { answer = Answer.Done; taken = 1; to_server = append-nil t.to_server i; to_client = append-nil t.to_client i; state = t.state }) in
          (sym (ap (λ (r : Took). r.answer) same), e ∙ sym (core-next (octet_step f d k.state x) k (sym fit)) ∙ ap (λ (r : Took). core_behind r k) (sym same))
