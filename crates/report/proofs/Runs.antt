-- What an entry does, by its kind, and how much it takes and writes.
use mathlib.Core.Path.{◌≡◌, refl, sym}
use mathlib.Core.Bool.{Bool, true, false}
use mathlib.Core.List.{List, [], ◌∷◌}
use Rattle.std.specs.Prelude.{Option, None, Some}
use Prim.Native.Nat.{ℕ, zero, suc, ◌-◌, ◌<◌, ◌≤◌}
use native.Mathlib.Omega.{arith}
use lib.ListN.{length, length-append}
use lib.Seq.{take_at}
use Rattle.rules.specs.Answers.{Side, client, server, side_of, fits}
use Rattle.rules.specs.declared.Answer.{Answer}
use Rattle.session.specs.declared.Called.{Called}
use Rattle.rules.specs.declared.Fixed.{Fixed}
use Rattle.records.specs.declared.Session.{Session}
use Rattle.steps.specs.Steps.{State, Step, octet_step}
use Rattle.steps.specs.Takes.{Took, unless_stopped, stop_of, takes}
use Rattle.setups.specs.Setups.{prepared_from}
use Rattle.session.specs.Calls.{Outcome, refused, unless_refused, outcome, state_of, arrived, end_step, end_outcome, buffer_after, end_called}
use Rattle.records.specs.Sound.{refusal_of}
use Rattle.fields.specs.Report.{Done, out_room, done_by, set_up, run_entry}
use Rattle.report.specs.declared.EntryRan.{EntryRan}
use Rattle.report.specs.Ran.{done_in, ran_of, setup_kept}

-- ---- by its kind

module _ (s : Session) where
  pub arrives : (k : ℕ) (body : List ℕ) → k < 2 → run_entry s k body ≡ done_by (arrived s k body out_room out_room)
  unfolding run_entry
  arrives zero body h = refl
  arrives (suc zero) body h = refl
  arrives (suc (suc k)) body h = absurd (omega arith)

  pub ends : (k : ℕ) (body : List ℕ) → 2 ≤ k → k < 4 → run_entry s k body ≡ done_by (end_called s (k - 2) out_room out_room)
  unfolding run_entry
  ends zero body h l = absurd (omega arith)
  ends (suc zero) body h l = absurd (omega arith)
  ends (suc (suc zero)) body h l = refl
  ends (suc (suc (suc zero))) body h l = refl
  ends (suc (suc (suc (suc k)))) body h l = absurd (omega arith)

  pub sets-up : (k : ℕ) (body : List ℕ) → 4 ≤ k → run_entry s k body ≡ set_up body
  unfolding run_entry
  sets-up zero body h = absurd (omega arith)
  sets-up (suc zero) body h = absurd (omega arith)
  sets-up (suc (suc zero)) body h = absurd (omega arith)
  sets-up (suc (suc (suc zero))) body h = absurd (omega arith)
  sets-up (suc (suc (suc (suc k)))) body h = refl

-- ---- the octets taken

unless-most : (o : Option Answer) (s : State) (r : Took) (n : ℕ) → r.taken ≤ n → (unless_stopped o s r).taken ≤ n
unfolding unless_stopped
unless-most None s r n h = h
unless-most (Some a) s r n h = omega arith

takes-most : (f : Fixed) (d : Side) (s : State) (xs : List ℕ) (m n : ℕ) → (takes f d s xs m n).taken ≤ length xs
unfolding takes
takes-most f d s [] m n = omega arith
takes-most f d s (x ∷ xs) m n =
    let t = octet_step f d s x in
    unless-most (stop_of d s t m n) s _ _ (omega (arith, takes-most f d t.state xs (m - length t.to_server) (n - length t.to_client)))

-- ---- a call: what it says that it took and wrote

pub record Told (o : Outcome) (n : ℕ) : Type 0 where
  pub taken : o.called.taken ≤ n
  pub server : o.called.written.server ≡ length o.to_server
  pub client : o.called.written.client ≡ length o.to_client

told-unless : (r : Option Answer) (s : Session) (o : Outcome) (n : ℕ) → Told o n → Told (unless_refused r s o) n
unfolding unless_refused refused
told-unless None s o n t = t
told-unless (Some a) s o n t = record { taken = omega arith; server = refl; client = refl }

pub told-arrived : (s : Session) (d : ℕ) (octets : List ℕ) (m n : ℕ) → Told (arrived s d octets m n) (length octets)
unfolding arrived outcome
told-arrived s d octets m n =
    told-unless (refusal_of s d) s (outcome s (side_of d) (takes s.fixed (side_of d) (state_of s) octets m n)) (length octets)
    (record { taken = takes-most s.fixed (side_of d) (state_of s) octets m n; server = refl; client = refl })

told-end : (s : Session) (d : Side) (t : Step) (b : Bool) → Told (end_outcome s d t b) 0
unfolding end_outcome outcome refused
told-end s d t true = record { taken = omega arith; server = refl; client = refl }
told-end s d t false = record { taken = omega arith; server = refl; client = refl }

pub told-ended : (s : Session) (d m n : ℕ) → Told (end_called s d m n) 0
unfolding end_called
told-ended s d m n =
    let t = end_step (side_of d) (state_of s) in
    let b = fits t.to_server t.to_client m n in
    told-unless (refusal_of s d) s (end_outcome s (side_of d) t b) 0 (told-end s (side_of d) t b)

-- ---- what the code keeps

-- what an entry's run promises: the result r, and the buffers then
abbrev pub Kept : Done → EntryRan → List ℕ → List ℕ → Type 0
Kept d r out other =
    (done_in r out other ≡ d) × ((r.written.server ≤ length out) × (r.written.client ≤ length other))

pub kept-call : (d : Done) (o : Outcome) (n : ℕ) (out other : List ℕ) {c : Called} {r : EntryRan} {out' other' : List ℕ} → Told o n → d ≡ done_by o → c ≡ o.called → r ≡ ran_of c
    → out' ≡ buffer_after client o out → other' ≡ buffer_after server o other → Kept d r out' other'
unfolding done_in
kept-call d o n out other t e p q w v =
    rw (e, q, w, v, p) (
      rw (take_at o.to_server _ _ (sym t.server), take_at o.to_client _ _ (sym t.client)),
      (
        rw length-append (omega (arith, t.server)),
        rw length-append (omega (arith, t.client)),
      ),
    )

pub kept-setup : (d : Done) (body : List ℕ) {r : EntryRan} (out other : List ℕ) → d ≡ set_up body → r ≡ setup_kept (prepared_from body) → Kept d r out other
unfolding set_up done_in
kept-setup d body out other e q = rw (e, q) (refl, (omega arith, omega arith))
