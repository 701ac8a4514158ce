-- The step of an LF whose line passes as it is, where nothing leaves the queue behind it.
use mathlib.Core.Path.{◌≡◌, refl, sym, ap, subst, ◌∙◌}
use mathlib.Core.Bool.{Bool, true, false≢true}
use mathlib.Core.List.{List, [], ◌∷◌, ◌++◌}
use Prim.Native.Nat.{ℕ, zero, suc, ◌+◌, ◌<◌}
use native.Mathlib.Omega.{arith}
use lib.Dec.{ltb}
use lib.ListN.{length, take, set}
use borrow.Author.Tests.{lt-leb}
use Rattle.rules.specs.Octets.{choose, lf, iac, is_not, every}
use Rattle.rules.specs.Lines.{passed}
use Rattle.rules.specs.Commands.{command_owes, command_switches}
use Rattle.rules.specs.Answers.{client}
use Rattle.octets.proofs.Passed.{passed-itself}
use Rattle.output.specs.Buffer.{Put}
use Rattle.output.proofs.Placing.{written}
use Rattle.places.specs.declared.Place.{Place}
use Rattle.places.specs.Places.{at}
use Rattle.gives.specs.Text.{gives_text}
use Rattle.queue.specs.Kinds.{code_of, pushed, is_still}
use Rattle.commands.specs.Plain.{is_plain}
use Rattle.commands.proofs.Words.{plain_passes}
use Rattle.upstream.specs.Upstream.{command_effect, judged_effect, place_effect, client_effect}
use Rattle.rules.specs.declared.Fixed.{Fixed}
use Rattle.records.specs.Controls.{with_client}
use Rattle.steps.specs.Steps.{State, stored, owed_then, client_effect_in, client_state, client_step, line_step, octet_step}
use Rattle.steps.specs.Settled.{Settled}
use Rattle.queue.proofs.Still.{still-answers, still-auth}
use Rattle.steps.proofs.Quiet.{settles-same, settles-silent}
use Rattle.steps.proofs.Through.{Clear, octet-clear}
use Rattle.arrivals.proofs.Single.{step_to}

-- ---- a queue that keeps still

pub still-settled : (s : State) → is_still s.kinds 0 s.control.owed ≡ true → Settled s
still-settled s still =
    record {
      answers = λ _. still-answers s.kinds 0 s.control.owed still;
      auth = λ e. absurd (false≢true (sym (still-auth s.kinds 0 s.control.owed still) ∙ e));
    }

-- a plain kind put behind keeps a still queue still
pub pushed-still : (kinds : List ℕ) (owed : ℕ) → is_still kinds 0 owed ≡ true → is_still (set kinds owed 0) 0 (owed + 1) ≡ true
unfolding is_still choose
pushed-still [] owed h = rw (lt-leb (owed + 1) 0 (omega arith))
pushed-still (x ∷ l) zero h = refl
pushed-still (x ∷ l) (suc n) h =
    rw (lt-leb (suc n + 1) 0 (omega arith)) (subst (λ (b : Bool). choose b true (ltb x 2) ≡ true) (lt-leb (suc n) 0 (omega arith)) h)

-- ---- a client line

module _ (f : Fixed) (s : State) (place : s.control.client.place ≡ Place.Holding) (clear : Clear client s) (still : is_still s.kinds 0 s.control.owed ≡ true)
    (plain : is_plain (take s.control.client.held s.command) ≡ true) where
  abbrev pub plain_next : State
  plain_next =
      let c = s.control in
      record {
        control = with_client c c.switches (at Place.Holding 0) (c.owed + 1);
        command = s.command;
        reply = s.reply;
        kinds = set s.kinds c.owed 0;
      }

  line-ends : line_step f client s lf ≡ step_to plain_next (passed (take s.control.client.held s.command) ++ (lf ∷ [])) []
  unfolding line_step client_step client_state client_effect_in client_effect place_effect judged_effect command_effect command_owes command_switches choose owed_then pushed code_of stored gives_text passed
  line-ends =
      let c = s.control in
      let h = take c.client.held s.command in
      let e = ap (λ (p : Place). place_effect f c.switches p c.client.held h true) place
      ∙ ap (judged_effect c.switches) (plain_passes f c.switches h plain) in
      let settled = still-settled plain_next (pushed-still s.kinds c.owed still) in
      rw e (λ i. record {
        state = settles-same plain_next settled i;
        to_server = passed h ++ (lf ∷ []);
        to_client = settles-silent plain_next settled i;
      })

  pub client-line : octet_step f client s lf ≡ step_to plain_next (passed (take s.control.client.held s.command) ++ (lf ∷ [])) []
  client-line = octet-clear f s lf client clear refl ∙ line-ends

-- a line without 255 leaves as it came: into the room for its own octets, and by them
module _ (line : List ℕ) (none : every (is_not iac) line ≡ true) where
  pub room-itself : {n : ℕ} → length line < n → length (passed line) < n
  room-itself h = omega (arith, h, ap (λ (l : List ℕ). length l) (passed-itself line none))

  pub put-itself : (out : List ℕ) (at : ℕ) {next : ℕ} {after : List ℕ} → Put out at (line ++ (lf ∷ [])) next after → Put out at (passed line ++ (lf ∷ [])) next after
  put-itself out at = written out at (sym (ap (λ (l : List ℕ). l ++ (lf ∷ [])) (passed-itself line none)))
