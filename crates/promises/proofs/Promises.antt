-- From the session's contracts to what demand 3 assumes of a gateway: a fresh record, the promise of a call, and the offset.
use Rattle.std.specs.Prelude.{Some}
use mathlib.Core.Path.{◌≡◌, refl, sym, ap, ◌∙◌}
use mathlib.Core.List.{List}
use Prim.Native.Nat.{ℕ, zero, suc, ◌<◌}
use native.Mathlib.Omega.{arith}
use Rattle.rules.specs.Answers.{client, server, side_of}
use Rattle.rules.specs.Demand3.{Call, lent_server, lent_client}
use Rattle.rules.specs.declared.Answer.{Answer}
use Rattle.rules.specs.declared.Setup.{Setup}
use Rattle.records.specs.declared.Session.{Session}
use Rattle.setups.specs.declared.Prepared.{Prepared}
use Rattle.session.specs.declared.Called.{Called}
use Rattle.setups.specs.Setups.{prepared}
use Rattle.counts.specs.Counts.{offset}
use Rattle.session.specs.Calls.{buffer_after}
use Rattle.history.specs.Gateway.{Fresh, outcome_of, returned, Promise, gateway}

pub fresh-promised : (su : Setup) (r : Prepared) → r ≡ prepared su → r.answer ≡ Answer.Done → Fresh su r.session
fresh-promised su r e done =
    record { answer = ap (λ (p : Prepared). p.answer) (sym e) ∙ done; session = ap (λ (p : Prepared). p.session) e }

pub call-promised : (r : Session) (c : Call) (t : Called) (s k : List ℕ) → t ≡ (outcome_of r c).called
    → s ≡ buffer_after client (outcome_of r c) (lent_server c) → k ≡ buffer_after server (outcome_of r c) (lent_client c)
    → Promise r c (returned r c t s k)
call-promised r c t s k e p q =
    rw e (record {
      answer = refl;
      taken = refl;
      to_server = refl;
      to_client = refl;
      session = refl;
      server_buffer = p;
      client_buffer = q;
      pieces = refl;
    })

pub offset-promised : (r : Session) (d : ℕ) → d < 2 → offset r d ≡ Some (gateway.offset r (side_of d))
unfolding offset
offset-promised r zero h = refl
offset-promised r (suc zero) h = refl
offset-promised r (suc (suc d)) h = absurd (omega arith)
