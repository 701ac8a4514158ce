-- `promises::promised_arrival` meets its contract: it is the session's, whose three equations are the promise, and the types of the record's arrays say all
-- that progress asks of a record.
use native.Mathlib.Omega.{arith}
use lib.ListN.{length}
use mir.Syntax.{w8}
use mir.Val.{Fits}
use lib.ListN.{get_or}
use Rattle.rules.specs.Lines.{judged}
use Rattle.rules.specs.Demand3.{arrival}
use Rattle.session.specs.Bounds.{Shaped}
use Rattle.answers.proofs.Lengths.{octets-all}
use Rattle.answers.proofs.Bounds.{progress}
use Rattle.history.specs.Gateway.{outcome_of}
use Rattle.promises.proofs.Promises.{call-promised}
use borrow.Author.Rules.{rules}
use Rattle.promises.proofs.promised_arrival.Goals as goal
use Rattle.promises.proofs.promised_arrival.Goals.{After-slice_known-4-1}

-- the record's arrays have the lengths and the octets of their types, and its numbers fit
shaped : (c : After-slice_known-4-1) → Shaped c.args.session
unfolding judged
shaped c =
    let s = c.args.session in
    record {
      mapped = search rules;
      octets = octets-all s.fixed.mapped (λ i less. let fit : Fits w8 (get_or s.fixed.mapped i 0) = search rules in omega arith);
      command = search rules;
      reply = search rules;
      kinds = search rules;
      opening = omega arith;
      removed_up = omega arith;
      removed_down = omega arith;
    }

pub returns : goal.returns
unfolding outcome_of
returns c =
    let a = c.args in
    let e = c.arrive.ensures in
    let p = call-promised a.session (arrival a.direction a.octets.now a.to_server.now a.to_client.now) _ _ _ e.result e.buffers.0 e.buffers.1 in record { promise = p; progress = progress a.session a.direction a.octets.now (length a.to_server.now) (length a.to_client.now) (shaped (goal.at.returns c).After-slice_known-4-1) p.answer p.taken }
