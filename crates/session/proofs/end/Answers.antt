-- `session::end` meets its contract: a refusal, or the end of one side, with the other buffer as it was.
use mathlib.Core.Path.{◌≡◌, sym, ◌∙◌}
use Rattle.std.specs.Prelude.{None}
use Rattle.records.specs.Sound.{refusal_of}
use Rattle.session.specs.Calls.{end_called}
use Rattle.records.proofs.Refusals.{otherwise}
use Rattle.session.proofs.Outcomes.{client-ended, server-ended, turned-away}
use Rattle.session.proofs.end.Goals as goal
use Rattle.session.proofs.end.Goals.{In_default}

-- nothing refuses the end
module _ (c : In_default) where
  free : refusal_of c.args.session c.args.direction ≡ None
  free = sym c.refusal_of.ensures ∙ otherwise c.refusal_of.result c.in_default.not-Some

pub returns-in-Some : goal.returns-in-Some
unfolding end_called
returns-in-Some c =
    let a = c.args in let both = turned-away a.session _ _ _ a.to_server.now a.to_client.now c.refusal_of.ensures c.in-Some.is c.refused.ensures in record { result = both.0; buffers = both.1 }

pub returns-then-direction-eq0 : goal.returns-then-direction-eq0
returns-then-direction-eq0 c =
    let a = c.args in let both = client-ended a.session a.direction a.to_server.now a.to_client.now (free (goal.at.returns-then-direction-eq0 c).In_default) c.if-direction-eq0.true c.end_held.ensures in record { result = both.0; buffers = both.1 }

pub returns : goal.returns
returns c =
    let a = c.args in let both = server-ended a.session a.direction a.to_server.now a.to_client.now (free (goal.at.returns c).In_default) c.if-direction-eq0.false c.end_held-2.ensures in record { result = both.0; buffers = both.1 }
