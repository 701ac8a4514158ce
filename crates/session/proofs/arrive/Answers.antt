-- `session::arrive` meets its contract: a refusal, or what `take` left, whose texts have room.
use mathlib.Core.Path.{sym, ap, ◌∙◌}
use lib.Dec.{eqb}
use lib.ListN.{length}
use Rattle.session.specs.Calls.{session_after, arrived}
use Rattle.records.specs.Sound.{side_if}
use Rattle.steps.specs.Takes.{takes}
use Rattle.session.proofs.Lines.{laid-size, laid-fixed, laid-state, arrays-back}
use Rattle.records.proofs.Refusals.{countable}
use Rattle.arrivals.proofs.Going.{took-all}
use Rattle.records.proofs.Limits.{counts-holdable}
use Rattle.records.proofs.Sides.{side-tested}
use Rattle.session.proofs.Outcomes.{turned-away, arrives}
use Rattle.session.proofs.arrive.Goals as goal

pub returns-in-Some : goal.returns-in-Some
unfolding arrived
returns-in-Some c =
    let a = c.args in let both = turned-away a.session _ _ _ a.to_server.now a.to_client.now c.refusal_of.ensures c.in-Some.is c.refused.ensures in record { result = both.0; buffers = both.1 }

pub shape_of-to_server : goal.shape_of-to_server
shape_of-to_server c = c.take-t.auto.to_server

pub shape_of-to_client : goal.shape_of-to_client
shape_of-to_client c = c.take-t.auto.to_client

pub returns : goal.returns
returns c =
    let a = c.args in
    let s = a.session in
    let t = c.take-t in
    let lent = c.laid-lent in
    let sizes = lent.ensures.lengths in
    let free = sym c.refusal_of.ensures ∙ c.in_default.is in
    let k = countable s a.direction free in
    let size = laid-size s.fixed.client s.fixed.mapped s.fixed.server s.kinds s.command s.reply sizes.0 sizes.1 sizes.2 sizes.3 sizes.4 sizes.5 lent.result lent.ensures.arrays in
    let fixed = laid-fixed s.fixed.client s.fixed.mapped s.fixed.server s.kinds s.command s.reply sizes.0 sizes.1 sizes.2 sizes.3 sizes.4 sizes.5 lent.result lent.ensures.arrays s.fixed.supported s.fixed.strict in
    let state = laid-state s.fixed.client s.fixed.mapped s.fixed.server s.kinds s.command s.reply sizes.0 sizes.1 sizes.2 sizes.3 sizes.4 sizes.5 lent.result lent.ensures.arrays s.control in
    let m = length a.to_server.now in
    let n = length a.to_client.now in
    let side = side_if (eqb a.direction 0) in
    let all = took-all s.fixed.supported s.fixed.strict side s.control lent.result a.octets.now m n (counts-holdable s.control k.owed k.command k.reply) size
    ∙ (λ i. takes (fixed i) side (state i) a.octets.now m n) in
    let after = c.after.ensures
    ∙ ap (session_after s side t.result.taken t.result.written.server t.result.written.client)
    (arrays-back t.result.control t.new.lent (t.auto.lent ∙ size) c.array_from-left.ensures c.array_from-command.ensures c.array_from-reply.ensures) in let both = arrives s a.direction a.octets.now a.to_server.now a.to_client.now side (side-tested a.direction) free
    all
    t.ensures.given.0.0
    t.ensures.given.0.1
    t.ensures.given.1
    after in record { result = both.0; buffers = both.1 }
