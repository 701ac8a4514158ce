use mathlib.Core.Path.{refl, ◌∙◌}
use native.Mathlib.Omega.{arith}
use Rattle.arrivals.proofs.PlainReplies.{answered-none, answered-then}
use Rattle.arrivals.proofs.plain.server_lines.Goals as goal

pub loop-i-init : goal.loop-i-init
loop-i-init c =
    let a = c.args in
    let pre = c.requires in (
      answered-none a.octets.now a.from a.start a.before a.code a.lent.now a.to_client.now a.first pre.within.0 pre.counts.0 pre.counts.1 pre.within.1 pre.counts.2,
      refl,
    )

pub server_line-requires : goal.server_line-requires
server_line-requires c =
    let inv = c.loop-i.invariant in
    let more = c.loop-i-test.true in record { counts = (inv.0.held, inv.0.owed, inv.0.still); within = (omega arith, inv.0.written) }

pub returns-in-Break : goal.returns-in-Break
returns-in-Break c =
    let a = c.args in
    answered-then a.octets.now a.from a.start a.before a.code a.lent.now a.to_client.now a.first _ _ _ _ _ _
    c.loop-i.invariant.0 c.in-Break.ensures

pub loop-i-smaller : goal.loop-i-smaller
loop-i-smaller c =
    let on = c.in-Continue.ensures.1 in
    let more = c.loop-i-test.true in
    omega arith

pub loop-i-preserved : goal.loop-i-preserved
loop-i-preserved c =
    let a = c.args in
    let line = c.server_line in
    let inv = c.loop-i.invariant in
    let ran = answered-then a.octets.now a.from a.start a.before a.code a.lent.now a.to_client.now a.first _ _ _ _ _ _ inv.0 c.in-Continue.ensures.0 in (
      ran,
      line.auto.to_client ∙ inv.1,
    )

pub returns : goal.returns
returns c = c.loop-i.invariant.0
