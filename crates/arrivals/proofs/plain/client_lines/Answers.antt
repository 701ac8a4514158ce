use mathlib.Core.Path.{refl}
use native.Mathlib.Omega.{arith}
use Rattle.arrivals.proofs.PlainLines.{said-none, said-then, said-inside}
use Rattle.arrivals.proofs.plain.client_lines.Goals as goal

pub loop-i-init : goal.loop-i-init
loop-i-init c =
    let a = c.args in
    let p = c.requires in (
      said-none a.octets.now a.from a.start a.before a.lent.now a.to_server.now a.first p.within.0 p.counts.0 p.counts.1
          p.within.1 p.counts.2,
      p.within.0,
      refl,
    )

pub client_line-requires : goal.client_line-requires
client_line-requires c =
    let v = c.loop-i.invariant in record { counts = (v.0.held, c.if-owed-lt-OWED.true, v.0.still); within = (v.1, v.0.written) }

pub returns-in-Break : goal.returns-in-Break
returns-in-Break c =
    let v = c.loop-i.invariant in
    said-then v.0 c.in-Break.ensures

pub loop-i-smaller : goal.loop-i-smaller
loop-i-smaller c =
    let more = c.in-Continue.ensures.1 in
    let inside = c.loop-i-test.true in
    omega arith

pub loop-i-preserved : goal.loop-i-preserved
loop-i-preserved c =
    let v = c.loop-i.invariant in
    let r = c.client_line in
    let out = r.auto.to_server in
    let same = v.2 in
    let said = said-then v.0 c.in-Continue.ensures.0 in
    (said, said-inside said, omega arith)

pub returns-else-owed-lt-OWED : goal.returns-else-owed-lt-OWED
returns-else-owed-lt-OWED c = c.loop-i.invariant.0

pub returns-after-loop-i : goal.returns-after-loop-i
returns-after-loop-i c = c.loop-i.invariant.0
