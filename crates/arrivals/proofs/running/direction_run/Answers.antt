-- Octets put behind those held, or behind those written: `held-run`, `given-run`.
use mathlib.Core.Path.{sym, ◌∙◌}
use Rattle.records.proofs.Refusals.{place-holding}
use Rattle.arrivals.proofs.Parts.{held-run, given-run}
use Rattle.arrivals.proofs.running.direction_run.Goals as goal

pub returns-then-is_holding : goal.returns-then-is_holding
returns-then-is_holding c =
    let a = c.args in
    let r = c.hold_run-j in
    let place = place-holding _ (sym c.is_holding.ensures ∙ c.if-is_holding.true) in
    held-run a.line.now a.out.now place r.ensures.within r.ensures.run r.ensures.buffer

pub returns : goal.returns
returns c =
    let a = c.args in
    let e = c.given_end-j.ensures in
    given-run a.line.now a.out.now c.requires.within.1 e.within e.run c.put-next.ensures
