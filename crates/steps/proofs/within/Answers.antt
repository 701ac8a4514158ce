-- `steps::within` meets its contract, test by test.
use mathlib.Core.Path.{sym, ◌∙◌}
use borrow.Author.Tests.{lt-leb}
use Rattle.steps.proofs.Nexts.{not-held, not-server, by-client}
use Rattle.steps.proofs.within.Goals as goal

pub returns-then-not-holdable : goal.returns-then-not-holdable
returns-then-not-holdable c =
    let a = c.args in
    not-held a.control a.server a.client a.written (sym c.if-not-holdable.ensures)

pub returns-then-written-server : goal.returns-then-written-server
returns-then-written-server c =
    let a = c.args in
    by-client a.control a.server a.client a.written (sym c.if-not-holdable.ensures) c.if-written-server.true

pub returns-else-written-server : goal.returns-else-written-server
returns-else-written-server c =
    let a = c.args in
    lt-leb a.written.server a.server c.if-written-server.false
    ∙ not-server a.control a.server a.client a.written (sym c.if-not-holdable.ensures) c.if-written-server.false
