-- `report::put_entry` meets its contract: STOPPED is put after the line, where both have room.
use mathlib.Core.Bool.{not}
use mathlib.Core.Path.{sym, ap, ◌∙◌}
use Prim.Native.Nat.{◌+◌}
use native.Mathlib.Omega.{arith}
use lib.ListN.{length}
use borrow.Author.Tests.{leb-true, leb-false, not-true, not-false}
use Rattle.rules.specs.Octets.{oct}
use Rattle.output.proofs.Placing.{no_room, joined, written}
use Rattle.fields.specs.Report.{entry_line}
use Rattle.fields.specs.Parts.{done_of}
use Rattle.report.specs.Replays.{entry_text}
use Rattle.report.proofs.Texts.{at_zero, other, stops, stop-length}
use Rattle.report.proofs.put_entry.Goals as goal

pub returns-then-printed-eq0 : goal.returns-then-printed-eq0
returns-then-printed-eq0 c =
    let a = c.args in
    let d = done_of a.taken c.from-printed.result a.to_server.now a.to_client.now in
    rw (← c.from-printed.ensures) (written a.out.now 0 (sym (at_zero a.number a.taken c.from-printed.result a.to_server.now a.to_client.now c.if-printed-eq0.true)) c.put_entry_line.ensures)

pub returns-then-not-line_fits : goal.returns-then-not-line_fits
returns-then-not-line_fits c =
    let a = c.args in
    rw (← c.from-printed.ensures) (no_room a.out.now 0 (entry_text a.number (done_of a.taken c.from-printed.result a.to_server.now a.to_client.now))
    (omega (arith, leb-false _ (length a.out.now) (sym c.line_fits.ensures ∙ not-true _ (ap not c.if-not-line_fits.true)), stop-length a.number (done_of a.taken c.from-printed.result a.to_server.now a.to_client.now) (other a.taken c.from-printed.result a.to_server.now a.to_client.now c.if-printed-eq0.false))))

pub returns : goal.returns
returns c =
    let a = c.args in
    let d = done_of a.taken c.from-printed.result a.to_server.now a.to_client.now in
    let ne = other a.taken c.from-printed.result a.to_server.now a.to_client.now c.if-printed-eq0.false in
    let fits = leb-true (8 + length (entry_line a.number d)) (length a.out.now) (sym c.line_fits.ensures ∙ not-false _ (ap not c.if-not-line_fits.false)) in
    rw (← c.from-printed.ensures) (written a.out.now 0 (sym (stops a.number d ne))
    (joined a.out.now 0 (entry_line a.number d) (oct "STOPPED\n") (λ _. c.put_entry_line-stop.ensures) (λ _. c.put.ensures)
    (omega (arith, stop-length a.number d ne, ap length (stops a.number d ne)))))
