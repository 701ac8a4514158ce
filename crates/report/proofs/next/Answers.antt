-- `report::next` meets its contract: the entry that is due is run on its body, and its line put.
use mathlib.Core.Path.{ap}
use mathlib.Core.Bool.{not}
use mathlib.Core.Path.{sym, ◌∙◌}
use native.Mathlib.Omega.{arith}
use lib.Seq.{length-take-le}
use borrow.Author.Tests.{not-true, not-false}
use Rattle.fields.specs.Report.{out_room}
use Rattle.report.proofs.Due.{due, body-within, body-most}
use Rattle.report.proofs.Parts.{over, next-put}
use Rattle.report.proofs.next.Goals as goal

pub returns-then-not-is_due : goal.returns-then-not-is_due
returns-then-not-is_due c =
    let a = c.args in let both = over a.file.now a.replay a.out.now (sym c.is_due.ensures ∙ not-true _ (ap not c.if-not-is_due.true)) in record { result = both.0; buffer = both.1 }

pub overflow_add-body_end : goal.overflow_add-body_end
overflow_add-body_end c =
    let a = c.args in
    omega (arith, body-within a.file.now a.replay (sym c.is_due.ensures ∙ not-false _ (ap not c.if-not-is_due.false)) c.pair_at.ensures.result)

pub bounds-file-at : goal.bounds-file-at
bounds-file-at c =
    let a = c.args in
    omega (arith, (due a.file.now a.replay (sym c.is_due.ensures ∙ not-false _ (ap not c.if-not-is_due.false))).within)

pub slice_bounds-run_entry-end : goal.slice_bounds-run_entry-end
slice_bounds-run_entry-end c =
    let a = c.args in
    let within = body-within a.file.now a.replay (sym c.is_due.ensures ∙ not-false _ (ap not c.if-not-is_due.false)) c.pair_at.ensures.result in
    omega arith

pub run_entry-ran-requires : goal.run_entry-ran-requires
unfolding out_room
run_entry-ran-requires c =
    let a = c.args in
    let n = c.pair_at in
    let e = (sym c.is_due.ensures ∙ not-false _ (ap not c.if-not-is_due.false)) in record { most = body-most a.file.now a.replay e n.ensures.result; server = sym c.empty-to_server.ensures; client = sym c.empty-to_client.ensures }

pub overflow_add-after : goal.overflow_add-after
overflow_add-after c =
    let a = c.args in
    omega (arith, (due a.file.now a.replay (sym c.is_due.ensures ∙ not-false _ (ap not c.if-not-is_due.false))).number)

pub slice_bounds-put_entry-end : goal.slice_bounds-put_entry-end
slice_bounds-put_entry-end c = let k = c.run_entry-ran in sym (length-take-le _ _ k.ensures.server)

pub slice_bounds-put_entry-end-2 : goal.slice_bounds-put_entry-end-2
slice_bounds-put_entry-end-2 c = let k = c.run_entry-ran in sym (length-take-le _ _ k.ensures.client)

pub returns : goal.returns
returns c =
    let a = c.args in
    let n = c.pair_at in
    let k = c.run_entry-ran in
    let put = c.put_entry-written in let both = next-put a.file.now a.replay (sym c.is_due.ensures ∙ not-false _ (ap not c.if-not-is_due.false)) n.result n.ensures.result k.result k.new.to_server k.new.to_client (k.ensures.result, (k.ensures.server, k.ensures.client)) a.out.now
    c.left_after.ensures
    put.ensures.0
    put.ensures.1
    c.part_of.ensures in record { result = both.0; buffer = both.1 }
