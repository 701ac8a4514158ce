use Rattle.std.proofs.Common.{sym, ap, not, ◌∙◌, get_or}
use Rattle.rules.specs.Lines.{is_ordinary}
use Rattle.octets.proofs.Runs.{run_step, run-found, run-behind}
use Rattle.search.proofs.Blocks.{ordinary}
use Rattle.search.proofs.ordinary_end.Goals as goal

pub loop-i-init : goal.loop-i-init
loop-i-init c = sym c.skip_blocks-start.ensures

pub returns-then-x : goal.returns-then-x
returns-then-x c =
    let l = c.loop-i in
    let x = get_or c.args.octets.now l.i 0 in
    run-found is_ordinary _ l.i _ c.loop-i-test.true (ordinary x ∙ ap not c.if-x.true) l.invariant

pub loop-i-preserved : goal.loop-i-preserved
loop-i-preserved c =
    let l = c.loop-i in
    let x = get_or c.args.octets.now l.i 0 in
    run_step is_ordinary _ l.i _ c.loop-i-test.true (ordinary x ∙ ap not c.if-x.false) l.invariant

pub returns : goal.returns
returns c =
    c.max.ensures
    ∙ (run-behind is_ordinary c.args.octets.now c.skip_blocks-start.result c.loop-i.i c.loop-i-test.false (c.skip_blocks-start.ensures ∙ c.loop-i.invariant) c.loop-i.auto.i-end ∙ c.skip_blocks-start.ensures)
