use Rattle.std.proofs.Common.{◌<◌, get_or, sym, ◌∙◌, arith}
use Rattle.octets.proofs.Runs.{run_step, run-found, run-behind}
use Rattle.octets.proofs.run_end.Goals as goal

pub returns-then-not-passes : goal.returns-then-not-passes
returns-then-not-passes g c = λ p t.
    let l = c.loop-i in
    let octet : get_or c.args.s.now l.i 0 < 256 = omega (arith, c.type_inv.s l.i) in
    run-found p _ l.i _ c.loop-i-test.true (sym (t _ _ octet c.passes.ensures) ∙ c.if-not-passes.true) (l.invariant p t)

pub loop-i-preserved : goal.loop-i-preserved
loop-i-preserved g c = λ p t.
    let l = c.loop-i in
    let octet : get_or c.args.s.now l.i 0 < 256 = omega (arith, c.type_inv.s l.i) in
    run_step p _ l.i _ c.loop-i-test.true (sym (t _ _ octet c.passes.ensures) ∙ c.if-not-passes.false) (l.invariant p t)

pub returns : goal.returns
returns g c = λ p t. c.max.ensures ∙ run-behind p c.args.s.now c.args.from c.loop-i.i c.loop-i-test.false (c.loop-i.invariant p t) c.loop-i.auto.i-end
