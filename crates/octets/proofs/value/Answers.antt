use Rattle.std.proofs.Common.{refl, sym, ◌∙◌, ◌<◌, ◌≤◌, ◌+◌, ◌*◌, ◌-◌, arith, get_or}
use Rattle.rules.specs.Octets.{digit, value}
use Rattle.octets.proofs.Ranges.{within-bounds}
use Rattle.octets.proofs.Runs.{every_get}
use Rattle.octets.proofs.Values.{value-more, value-end, between-over, between-under, between_in}
use Rattle.octets.proofs.value.Goals as goal

pub loop-x-init : goal.loop-x-init
unfolding value
loop-x-init c = (omega arith, refl)

pub overflow_sub-x : goal.overflow_sub-x
overflow_sub-x c = (within-bounds 48 57 _ (every_get digit _ c.loop-x.x-index c.requires c.loop-x-test.true)).0

pub returns-then-n-from : goal.returns-then-n-from
returns-then-n-from c =
    let l = c.loop-x in
    let n = l.n * 10 + (get_or c.args.s.now l.x-index 0 - 48) in
    let over : c.args.high < n = omega (arith, c.from.ensures, c.from-in-loop-x.ensures) in
    sym (between-over _ _ _ _ _ (l.invariant.1 ∙ value-more _ l.n l.x-index c.loop-x-test.true) over)

pub loop-x-preserved : goal.loop-x-preserved
loop-x-preserved c =
    let l = c.loop-x in
    (omega (arith, c.from-in-loop-x.ensures), rw c.from.ensures (l.invariant.1 ∙ value-more _ l.n l.x-index c.loop-x-test.true))

pub returns-then-n-from-2 : goal.returns-then-n-from-2
returns-then-n-from-2 c =
    let l = c.loop-x in
    let under : l.n < c.args.low = omega (arith, c.from-2.ensures) in
    sym (between-under _ _ _ _ (l.invariant.1 ∙ value-end _ l.n l.x-index c.loop-x-test.false) under)

pub returns : goal.returns
returns c =
    let l = c.loop-x in
    let enough : c.args.low ≤ l.n = omega (arith, c.from-2.ensures) in
    sym (between_in _ _ _ _ (l.invariant.1 ∙ value-end _ l.n l.x-index c.loop-x-test.false) enough l.invariant.0)
