use mathlib.Core.Path.{refl}
use native.Mathlib.Omega.{arith}
use Rattle.rules.specs.Octets.{iac, is_not}
use Rattle.rules.specs.Lines.{passed}
use Rattle.octets.proofs.Runs.{run_inside}
use Rattle.output.proofs.Placing.{nothing_put}
use Rattle.gives.proofs.Doubling.{run-put, octet-put, all-put}
use Rattle.gives.proofs.put_doubled.Goals as goal

pub loop-i-init : goal.loop-i-init
unfolding passed
loop-i-init c = (λ _. nothing_put _ _, omega arith, refl)

pub slice_bounds-put-count : goal.slice_bounds-put-count
slice_bounds-put-count c = omega arith

pub slice_bounds-put-start : goal.slice_bounds-put-start
slice_bounds-put-start c = omega arith

pub slice_bounds-put-end : goal.slice_bounds-put-end
slice_bounds-put-end c =
    let l = c.loop-i in
    run_inside (is_not iac) _ l.i _ l.invariant.1 c.find_iac-e.ensures

pub returns-then-e-held : goal.returns-then-e-held
returns-then-e-held c =
    let a = c.args in
    let l = c.loop-i in
    let e = c.find_iac-e in
    all-put a.out.now a.at a.held.now e.result
    (run-put a.out.now a.at a.held.now l.i l.invariant.0 e.result e.ensures c.put-next.ensures) (omega arith)

pub bounds-held-e : goal.bounds-held-e
bounds-held-e c = omega arith

pub overflow_add-i : goal.overflow_add-i
overflow_add-i c = omega arith

pub loop-i-smaller : goal.loop-i-smaller
loop-i-smaller c = omega arith

pub loop-i-preserved : goal.loop-i-preserved
loop-i-preserved c =
    let a = c.args in
    let l = c.loop-i in
    let e = c.find_iac-e in (
      octet-put a.out.now a.at a.held.now e.result
          (run-put a.out.now a.at a.held.now l.i l.invariant.0 e.result e.ensures c.put-next.ensures)
          (omega arith) c.put_line_octet-next.ensures,
      omega arith,
      omega arith,
    )

pub shape_of-out : goal.shape_of-out
shape_of-out c = omega arith

pub returns : goal.returns
returns c =
    let a = c.args in
    all-put a.out.now a.at a.held.now c.loop-i.i c.loop-i.invariant.0 c.loop-i-test.false
