use mathlib.Core.Path.{◌≡◌, ap, ◌∙◌}
use mathlib.Core.List.{[], ◌∷◌}
use Prim.Native.Nat.{ℕ, ◌+◌}
use native.Mathlib.Nat.{add-zero}
use native.Mathlib.Omega.{arith}
use lib.ListN.{length}
use Rattle.rules.specs.Lines.{passed}
use Rattle.gives.proofs.Doubling.{counted-front, counted_next, counted-most, octet-behind}
use Rattle.gives.proofs.passed_length.Goals as goal

pub slice_bounds-x-items-count : goal.slice_bounds-x-items-count
slice_bounds-x-items-count c = (counted-front c.args.held.now c.find_iac-front.result c.find_iac-front.ensures).1

pub slice_bounds-x-items-start : goal.slice_bounds-x-items-start
slice_bounds-x-items-start c = (counted-front c.args.held.now c.find_iac-front.result c.find_iac-front.ensures).1

pub loop-x-init : goal.loop-x-init
loop-x-init c =
    rw (add-zero c.find_iac-front.result) (counted-front c.args.held.now c.find_iac-front.result c.find_iac-front.ensures)

pub overflow_add-n : goal.overflow_add-n
overflow_add-n c =
    let l = c.loop-x in
    let most = counted-most c.args.held.now (c.find_iac-front.result + l.x-index) l.invariant.1 in
    omega (arith, c.well_formed.0.1, c.octet_length-n.ensures.most)

pub loop-x-preserved : goal.loop-x-preserved
loop-x-preserved c =
    let l = c.loop-x in
    let held = c.args.held.now in
    let front = c.find_iac-front.result in
    let there = octet-behind held front l.x-index c.loop-x-test.true in
    let more = c.octet_length-n.ensures.result ∙ ap (λ (x : ℕ). length (passed (x ∷ []))) there.0 in
    let next : front + (l.x-index + 1) ≡ front + l.x-index + 1 = omega arith in
    (rw next (counted_next held (front + l.x-index) l.n _ there.1 l.invariant.0 more), omega (arith, there.1))
