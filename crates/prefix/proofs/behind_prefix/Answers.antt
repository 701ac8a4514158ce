-- `prefix::behind_prefix` meets its contract, by the placing.
use mathlib.Core.Path.{◌≡◌, sym, ◌∙◌}
use Prim.Native.Nat.{◌≤◌}
use native.Mathlib.Omega.{arith}
use lib.ListN.{length}
use lib.Seq.{length-take-le}
use borrow.Author.Rules.{rules}
use Rattle.prefix.specs.Prefix.{ipv4_at}
use Rattle.prefix.proofs.Placed.{placed-put}
use Rattle.prefix.proofs.behind_prefix.Goals as goal

pub slice_bounds-put-end-2 : goal.slice_bounds-put-end-2
slice_bounds-put-end-2 c =
    let given = c.without_reserved-given.result in
    let size : length given ≡ 15 = search rules in
    sym (length-take-le _ given (omega arith))

pub returns : goal.returns
returns c =
    let a = c.args in
    let size : length a.prefix ≡ 16 = search rules in
    let four : length a.ipv4 ≡ 4 = search rules in
    let at = c.ipv4_at-at.ensures.result in
    let most : ipv4_at a.length ≤ 11 = rw at at c.ipv4_at-at.ensures.most in
    let given = c.without_reserved-given.ensures in
    let put = c.put.ensures.1 in
    let put2 = c.put-2.ensures.1 in
    c.with_reserved.ensures ∙ rw (put2, put, at, given) (placed-put a.prefix a.length a.ipv4 size most four)
