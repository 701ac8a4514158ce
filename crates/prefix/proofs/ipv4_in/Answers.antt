-- `prefix::ipv4_in` meets its contract: the four octets fill their array.
use mathlib.Core.Path.{◌≡◌, ◌∙◌}
use Prim.Native.Nat.{◌+◌, ◌-◌}
use native.Mathlib.Omega.{arith}
use lib.ListN.{length, take, drop, length-drop}
use lib.Seq.{length-take-le}
use borrow.Author.Rules.{rules}
use Rattle.output.proofs.Front.{filled}
use Rattle.prefix.specs.Prefix.{extracted}
use Rattle.prefix.proofs.ipv4_in.Goals as goal

pub returns : goal.returns
unfolding extracted
returns c =
    let at = c.ipv4_at-at.result in
    let parts = c.without_reserved-parts.result in
    let size : length parts ≡ 15 = search rules in
    let four : at + 4 - at ≡ 4 = omega arith in
    let room : length (take 4 (drop at parts)) ≡ 4 = length-take-le 4 (drop at parts) (rw length-drop (omega arith)) in
    c.array_from.ensures ∙ rw four (filled 4 (take 4 (drop at parts)) room
    ∙ rw (c.ipv4_at-at.ensures.result, c.without_reserved-parts.ensures))
