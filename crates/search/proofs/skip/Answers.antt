use Rattle.std.proofs.Common.{◌≤◌, ◌+◌, length, arith}
use Rattle.rules.specs.Lines.{is_ordinary}
use Rattle.search.proofs.Blocks.{block-step, block-free}
use Rattle.search.proofs.skip.Goals as goal

pub loop-at-preserved : goal.loop-at-preserved
loop-at-preserved c =
    let l = c.loop-at in
    let whole : l.at + c.args.size ≤ length c.args.octets.now = omega (arith, c.requires) in
    block-step is_ordinary _ l.at _ _ (omega arith) whole (block-free _ _ c.has.ensures c.if-not-has.true) l.invariant
