use Rattle.std.proofs.Common.{refl, get_or, ◌∙◌}
use Rattle.rules.specs.Octets.{every}
use Rattle.rules.specs.Lines.{is_ordinary}
use Rattle.search.proofs.Blocks.{stops-more, ordinary, side_by_side}
use Rattle.search.proofs.has.Goals as goal

pub loop-b-init : goal.loop-b-init
unfolding every
loop-b-init c = refl

pub loop-b-preserved : goal.loop-b-preserved
loop-b-preserved c =
    let l = c.loop-b in
    let s = c.args.block.now in
    side_by_side l.lf l.iac _ _
    ∙ stops-more is_ordinary s l.b-index _ _ c.loop-b-test.true (ordinary (get_or s l.b-index 0)) l.invariant
