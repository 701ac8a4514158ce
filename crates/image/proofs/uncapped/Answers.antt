-- `image::uncapped`: the cap lies far above.
use Rattle.std.proofs.Common.{◌-◌, ◌^◌, arith, le-leb}
use Rattle.rules.specs.Octets.{choose}
use Rattle.image.specs.Image.{capped}
use Rattle.image.proofs.uncapped.Goals as goal

pub returns : goal.returns
unfolding capped choose
returns c =
    let few = c.requires in
    rw (le-leb c.args.n (2 ^ 32 - 1) (omega arith))
