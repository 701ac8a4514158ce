-- `address::filled`. No loop: two copies into zeros are what the definition puts together.
use mathlib.Core.Path.{refl}
use Rattle.address.proofs.Wholes.{filled-long, filled-read}
use Rattle.address.proofs.filled.Goals as goal

pub returns-then-head-tail-gt14 : goal.returns-then-head-tail-gt14
returns-then-head-tail-gt14 c = filled-long _ _ c.if-head-tail-gt14.true

pub returns : goal.returns
returns c =
    rw (c.copy_from_slice.ensures.after, c.copy_from_slice-2.ensures.after)
    (filled-read c.args.head.now c.args.tail.now _ refl c.if-head-tail-gt14.false)
