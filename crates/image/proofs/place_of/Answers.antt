-- `image::place_of`: by the cases of the number.
use Rattle.std.proofs.Common.{sym, ap}
use Rattle.image.specs.Image.{place_of}
use native.Mathlib.Omega.{arith}
use Rattle.image.proofs.place_of.Goals as goal

pub returns-in-0 : goal.returns-in-0
unfolding place_of
returns-in-0 c = ap place_of (sym c.in-0.is)

pub returns-in-1 : goal.returns-in-1
unfolding place_of
returns-in-1 c = ap place_of (sym c.in-1.is)

pub returns-in-2 : goal.returns-in-2
unfolding place_of
returns-in-2 c = ap place_of (sym c.in-2.is)

pub returns-in_default : goal.returns-in_default
unfolding place_of
returns-in_default c = grind arith
