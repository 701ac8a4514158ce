-- `image::telnet_of`: by the cases of the number.
use Rattle.std.proofs.Common.{sym, ap}
use Rattle.image.specs.Image.{telnet_of}
use native.Mathlib.Omega.{arith}
use Rattle.image.proofs.telnet_of.Goals as goal

pub returns-in-0 : goal.returns-in-0
unfolding telnet_of
returns-in-0 c = ap telnet_of (sym c.in-0.is)

pub returns-in-1 : goal.returns-in-1
unfolding telnet_of
returns-in-1 c = ap telnet_of (sym c.in-1.is)

pub returns-in-2 : goal.returns-in-2
unfolding telnet_of
returns-in-2 c = ap telnet_of (sym c.in-2.is)

pub returns-in-3 : goal.returns-in-3
unfolding telnet_of
returns-in-3 c = ap telnet_of (sym c.in-3.is)

pub returns-in-4 : goal.returns-in-4
unfolding telnet_of
returns-in-4 c = ap telnet_of (sym c.in-4.is)

pub returns-in-5 : goal.returns-in-5
unfolding telnet_of
returns-in-5 c = ap telnet_of (sym c.in-5.is)

pub returns-in-6 : goal.returns-in-6
unfolding telnet_of
returns-in-6 c = ap telnet_of (sym c.in-6.is)

pub returns-in_default : goal.returns-in_default
unfolding telnet_of
returns-in_default c = grind arith
