-- `address::Octets::push_number`. No loop: a number that was read is an octet.
use mathlib.Core.Path.{sym}
use native.Mathlib.Omega.{arith}
use Rattle.address.proofs.Readings.{reads-none}
use Rattle.address.proofs.Numbers.{number-le, octet-none, octet-some}
use Rattle.rules.specs.Address.{both}
use Rattle.address.proofs.Octets.push_number.Goals as goal

pub returns-in_err-value : goal.returns-in_err-value
returns-in_err-value c = rw c.from_residual.ensures (reads-none _ (sym (octet-none _ (sym c.in_err-value.ensures))))

pub overflow_cast-value : goal.overflow_cast-value
overflow_cast-value c = omega (arith, number-le _ _ _ _ _ (sym c.in_ok-value.ensures))

pub returns : goal.returns
unfolding both
returns c = rw (octet-some _ _ (sym c.in_ok-value.ensures)) c.push.ensures
