-- `gives::octet_length` meets its contract: 255 gives two octets, another one.
use mathlib.Core.Path.{sym, ap}
use native.Mathlib.Omega.{arith}
use lib.ListN.{length}
use Rattle.gives.proofs.Doubling.{passed-iac, passed-other}
use Rattle.gives.proofs.octet_length.Goals as goal

pub returns-then-x-eq-IAC : goal.returns-then-x-eq-IAC
returns-then-x-eq-IAC c = record { result = sym (ap length (passed-iac _ c.if-x-eq-IAC.true)); most = omega arith }

pub returns-else-x-eq-IAC : goal.returns-else-x-eq-IAC
returns-else-x-eq-IAC c = record { result = sym (ap length (passed-other _ c.if-x-eq-IAC.false)); most = omega arith }
