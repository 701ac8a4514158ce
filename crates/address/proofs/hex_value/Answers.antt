-- `address::hex_value`. No loop: each range of octets is a law.
use mathlib.Core.Path.{sym}
use native.Mathlib.Omega.{arith}
use Rattle.address.proofs.Hex.{hex-digit, hex-capital, hex-small, hex-none}
use Rattle.address.proofs.hex_value.Goals as goal

pub returns-in-48-to-57 : goal.returns-in-48-to-57
returns-in-48-to-57 c = sym (hex-digit _ (omega arith) (omega arith))

pub returns-in-65-to-70 : goal.returns-in-65-to-70
returns-in-65-to-70 c = sym (hex-capital _ (omega arith) (omega arith))

pub returns-in-97-to-102 : goal.returns-in-97-to-102
returns-in-97-to-102 c = sym (hex-small _ (omega arith) (omega arith))

pub returns-in_default : goal.returns-in_default
returns-in_default c = sym (hex-none _ (λ p q. omega arith) (λ p q. omega arith) (λ p q. omega arith))

pub returns-in_default-2 : goal.returns-in_default-2
returns-in_default-2 c = sym (hex-none _ (λ p q. omega arith) (λ p q. omega arith) (λ p q. omega arith))

pub returns-in_default-3 : goal.returns-in_default-3
returns-in_default-3 c = sym (hex-none _ (λ p q. omega arith) (λ p q. omega arith) (λ p q. omega arith))

pub returns-in_default-4 : goal.returns-in_default-4
returns-in_default-4 c = sym (hex-none _ (λ p q. omega arith) (λ p q. omega arith) (λ p q. omega arith))
