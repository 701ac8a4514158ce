-- `address::hex_group`. The invariant: the digits passed are hex digits, and the value goes on from theirs; n of them are below 16 ^ n.
use mathlib.Core.Path.{◌≡◌}
use Prim.Native.Nat.{◌<◌, ◌^◌}
use lib.ListN.{drop}
use Rattle.rules.specs.Octets.{every}
use Rattle.rules.specs.Address.{hex_digit, hex_from}
use Rattle.address.proofs.hex_group.Given as goal

abbrev pub invariant-loop-digit : goal.invariant-loop-digit
invariant-loop-digit l =
    (l.value < 16 ^ l.digit-index) × (every hex_digit l.digits ≡ every hex_digit (drop l.digit-index l.digits)) × (hex_from 0 l.digits ≡ hex_from l.value (drop l.digit-index l.digits))
