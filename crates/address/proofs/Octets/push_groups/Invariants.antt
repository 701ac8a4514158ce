-- `address::Octets::push_groups`. The invariant: the whole is read where what was read is followed by the groups of the rest.
use Prim.Native.Nat.{◌≤◌}
use lib.ListN.{length}
use Rattle.std.specs.Prelude.{Some}
use Rattle.rules.specs.Octets.{colon, parts}
use Rattle.rules.specs.Address.{both, groups}
use Rattle.address.specs.Text.{Reads}
use Rattle.address.proofs.Octets.push_groups.Given as goal

abbrev pub invariant-loop-end : goal.invariant-loop-end
invariant-loop-end l =
    Reads (both (Some l.self) (groups l.ends (parts colon l.rest))) (both (Some l.initial.self) (groups l.ends (parts colon l.text))) × (length l.rest ≤ length l.text)

abbrev pub decreases-loop-end : goal.decreases-loop-end
decreases-loop-end l = length l.rest
