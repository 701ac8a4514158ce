-- `arrivals::take_each` meets its contract. The invariant, `Going`: what is taken in all is what was taken so far and what is taken from the present state.
use mathlib.Core.Path.{◌≡◌}
use Prim.Native.Nat.{◌-◌, ◌≤◌}
use lib.ListN.{length}
use Rattle.records.specs.Sound.{side_if}
use Rattle.steps.specs.Takes.{addresses_lent, fixed_lent, state_lent, core_lent}
use Rattle.arrivals.proofs.Going.{Going}
use Rattle.arrivals.proofs.take_each.Given as goal

abbrev pub invariant-loop-i : goal.invariant-loop-i
invariant-loop-i l =
    Going (fixed_lent l.supported l.strict l.initial.lent) (side_if l.from_client) l.octets (state_lent l.initial.control l.initial.lent) l.initial.to_server l.initial.to_client
    (core_lent l.control l.lent l.to_server l.to_client l.written) l.i
    × (l.i ≤ length l.octets) × (addresses_lent l.lent ≡ addresses_lent l.initial.lent)

abbrev pub decreases-loop-i : goal.decreases-loop-i
decreases-loop-i l =
    length l.octets - l.i
