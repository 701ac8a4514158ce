-- The loop's invariant: n is what the digits read so far write, and is not over high.
use Rattle.std.proofs.Common.{◌≡◌, ◌≤◌, drop}
use Rattle.rules.specs.Octets.{value, value_from}
use Rattle.octets.proofs.value.Given as goal

abbrev pub invariant-loop-x : goal.invariant-loop-x
invariant-loop-x l = (l.n ≤ l.high) × (value l.s ≡ value_from l.n (drop l.x-index l.s))
