-- The loop's invariant: the search for 255 from `from` ends where the one from `i` ends.
use mathlib.Core.Path.{◌≡◌}
use Prim.Native.Nat.{◌+◌, ◌-◌}
use lib.ListN.{length, drop}
use Rattle.rules.specs.Octets.{iac, is_not, run}
use Rattle.search.proofs.find_iac.Given as goal

abbrev pub invariant-loop-i : goal.invariant-loop-i
invariant-loop-i l = l.from + run (is_not iac) (drop l.from l.octets) ≡ l.i + run (is_not iac) (drop l.i l.octets)

abbrev pub decreases-loop-i : goal.decreases-loop-i
decreases-loop-i l = length l.octets - l.i
