-- The loop's invariant: the run from `at` ends where the run from `from` ends.
use mathlib.Core.Path.{◌≡◌}
use Prim.Native.Nat.{◌+◌, ◌-◌}
use lib.ListN.{length, drop}
use Rattle.rules.specs.Octets.{run}
use Rattle.rules.specs.Lines.{is_ordinary}
use Rattle.search.proofs.skip.Given as goal

abbrev pub invariant-loop-at : goal.invariant-loop-at
invariant-loop-at l = l.from + run is_ordinary (drop l.from l.octets) ≡ l.at + run is_ordinary (drop l.at l.octets)

abbrev pub decreases-loop-at : goal.decreases-loop-at
decreases-loop-at l = length l.octets - l.at
