-- The loop's invariant: the run from `from` ends where the run from `i` ends.
use Rattle.std.proofs.Common.{◌≡◌, ◌+◌, drop}
use Rattle.rules.specs.Octets.{run}
use Rattle.rules.specs.Lines.{is_ordinary}
use Rattle.search.proofs.ordinary_end.Given as goal

abbrev pub invariant-loop-i : goal.invariant-loop-i
invariant-loop-i l = l.from + run is_ordinary (drop l.from l.octets) ≡ l.i + run is_ordinary (drop l.i l.octets)
