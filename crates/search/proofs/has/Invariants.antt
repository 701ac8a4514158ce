-- The loop's invariant: the two marks tell whether an LF or a 255 is among the octets gone over.
use Rattle.std.proofs.Common.{◌≡◌, ◌||◌, not, take}
use Rattle.rules.specs.Octets.{every}
use Rattle.rules.specs.Lines.{is_ordinary}
use Rattle.search.proofs.has.Given as goal

abbrev pub invariant-loop-b : goal.invariant-loop-b
invariant-loop-b l = (l.lf || l.iac) ≡ not (every is_ordinary (take l.b-index l.block))
