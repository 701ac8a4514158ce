-- The invariant: what is left has the same text before its spaces.
use Rattle.std.proofs.Common.{◌≡◌, length}
use Rattle.rules.specs.Octets.{space, is, trim_end}
use Rattle.lines.proofs.without_spaces.Given as goal

abbrev pub invariant-loop-front : goal.invariant-loop-front
invariant-loop-front l = trim_end (is space) l.text ≡ trim_end (is space) l.rest

abbrev pub decreases-loop-front : goal.decreases-loop-front
decreases-loop-front l = length l.rest
