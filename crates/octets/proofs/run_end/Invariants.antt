-- The loop's invariant: the run from `from` ends where the run from `i` ends.
use Rattle.std.proofs.Common.{◌≡◌, ℕ, Bool, ◌+◌, drop}
use Rattle.rules.specs.Octets.{run}
use Rattle.octets.specs.Tests.{Tests}
use Rattle.octets.proofs.run_end.Given as goal

abbrev pub invariant-loop-i : goal.invariant-loop-i
invariant-loop-i g l =
    (p : ℕ → Bool) → Tests (goal.F-post g l.passes) p → l.from + run p (drop l.from l.s) ≡ l.i + run p (drop l.i l.s)
