-- The loop's invariant: n is how many octets those gone over give, from the front on.
use mathlib.Core.Path.{◌≡◌}
use Prim.Native.Nat.{◌+◌, ◌≤◌}
use lib.ListN.{length, take}
use Rattle.rules.specs.Lines.{passed}
use Rattle.gives.proofs.passed_length.Given as goal

abbrev pub invariant-loop-x : goal.invariant-loop-x
invariant-loop-x l = (l.n ≡ length (passed (take (l.front + l.x-index) l.held))) × (l.front + l.x-index ≤ length l.held)
