-- `output::put` meets its contract. The invariant: the octets of `src` that are done are put from `at` on.
use mathlib.Core.Path.{◌≡◌}
use Prim.Native.Nat.{◌+◌, ◌≤◌, ◌-◌}
use lib.ListN.{length, take}
use Rattle.output.specs.Buffer.{put_at}
use Rattle.output.proofs.put.Given as goal

abbrev pub invariant-loop-done : goal.invariant-loop-done
invariant-loop-done l =
    (l.out ≡ put_at l.initial.out l.at (take l.done l.src)) × (l.done ≤ length l.src) × (length l.out ≡ length l.initial.out) × (l.at + length l.src ≤ length l.initial.out)

abbrev pub decreases-loop-done : goal.decreases-loop-done
decreases-loop-done l = length l.src - l.done
