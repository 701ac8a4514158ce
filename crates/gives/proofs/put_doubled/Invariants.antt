-- The loop's invariant: what the octets before i give is put.
use mathlib.Core.Path.{◌≡◌}
use Prim.Native.Nat.{◌-◌, ◌≤◌}
use lib.ListN.{length, take}
use Rattle.rules.specs.Lines.{passed}
use Rattle.output.specs.Buffer.{PutInRoom}
use Rattle.gives.proofs.put_doubled.Given as goal

abbrev pub invariant-loop-i : goal.invariant-loop-i
invariant-loop-i l =
    (PutInRoom l.initial.out l.at (passed (take l.i l.held)) l.next l.out) × (l.i ≤ length l.held) × (length l.out ≡ length l.initial.out)

abbrev pub decreases-loop-i : goal.decreases-loop-i
decreases-loop-i l = length l.held - l.i
