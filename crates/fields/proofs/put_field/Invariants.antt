-- `fields::put_field` meets its contract. The invariant: the octets from there on remain to be shown, and all have room.
use Prim.Native.Nat.{◌+◌, ◌≤◌}
use lib.ListN.{length, drop}
use Rattle.queue.proofs.Placing.{Remaining}
use Rattle.fields.specs.Report.{shown_all, field}
use Rattle.fields.proofs.put_field.Given as goal

abbrev pub invariant-loop-x : goal.invariant-loop-x
invariant-loop-x l = record {
  remains : Remaining l.initial.out l.at (field l.octets) l.out l.next (shown_all (drop l.x-index l.octets));
  room : l.at + length (field l.octets) ≤ length l.initial.out;
}
