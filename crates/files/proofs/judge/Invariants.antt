-- `files::judge` meets its contract. The invariant: the entries from number `i` on and the total so far decide of the file.
use mathlib.Core.Path.{◌≡◌}
use Prim.Native.Nat.{◌+◌, ◌-◌, ◌*◌, ◌≤◌}
use lib.ListN.{length, drop}
use Rattle.files.specs.Contents.{entries, verdict}
use Rattle.files.proofs.Tables.{judged}
use Rattle.files.proofs.judge.Given as goal

abbrev pub invariant-loop-i : goal.invariant-loop-i
invariant-loop-i l = record {
  decides : verdict l.file ≡ judged (length l.file) l.total (entries (l.entries - l.i) (drop (2 + 4 * l.i) l.file));
  within : 2 + 4 * l.entries ≤ length l.file;
  few : l.total ≤ 65536 * (l.i + 1);
}
