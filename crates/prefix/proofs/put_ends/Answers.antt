-- `prefix::put_ends` meets its contract: what is put at last goes to the end of its source.
use mathlib.Core.Path.{◌≡◌, ◌∙◌}
use Prim.Native.Nat.{◌-◌}
use native.Mathlib.Omega.{arith}
use lib.ListN.{length, take, drop, length-drop}
use lib.Seq.{take_all}
use Rattle.prefix.proofs.put_ends.Goals as goal

pub returns : goal.returns
returns c =
    let a = c.args in
    let size = length-drop a.from a.src.now in
    let rest : take (length a.src.now - a.from) (drop a.from a.src.now) ≡ drop a.from a.src.now =
    take_all (length a.src.now - a.from) (drop a.from a.src.now) (omega arith) in
    c.put-2.ensures.1 ∙ rw (c.put.ensures.1, rest)
