-- `output::put_block` meets its contract: the array begins with what `src` is, and so does the part written over.
use Rattle.std.proofs.Common.{◌≡◌, ap, ◌∙◌, length, take, replicate}
use borrow.Rule.Slice.PartMut.{put_mid}
use lib.Seq.{take_at}
use Rattle.output.proofs.Placing.{part-put}
use Rattle.output.proofs.put_block.Goals as goal

pub returns : goal.returns
returns c =
    let a = c.args in
    let n = length a.src.now in
    let moved = c.copy_from_slice in
    let front : take n (put_mid 0 n (replicate 1024 0) moved.new.self) ≡ moved.new.self = take_at moved.new.self _ n (ap length moved.ensures.after) in
    rw (c.copy_from_slice-2.ensures.after ∙ front ∙ moved.ensures.after) (part-put a.out.now a.at a.src.now c.requires.1)
