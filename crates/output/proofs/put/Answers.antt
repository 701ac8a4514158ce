use Rattle.std.proofs.Common.{◌≡◌, ◌+◌, ◌-◌, ◌≤◌, refl, sym, ap, ◌∙◌, not, length, take, drop}
use native.Mathlib.Omega.{arith}
use lib.ListN.{get_or, length-drop}
use lib.Seq.{take-length, length-take-le}
use Rattle.output.specs.Buffer.{put_at}
use Rattle.output.proofs.Placing.{refused, room, nothing_put, put_next, after-fits, one-put, only-octet}
use Rattle.output.proofs.put.Goals as goal

pub returns-then-not-has_room : goal.returns-then-not-has_room
returns-then-not-has_room c =
    let a = c.args in
    refused a.out.now a.at a.src.now c.has_room.ensures refl (ap not c.if-not-has_room.true)

pub returns-then-src-eq1 : goal.returns-then-src-eq1
returns-then-src-eq1 c =
    let a = c.args in
    let fit = room a.out.now a.at a.src.now c.has_room.ensures refl (ap not c.if-not-has_room.false) in
    let one = c.if-src-eq1.true in (
      rw (after-fits a.out.now a.at a.src.now fit) (omega arith),
      one-put a.out.now a.at (get_or a.src.now 0 0) (omega arith) ∙ ap (put_at a.out.now a.at) (sym (only-octet a.src.now one)),
    )

pub loop-done-init : goal.loop-done-init
loop-done-init c =
    let a = c.args in (
      (nothing_put a.out.now a.at).1,
      omega arith,
      refl,
      room a.out.now a.at a.src.now c.has_room.ensures refl (ap not c.if-not-has_room.false),
    )

pub put_block-requires : goal.put_block-requires
put_block-requires c =
    let src = c.args.src.now in
    let done = c.loop-done.done in
    let n = c.min-n.result in
    let same : done + n - done ≡ n = omega arith in
    let size : length (take n (drop done src)) ≡ n = length-take-le n (drop done src) (rw length-drop (omega arith)) in
    rw (same, size) (omega arith)

pub loop-done-preserved : goal.loop-done-preserved
loop-done-preserved c =
    let a = c.args in
    let l = c.loop-done in
    let n = c.min-n.result in
    let same : l.done + n - l.done ≡ n = omega arith in
    let there : l.done + n ≤ length a.src.now = omega arith in (
      c.put_block.ensures ∙ rw (l.invariant.0, same) (put_next a.out.now a.at a.src.now l.done n there l.invariant.3),
      there,
      omega arith,
      l.invariant.3,
    )

pub returns : goal.returns
returns c =
    let a = c.args in
    let l = c.loop-done in
    let all : l.done ≡ length a.src.now = omega arith in (
      rw (after-fits a.out.now a.at a.src.now l.invariant.3) (omega arith),
      l.invariant.0 ∙ rw (all, take-length a.src.now),
    )
