use mathlib.Core.Path.{sym, ap, subst, ◌∙◌}
use mathlib.Core.List.{List}
use Prim.Native.Nat.{ℕ, ◌+◌, ◌≤◌}
use native.Mathlib.Omega.{arith}
use lib.ListN.{length, get_or, drop}
use borrow.Author.Tests.{eqb-true, eqb-false, leb-true, leb-false}
use Rattle.std.specs.Prelude.{is_some}
use Rattle.output.proofs.Placing.{written, no_room}
use Rattle.queue.proofs.Placing.{Remaining, at-start, next-part, at-end}
use Rattle.fields.specs.Report.{shown, shown_all, field}
use Rattle.fields.proofs.Fields.{field-empty, field-shown, shown-next, shown-end, is_some-room}
use Rattle.fields.proofs.put_field.Goals as goal

pub returns-then-is_empty : goal.returns-then-is_empty
returns-then-is_empty c =
    let a = c.args in
    written a.out.now a.at (sym (field-empty a.octets.now (eqb-true _ 0 (sym c.if-is_empty.ensures)))) c.put.ensures

pub returns-in_default : goal.returns-in_default
returns-in_default c =
    let a = c.args in
    no_room a.out.now a.at (field a.octets.now) (omega (arith, c.in_default.ensures))

pub returns-then-is_none : goal.returns-then-is_none
returns-then-is_none c =
    let a = c.args in
    let room = c.in-Some.room in
    let n = length (field a.octets.now) in
    let full = leb-false n room (sym (is_some-room room n) ∙ (ap is_some (sym c.room_after.ensures) ∙ c.if-is_none.ensures)) in
    no_room a.out.now a.at (field a.octets.now) (omega (arith, full, c.in-Some.ensures))

pub loop-x-init : goal.loop-x-init
loop-x-init c =
    let a = c.args in
    let s = a.octets.now in
    let room = c.in-Some.room in
    let n = length (field s) in
    let left = leb-true n room (sym (is_some-room room n) ∙ (ap is_some (sym c.room_after.ensures) ∙ c.if-is_none.ensures)) in
    let fits : a.at + length (field s) ≤ length a.out.now = omega (arith, left, c.in-Some.ensures) in
    record {
      remains =
          subst (λ (l : List ℕ). Remaining a.out.now a.at (field s) a.out.now a.at l) (field-shown s (eqb-false _ 0 (sym c.if-is_empty.ensures)))
          (at-start a.out.now a.at (field s) fits);
      room = fits;
    }

pub loop-x-preserved : goal.loop-x-preserved
loop-x-preserved c =
    let a = c.args in
    let s = a.octets.now in
    let l = c.loop-x in
    let i = l.x-index in
    record {
      remains =
          next-part a.out.now a.at (field s) l.out l.next (shown_all (drop i s)) (shown (get_or s i 0)) (shown_all (drop (i + 1) s))
          l.invariant.remains (shown-next s i c.loop-x-test.true) c.put_shown-next.ensures;
      room = l.invariant.room;
    }

pub returns : goal.returns
returns c =
    let a = c.args in
    let s = a.octets.now in
    let l = c.loop-x in
    at-end a.out.now a.at (field s) l.out l.next (shown_all (drop l.x-index s)) l.invariant.room l.invariant.remains (shown-end s l.x-index c.loop-x-test.false)
