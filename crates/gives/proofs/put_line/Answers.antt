-- No room by one of the tests, or the octet put after the held ones.
use mathlib.Core.Path.{sym, ◌∙◌}
use mathlib.Core.List.{[], ◌∷◌, ◌++◌}
use Prim.Native.Nat.{◌+◌}
use native.Mathlib.Omega.{arith}
use borrow.Author.Tests.{leb-true, leb-false}
use Rattle.rules.specs.Lines.{passed}
use lib.ListN.{length, length-append}
use Rattle.output.proofs.Placing.{no_room, joined}
use Rattle.gives.proofs.put_line.Goals as goal
use Rattle.gives.proofs.put_line.Goals.{then-not-has_room-via-then-not-has_room, then-not-has_room-via-else-not-has_room+then-not-has_room-2}

pub returns-then-not-has_room : goal.returns-then-not-has_room
returns-then-not-has_room c =
    let a = c.args in
    let sum = length-append (passed a.held.now) (passed (a.x ∷ [])) in
    let n = c.passed_length-n in
    no_room a.out.now a.at (passed a.held.now ++ passed (a.x ∷ []))
    (elim c.then-not-has_room.branch [
      | then-not-has_room-via-then-not-has_room w ↦
          omega (arith, sum, n.ensures, leb-false (a.at + n.result) (length a.out.now) (sym c.has_room.ensures ∙ w.if-not-has_room.true))
      | then-not-has_room-via-else-not-has_room+then-not-has_room-2 w ↦
          omega (arith, sum, n.ensures, w.octet_length.ensures.result, leb-false (a.at + n.result + w.octet_length.result) (length a.out.now) (sym w.has_room-else-not-has_room.ensures ∙ w.if-not-has_room-2.true))
    ])

pub returns : goal.returns
returns c =
    let a = c.args in
    let n = c.passed_length-n in
    let more = c.octet_length in
    let fits = leb-true (a.at + n.result + more.result) (length a.out.now) (sym c.has_room-else-not-has_room.ensures ∙ c.if-not-has_room-2.false) in
    joined a.out.now a.at (passed a.held.now) (passed (a.x ∷ [])) c.put_counted-next.ensures (λ _. c.put_line_octet.ensures)
    (omega (arith, length-append (passed a.held.now) (passed (a.x ∷ [])), n.ensures, more.ensures.result))
