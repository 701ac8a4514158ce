use mathlib.Core.Path.{sym, ap, ◌∙◌}
use Prim.Native.Nat.{ℕ}
use native.Mathlib.Omega.{arith}
use borrow.Author.Tests.{lt-leb}
use lib.ListN.{length}
use Rattle.octets.proofs.Choices.{choose-false}
use Rattle.queue.specs.Kinds.{shifted}
use Rattle.queue.proofs.Shifting.{none-shifted, shifted_none, copied, shifted_in_lem}
use Rattle.queue.proofs.shift.Goals as goal
use Rattle.queue.proofs.shift.Goals.{then-kinds-owed-via-then-kinds-owed, then-kinds-owed-via-else-kinds-owed+then-owed-by, then-kinds-owed-via-else-kinds-owed+else-owed-by+then-by-eq0}

pub returns-then-kinds-owed : goal.returns-then-kinds-owed
returns-then-kinds-owed c =
    let k = c.args.kinds.now in
    let by = c.args.by in
    let owed = c.args.owed in
    elim c.then-kinds-owed.branch [
      | then-kinds-owed-via-then-kinds-owed w ↦ sym (choose-false (shifted k by owed) k (lt-leb owed (length k) w.if-kinds-owed.true))
      | then-kinds-owed-via-else-kinds-owed+then-owed-by w ↦
          sym (shifted_in_lem k by owed w.if-kinds-owed.false ∙ none-shifted k by owed w.if-owed-by.true)
      | then-kinds-owed-via-else-kinds-owed+else-owed-by+then-by-eq0 w ↦
          sym (shifted_in_lem k by owed w.if-kinds-owed.false ∙ ap (λ (n : ℕ). shifted k n owed) w.if-by-eq0.true ∙ shifted_none k owed)
    ]

pub returns : goal.returns
returns c =
    let a = c.args in
    c.copy_within.ensures.after ∙ copied a.kinds.now a.by a.owed (omega arith) ∙ sym (shifted_in_lem a.kinds.now a.by a.owed c.if-kinds-owed.false)
