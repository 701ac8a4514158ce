-- `arrivals::plain::keeps_still` meets its contract: `keeps-not` and `keeps-behind`.
use mathlib.Core.Bool.{not}
use mathlib.Core.Path.{◌≡◌, sym, ap, ◌∙◌}
use mathlib.Core.Bool.{Bool, true, ◌||◌}
use borrow.Author.Tests.{not-true, eq-eqb}
use Rattle.octets.proofs.Choices.{choose-true}
use Rattle.arrivals.specs.PlainRuns.{is_plain_first, keeps_still}
use Rattle.arrivals.proofs.Keeping.{either_true, keeps-not, keeps-behind}
use Rattle.arrivals.proofs.plain.keeps_still.Goals as goal
use Rattle.arrivals.proofs.plain.keeps_still.Goals.{else-not-inside-via-then-not-inside+else-not-is_plain_first, else-not-inside-via-else-not-inside}

pub returns-then-removes-eq0 : goal.returns-then-removes-eq0
unfolding keeps_still
returns-then-removes-eq0 c = sym (choose-true true _ (eq-eqb c.args.removes 0 c.if-removes-eq0.true))

pub returns-then-not-is_plain_first : goal.returns-then-not-is_plain_first
returns-then-not-is_plain_first c =
    let a = c.args in
    keeps-not a.kinds.now a.inside a.removes a.owed c.if-removes-eq0.false
    (not-true _ (ap not c.if-not-inside.true)) (sym c.is_plain_first.ensures ∙ not-true _ (ap not c.if-not-is_plain_first.true))

pub returns : goal.returns
returns c =
    let a = c.args in
    let first = is_plain_first a.kinds.now in
    let none : (a.inside || first) ≡ true =
    elim c.else-not-inside.branch [
      | else-not-inside-via-then-not-inside+else-not-is_plain_first w ↦ either_true a.inside (sym w.is_plain_first.ensures ∙ w.if-not-is_plain_first.false)
      | else-not-inside-via-else-not-inside w ↦ ap (λ (u : Bool). u || first) w.if-not-inside.false
    ] in
    c.is_still.ensures ∙ keeps-behind a.kinds.now a.inside a.removes a.owed c.if-removes-eq0.false none
