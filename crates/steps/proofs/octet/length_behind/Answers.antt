-- `steps::octet::length_behind` meets its contract: by whether the octet is held, and AUTH first.
use mathlib.Core.Path.{◌≡◌, ap, ◌∙◌}
use mathlib.Core.List.{List, [], ◌∷◌}
use Prim.Native.Nat.{ℕ, ◌+◌, ◌*◌, ◌≤◌}
use native.Mathlib.Omega.{arith}
use lib.ListN.{length, take}
use lib.Seq.{length-take-le}
use borrow.Author.Rules.{rules}
use Rattle.rules.specs.Octets.{choose}
use Rattle.rules.specs.Lines.{most_held, passed}
use Rattle.octets.proofs.Passed.{passed-most}
use Rattle.octets.proofs.Choices.{choose-true, choose-false}
use Rattle.gives.specs.declared.Gives.{Gives}
use Rattle.steps.specs.Steps.{stored}
use Rattle.steps.proofs.Octets.{more-held, not-stored}
use Rattle.steps.proofs.octet.length_behind.Goals as goal
use Rattle.steps.proofs.octet.length_behind.Goals.{After-settled_length-before}

-- where the octet is held: what is measured without it is less than two lines, and with it as much more as it gives
few : (c : After-settled_length-before) → length (passed (take c.args.held c.args.reply.now)) ≤ 2 * most_held
few c =
    let p = c.requires.most in
    omega (arith, length-take-le c.args.held c.args.reply.now (omega arith), passed-most (take c.args.held c.args.reply.now))

one_more : (c : After-settled_length-before) → length (passed (take c.args.then (stored c.args.reply.now c.args.held c.args.x c.args.gives))) ≡ length (passed (take c.args.held c.args.reply.now)) + length (passed (c.args.x ∷ []))
one_more c =
    let a = c.args in
    let told : a.gives ≡ Gives.Held = c.in-Held.is in
    let then = c.requires.given told in
    let p = c.requires.most in
    more-held a.reply.now a.held a.x a.gives told then (omega arith)

pub overflow_add-result : goal.overflow_add-result
overflow_add-result c =
    let low = few (goal.at.overflow_add-result c).After-settled_length-before in
    let answers = c.requires.most.0 in
    let tail = c.requires.most.4 in
    let one = choose-true (length (passed (take c.args.held c.args.reply.now)) + c.args.tail) 0 c.if-plan.true in
    let measured = c.settled_length-before.ensures in
    let more = c.passed_length.ensures in
    let two = passed-most (c.args.x ∷ []) in
    search rules

pub returns-then-plan : goal.returns-then-plan
returns-then-plan c =
    let one = choose-true (length (passed (take c.args.held c.args.reply.now)) + c.args.tail) 0 c.if-plan.true in
    let all = choose-true (length (passed (take c.args.then (stored c.args.reply.now c.args.held c.args.x c.args.gives))) + c.args.tail) 0 c.if-plan.true in
    omega (arith, one_more (goal.at.returns-then-plan c).After-settled_length-before, c.settled_length-before.ensures, c.passed_length.ensures)

pub returns-in-Held : goal.returns-in-Held
returns-in-Held c =
    let one = choose-false (length (passed (take c.args.held c.args.reply.now)) + c.args.tail) 0 c.if-plan.false in
    let all = choose-false (length (passed (take c.args.then (stored c.args.reply.now c.args.held c.args.x c.args.gives))) + c.args.tail) 0 c.if-plan.false in
    omega (arith, c.settled_length-before.ensures)

pub returns : goal.returns
returns c =
    let a = c.args in
    c.settled_length.ensures
    ∙ ap (λ (l : List ℕ). a.plan.answers + choose a.plan.auth (length (passed (take a.then l)) + a.tail) 0)
    (not-stored a.reply.now a.held a.x a.gives c.in_default.not-Held)
