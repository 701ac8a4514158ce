-- `steps::settling::settled_length` meets its contract: by whether AUTH is first.
use Prim.Native.Nat.{◌+◌, ◌≤◌}
use native.Mathlib.Omega.{arith}
use lib.ListN.{length, take}
use lib.Seq.{length-take-le}
use borrow.Author.Rules.{rules}
use Rattle.rules.specs.Lines.{passed, most_held}
use Rattle.octets.proofs.Passed.{passed-most}
use Rattle.octets.proofs.Choices.{choose-true, choose-false}
use Rattle.steps.proofs.settling.settled_length.Goals as goal
use Rattle.steps.proofs.settling.settled_length.Goals.{After-passed_length}

-- what the held octets give is less than two lines
few : (c : After-passed_length) → c.passed_length.result ≤ 2 + (most_held + most_held)
few c =
    let line = take c.args.held c.args.reply.now in
    let size = length-take-le c.args.held c.args.reply.now c.requires.2 in
    let most = c.requires.1 in
    omega (arith, c.passed_length.ensures, passed-most line)

pub overflow_add-result : goal.overflow_add-result
overflow_add-result c =
    let low = few (goal.at.overflow_add-result c).After-passed_length in
    let answers = c.requires.0 in
    search rules

pub overflow_add-result-then-plan : goal.overflow_add-result-then-plan
overflow_add-result-then-plan c =
    let low = few (goal.at.overflow_add-result-then-plan c).After-passed_length in
    let answers = c.requires.0 in
    let tail = c.requires.3 in
    search rules

pub returns-then-plan : goal.returns-then-plan
returns-then-plan c =
    let a = c.args in
    let more = choose-true (length (passed (take a.held a.reply.now)) + a.tail) 0 c.if-plan.true in
    omega (arith, c.passed_length.ensures)

pub returns : goal.returns
returns c =
    let a = c.args in
    let none = choose-false (length (passed (take a.held a.reply.now)) + a.tail) 0 c.if-plan.false in
    omega arith
