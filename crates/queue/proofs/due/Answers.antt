use mathlib.Core.Path.{◌≡◌, ap, ◌∙◌}
use mathlib.Core.List.{List}
use Prim.Native.Nat.{ℕ, ◌<◌}
use native.Mathlib.Omega.{arith}
use borrow.Author.Rules.{rules}
use lib.ListN.{length}
use Rattle.rules.specs.Answers.{most_owed}
use Rattle.queue.specs.Kinds.{queue_of}
use Rattle.queue.proofs.Answers.{stops, auth-next, goes_on, has_room}
use Rattle.queue.proofs.due.Goals as goal
use Rattle.queue.proofs.due.Goals.{In-Answer}

-- an own answer is one of the kinds that there is room for
one : (c : In-Answer) → c.loop-answer.leaving < most_owed
one c =
    has_room c.args.kinds c.args.owed _ (search rules) c.next_at.ensures c.in-Answer.is

pub overflow_add-answers : goal.overflow_add-answers
overflow_add-answers c =
    let a = c.args in
    let l = c.loop-answer in
    let t = goes_on (queue_of a.kinds a.owed) l.leaving _ c.next_at.ensures c.in-Answer.is in
    omega arith

pub overflow_add-leaving : goal.overflow_add-leaving
overflow_add-leaving c = omega (arith, one (goal.at.overflow_add-leaving c).In-Answer)

pub loop-answer-smaller : goal.loop-answer-smaller
loop-answer-smaller c = omega (arith, one (goal.at.loop-answer-smaller c).In-Answer)

pub loop-answer-preserved : goal.loop-answer-preserved
loop-answer-preserved c =
    let a = c.args in
    let l = c.loop-answer in
    let before = one (goal.at.loop-answer-preserved c).In-Answer in
    let t = goes_on (queue_of a.kinds a.owed) l.leaving _ c.next_at.ensures c.in-Answer.is in
    (omega arith, omega arith, omega arith)

pub returns : goal.returns
returns c =
    let l = c.loop-answer in
    let s = stops _ c.next_at.ensures c.in_default.not-Answer in
    let z = ap (λ (t : List ℕ). length t) s.text in
    record { result = (omega arith, omega arith); after = c.is_auth.ensures ∙ auth-next _ c.next_at-2.ensures; most = omega arith }
