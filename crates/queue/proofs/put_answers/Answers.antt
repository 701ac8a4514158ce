use mathlib.Core.Path.{◌≡◌}
use Prim.Native.Nat.{◌+◌, ◌<◌}
use native.Mathlib.Omega.{arith}
use borrow.Author.Rules.{rules}
use lib.ListN.{length, drop}
use Rattle.rules.specs.Replies.{head_answers}
use Rattle.rules.specs.Answers.{most_owed}
use Rattle.output.proofs.Placing.{no_room}
use Rattle.queue.specs.Kinds.{queue_of}
use Rattle.queue.proofs.Answers.{stops, goes_on, has_room}
use Rattle.queue.proofs.Placing.{at-start, next-part, at-end}
use Rattle.queue.proofs.put_answers.Goals as goal
use Rattle.queue.proofs.put_answers.Goals.{In-Answer}

pub returns-then-out-at : goal.returns-then-out-at
returns-then-out-at c =
    let a = c.args in
    no_room a.out.now a.at (head_answers (drop a.from (queue_of a.kinds a.owed))) (omega arith)

pub overflow_sub-out : goal.overflow_sub-out
overflow_sub-out c = omega arith

pub returns-then-out-at-2 : goal.returns-then-out-at-2
returns-then-out-at-2 c =
    let a = c.args in
    let size = c.due-own.ensures.result.1 in
    no_room a.out.now a.at (head_answers (drop a.from (queue_of a.kinds a.owed))) (omega arith)

pub loop-answer-init : goal.loop-answer-init
loop-answer-init c =
    let a = c.args in
    at-start a.out.now a.at (head_answers (drop a.from (queue_of a.kinds a.owed))) ((let size = c.due-own.ensures.result.1 in
    let fits = c.if-out-at-2.false in
    let within = c.if-out-at.false in
    omega arith))

-- an own answer is one of the kinds that there is room for
one : (c : In-Answer) → c.loop-answer.i < most_owed
one c =
    has_room c.args.kinds c.args.owed _ (search rules) c.next_at.ensures c.in-Answer.is

pub overflow_add-i : goal.overflow_add-i
overflow_add-i c = omega (arith, one (goal.at.overflow_add-i c).In-Answer)

pub loop-answer-smaller : goal.loop-answer-smaller
loop-answer-smaller c = omega (arith, one (goal.at.loop-answer-smaller c).In-Answer)

pub loop-answer-preserved : goal.loop-answer-preserved
loop-answer-preserved c =
    let a = c.args in
    let l = c.loop-answer in
    let q = queue_of a.kinds a.owed in
    let t = goes_on q l.i _ c.next_at.ensures c.in-Answer.is in
    next-part a.out.now a.at (head_answers (drop a.from q)) l.out l.place (head_answers (drop l.i q)) _ (head_answers (drop (l.i + 1) q)) l.invariant t.text c.put_answer-place.ensures

pub shape_of-out : goal.shape_of-out
shape_of-out c = c.loop-answer.invariant.size

pub returns : goal.returns
returns c =
    let a = c.args in
    let l = c.loop-answer in
    let q = queue_of a.kinds a.owed in
    let s = stops (drop l.i q) c.next_at.ensures c.in_default.not-Answer in
    at-end a.out.now a.at (head_answers (drop a.from q)) l.out l.place (head_answers (drop l.i q)) ((let size = c.due-own.ensures.result.1 in
    let fits = c.if-out-at-2.false in
    let within = c.if-out-at.false in
    omega arith)) l.invariant s.text
