use borrow.Author.Rules.{rules}
use borrow.Author.Tests.{tests}
use Rattle.address.proofs.Turns.{ended, went}
use Rattle.std.proofs.lemmas.Iterator.Splits.{YieldsList-from_slice_split}
use Rattle.rules.specs.Octets.{dot, parts}
use Rattle.address.proofs.Parts.{parts-split}
use Rattle.address.proofs.Readings.{reads-refl}
use Rattle.address.proofs.Texts.{dotted-more, dotted-refused, dotted-all}
use Rattle.address.proofs.Octets.push_dotted.Goals as goal

pub loop-number-init : goal.loop-number-init
loop-number-init c =
    let text = c.args.text.now in
    let split = c.split-number-items.ensures in
    let same = c.into_iter-number-iterator.ensures.into_iter_gives in (
      parts dot text,
      rw (same, parts-split) (YieldsList-from_slice_split _ _ text split.rest split.done split.closure (λ x r q k. search (rules, tests))),
      reads-refl _,
    )

pub loop-number-preserved : goal.loop-number-preserved
loop-number-preserved c =
    let l = c.loop-number.invariant in
    let turn = went _ (λ x. x.now) c.next.new.self c.in-Some.number l.0 l.1 c.in-Some.ensures.steps in
    (turn.0, turn.2, dotted-more _ c.in-Some.number.now turn.0 c.in_ok-push_number.ensures (rw turn.1 at l.2))

pub returns-in_err-push_number : goal.returns-in_err-push_number
returns-in_err-push_number c =
    let l = c.loop-number.invariant in
    let turn = went _ (λ x. x.now) c.next.new.self c.in-Some.number l.0 l.1 c.in-Some.ensures.steps in
    rw c.from_residual.ensures (dotted-refused _ c.in-Some.number.now turn.0 c.in_err-push_number.ensures (rw turn.1 at l.2))

pub returns : goal.returns
returns c =
    let l = c.loop-number.invariant in
    let none = ended _ (λ x. x.now) c.next.new.self l.0 l.1 c.in-None.ensures.steps in
    dotted-all _ (rw none at l.2)
