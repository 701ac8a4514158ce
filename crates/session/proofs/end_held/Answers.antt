-- `session::end_held` meets its contract: by the room for what the held octets give and for an unfinished command.
use mathlib.Core.Path.{◌≡◌, ap, ◌∙◌}
use mathlib.Core.List.{List}
use Prim.Native.Nat.{ℕ}
use lib.ListN.{length}
use native.Mathlib.Omega.{arith}
use Rattle.rules.specs.Answers.{Side}
use Rattle.rules.specs.Lines.{passed, most_held}
use Rattle.rules.specs.Telnet.{unfinished}
use Rattle.records.specs.declared.Control.{Control}
use Rattle.records.specs.declared.Session.{Session}
use Rattle.records.specs.Sound.{side_if}
use Rattle.records.specs.Controls.{unfinished_of}
use Rattle.records.proofs.Sides.{unfinished-read}
use Rattle.steps.specs.Steps.{held_of}
use Rattle.steps.specs.Takes.{state_from}
use Rattle.session.specs.Calls.{session_after, state_of, end_step}
use Rattle.session.proofs.Outcomes.{held_gives, no_room, passed_on}
use borrow.Author.Rules.{rules}
use Rattle.session.proofs.end_held.Goals as goal
use Rattle.session.proofs.end_held.Goals.{After-unfinished_length}

-- both as they are measured
module _ (c : After-unfinished_length) where
  abbrev s : Session
  s = c.args.session

  abbrev d : Side
  d = side_if c.args.from_client

  abbrev out : List ℕ
  out = c.args.out.now

  gives : passed c.held_of-held.result.now ≡ passed (held_of d (state_of s))
  gives = ap passed (c.held_of-held.ensures s.kinds)

  begun : unfinished c.unfinished_of-tail.result ≡ unfinished_of d s.control
  begun = unfinished-read d s.control c.unfinished_of-tail.ensures

pub overflow_add-passed_length : goal.overflow_add-passed_length
overflow_add-passed_length c =
    let command : length c.args.session.command ≡ most_held = search rules in
    let reply : length c.args.session.reply ≡ most_held = search rules in
    let few = held_gives (d (goal.at.overflow_add-passed_length c).After-unfinished_length) (state_of (s (goal.at.overflow_add-passed_length c).After-unfinished_length)) command reply in
    omega (arith, few, c.passed_length.ensures, ap length (gives (goal.at.overflow_add-passed_length c).After-unfinished_length), c.unfinished_length.ensures.most)

pub returns-then-out-passed_length : goal.returns-then-out-passed_length
returns-then-out-passed_length c =
    no_room (s (goal.at.returns-then-out-passed_length c).After-unfinished_length) (d (goal.at.returns-then-out-passed_length c).After-unfinished_length) (out (goal.at.returns-then-out-passed_length c).After-unfinished_length) (gives (goal.at.returns-then-out-passed_length c).After-unfinished_length) (begun (goal.at.returns-then-out-passed_length c).After-unfinished_length) c.passed_length.ensures c.unfinished_length.ensures.result
    c.if-out-passed_length.true c.refused.ensures

pub returns : goal.returns
unfolding end_step
returns c =
    let wrote = c.written_from-written in
    let w = wrote.result in
    let then = ap (λ (k : Control). session_after (s (goal.at.returns c).After-unfinished_length) (d (goal.at.returns c).After-unfinished_length) 0 w.server w.client (state_from k (s (goal.at.returns c).After-unfinished_length).command (s (goal.at.returns c).After-unfinished_length).reply (s (goal.at.returns c).After-unfinished_length).kinds)) c.with_ended-control.ensures in
    passed_on (s (goal.at.returns c).After-unfinished_length) (d (goal.at.returns c).After-unfinished_length) (out (goal.at.returns c).After-unfinished_length) (gives (goal.at.returns c).After-unfinished_length) (begun (goal.at.returns c).After-unfinished_length) c.passed_length.ensures c.unfinished_length.ensures.result
    c.if-out-passed_length.false c.put_passed-next.ensures c.put_unfinished.ensures wrote.ensures (c.after.ensures ∙ then)
