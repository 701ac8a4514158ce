-- `steps::settling::put_tail` meets its contract: by whether AUTH is first.
use mathlib.Core.Path.{sym, ◌∙◌}
use mathlib.Core.List.{[]}
use Rattle.rules.specs.Answers.{server}
use Rattle.output.proofs.Placing.{written, nothing_put}
use Rattle.octets.proofs.Choices.{choose-true, choose-false}
use Rattle.records.specs.Controls.{unfinished_of}
use Rattle.records.proofs.Sides.{unfinished-read}
use Rattle.steps.proofs.settling.put_tail.Goals as goal

pub returns-then-auth : goal.returns-then-auth
returns-then-auth c =
    let a = c.args in
    written a.out.now a.at (unfinished-read server a.control c.unfinished_of.ensures ∙ sym (choose-true (unfinished_of server a.control) [] c.if-auth.true))
    c.put_unfinished.ensures

pub returns : goal.returns
returns c =
    let a = c.args in
    written a.out.now a.at (sym (choose-false (unfinished_of server a.control) [] c.if-auth.false)) (nothing_put a.out.now a.at)
