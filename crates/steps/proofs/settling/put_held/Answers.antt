-- `steps::settling::put_held` meets its contract: by whether AUTH is first.
use mathlib.Core.Path.{sym}
use mathlib.Core.List.{[]}
use lib.ListN.{take}
use Rattle.rules.specs.Lines.{passed}
use Rattle.output.proofs.Placing.{written, nothing_put}
use Rattle.octets.proofs.Choices.{choose-true, choose-false}
use Rattle.steps.proofs.settling.put_held.Goals as goal

pub returns-then-auth : goal.returns-then-auth
returns-then-auth c =
    let a = c.args in
    written a.out.now a.at (sym (choose-true (passed (take a.held a.reply.now)) [] c.if-auth.true)) c.put_passed.ensures

pub returns : goal.returns
returns c =
    let a = c.args in
    written a.out.now a.at (sym (choose-false (passed (take a.held a.reply.now)) [] c.if-auth.false)) (nothing_put a.out.now a.at)
