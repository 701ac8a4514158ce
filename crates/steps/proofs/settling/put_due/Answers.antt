-- `steps::settling::put_due` meets its contract: by whether own answers have to wait.
use mathlib.Core.Path.{sym}
use mathlib.Core.List.{[]}
use Rattle.output.proofs.Placing.{written, nothing_put}
use Rattle.steps.specs.Takes.{state_from}
use Rattle.steps.proofs.Settles.{no_text, the-text}
use Rattle.steps.proofs.settling.put_due.Goals as goal

pub returns-then-blocked : goal.returns-then-blocked
returns-then-blocked c =
    let a = c.args in
    written a.out.now a.at (sym (no_text (state_from a.control [] [] a.kinds) a.from c.blocked.ensures c.if-blocked.true)) (nothing_put a.out.now a.at)

pub returns : goal.returns
returns c =
    let a = c.args in
    written a.out.now a.at (sym (the-text (state_from a.control [] [] a.kinds) a.from c.blocked.ensures c.if-blocked.false)) c.put_answers.ensures
