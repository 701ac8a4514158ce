-- `report::is_due` meets its contract: test by test.
use mathlib.Core.Path.{sym, ap, ◌∙◌}
use Rattle.std.specs.Prelude.{is_ok}
use Rattle.report.proofs.Due.{none_left, refused, no-entry, no_body, body-decides}
use Rattle.report.proofs.is_due.Goals as goal

pub returns-then-replay-eq0 : goal.returns-then-replay-eq0
returns-then-replay-eq0 c = let a = c.args in none_left a.file.now a.replay c.if-replay-eq0.true

pub returns-then-is_err : goal.returns-then-is_err
returns-then-is_err c =
    let j = c.judge in
    let a = c.args in
    refused a.file.now a.replay c.if-replay-eq0.false (ap is_ok (sym j.ensures) ∙ c.if-is_err.ensures.negation)

pub returns-then-pair_at-number : goal.returns-then-pair_at-number
returns-then-pair_at-number c =
    let j = c.judge in
    let n = c.pair_at in
    let a = c.args in
    no-entry a.file.now a.replay c.if-replay-eq0.false (ap is_ok (sym j.ensures) ∙ c.if-is_err.ensures.negation) n.result n.ensures.result c.if-pair_at-number.true

pub returns-then-file-length : goal.returns-then-file-length
returns-then-file-length c =
    let j = c.judge in
    let n = c.pair_at in
    let l = c.pair_at-length in
    let a = c.args in
    no_body a.file.now a.replay c.if-replay-eq0.false (ap is_ok (sym j.ensures) ∙ c.if-is_err.ensures.negation) n.result n.ensures.result c.if-pair_at-number.false l.result l.ensures.result c.if-file-length.true

pub returns : goal.returns
returns c =
    let j = c.judge in
    let n = c.pair_at in
    let l = c.pair_at-length in
    let a = c.args in
    body-decides a.file.now a.replay c.if-replay-eq0.false (ap is_ok (sym j.ensures) ∙ c.if-is_err.ensures.negation) n.result n.ensures.result c.if-pair_at-number.false l.result l.ensures.result c.if-file-length.false
