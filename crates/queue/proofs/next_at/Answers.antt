-- `queue::next_at` meets its contract: by whether a kind stands there.
use mathlib.Core.Path.{◌≡◌, sym, ap, ◌∙◌}
use native.Mathlib.Omega.{arith}
use borrow.Author.Rules.{rules}
use lib.ListN.{length}
use Rattle.rules.specs.Answers.{most_owed}
use Rattle.queue.specs.Heads.{next_of, next_first}
use Rattle.queue.proofs.Answers.{none-owed, none_kept, one-owed}
use Rattle.queue.proofs.next_at.Goals as goal

pub returns-then-owed-i : goal.returns-then-owed-i
unfolding next_first
returns-then-owed-i c =
    let a = c.args in
    ap next_first (sym (none-owed a.kinds a.i a.owed c.if-owed-i.true))

pub returns-then-i-ge-OWED : goal.returns-then-i-ge-OWED
unfolding next_first
returns-then-i-ge-OWED c =
    let a = c.args in
    let long : length a.kinds ≡ most_owed = search rules in
    ap next_first (sym (none_kept a.kinds a.i a.owed (omega arith)))

pub returns : goal.returns
unfolding next_first
returns c =
    let a = c.args in
    let long : length a.kinds ≡ most_owed = search rules in
    c.next_of.ensures ∙ ap next_of c.kind_of.ensures
    ∙ ap next_first (sym (one-owed a.kinds a.i a.owed c.if-owed-i.false (omega arith)))
