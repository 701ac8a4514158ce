-- Sixteen octets, put whole in the place of sixteen.
use mathlib.Core.Path.{◌≡◌, sym, ap, ◌∙◌}
use lib.ListN.{length}
use borrow.Rule.Slice.PartMut.{put_mid}
use Rattle.steps.specs.Takes.{kinds_lent}
use Rattle.output.proofs.Front.{fills}
use Rattle.steps.proofs.Lent.{kinds-size}
use borrow.Author.Rules.{rules}
use Rattle.rules.specs.Answers.{most_owed}
use Rattle.records.specs.Layout.{lent_kinds}
use Rattle.steps.proofs.put_kinds.Goals as goal

pub returns : goal.returns
returns c =
    let lent = c.args.lent.now in
    let sixteen : length c.args.kinds ≡ most_owed = search rules in
    let whole = fills (kinds_lent lent) c.args.kinds (sixteen ∙ sym (kinds-size lent c.told-lent)) in
    (ap (put_mid lent_kinds most_owed lent) (c.put.ensures.1 ∙ whole), sixteen)
