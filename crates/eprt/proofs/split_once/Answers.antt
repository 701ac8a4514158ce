-- `eprt::split_once`. The parts by the place of the first delimiter.
use mathlib.Core.Path.{◌≡◌, sym, ◌∙◌}
use borrow.Author.Rules.{rules}
use lib.Dec.{eqb}
use Rattle.std.specs.List.{position}
use Rattle.std.proofs.lemmas.Iterator.{YieldsList-from_slice}
use Rattle.std.proofs.lemmas.Iterator.Search.{position_from_yields_List}
use borrow.Author.Tests.{tests}
use Rattle.address.proofs.Parts.{position-found, position-none}
use Rattle.address.proofs.Texts.{rest_part}
use Rattle.eprt.proofs.split_once.Goals as goal

pub returns-in_err-at : goal.returns-in_err-at
returns-in_err-at c =
    let found : c.position.result ≡ position (λ y. eqb y c.args.delimiter) c.args.text.now =
    position_from_yields_List {v = λ x. x.now} {all = c.args.text.now} (λ y. eqb y c.args.delimiter) _ _ _ c.position.ensures.ran (YieldsList-from_slice _ c.iter.ensures.rest) (λ x b q k. search (rules, tests)) in
    rw c.from_residual.ensures (position-none c.args.delimiter c.args.text.now (sym found ∙ c.in_err-at.was))

pub returns : goal.returns
returns c =
    let found : c.position.result ≡ position (λ y. eqb y c.args.delimiter) c.args.text.now =
    position_from_yields_List {v = λ x. x.now} {all = c.args.text.now} (λ y. eqb y c.args.delimiter) _ _ _ c.position.ensures.ran (YieldsList-from_slice _ c.iter.ensures.rest) (λ x b q k. search (rules, tests)) in
    rw rest_part (position-found c.args.delimiter c.args.text.now _ (sym found ∙ c.in_ok-at.was))
