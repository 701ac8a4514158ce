use Rattle.std.proofs.Common.{ℕ, Bool, leb, sym, ◌∙◌, rules, tests}
use Rattle.std.proofs.lemmas.Iterator.{YieldsList-from_slice}
use Rattle.std.proofs.lemmas.Iterator.Search.{all_from_yields_List}
use Rattle.octets.proofs.Runs.{every-all}
use Rattle.image.specs.Image.{at_most}
use Rattle.image.proofs.at_most.Goals as goal

pub returns : goal.returns
unfolding at_most
returns c =
    let octets = c.args.octets.now in
    let listed : ℕ → Bool = λ n. leb n c.args.most in
    all_from_yields_List listed _ _ c.all.result c.all.ensures.ran (YieldsList-from_slice octets cc) (λ x b q k. search (rules, tests))
    ∙ sym (every-all listed octets)
