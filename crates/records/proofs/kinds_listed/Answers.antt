use Rattle.std.proofs.Common.{sym, ◌∙◌, rules, tests}
use Rattle.std.proofs.lemmas.Iterator.{YieldsList-from_slice}
use Rattle.std.proofs.lemmas.Iterator.Search.{all_from_yields_List}
use Rattle.octets.proofs.Runs.{every-all}
use Rattle.queue.specs.Kinds.{is_listed}
use Rattle.records.proofs.kinds_listed.Goals as goal

pub returns : goal.returns
unfolding is_listed
returns c =
    let kinds = c.args.kinds.now in
    all_from_yields_List is_listed _ _ c.all.result c.all.ensures.ran (YieldsList-from_slice kinds cc) (λ x b q k. search (rules, tests))
    ∙ sym (every-all is_listed kinds)
