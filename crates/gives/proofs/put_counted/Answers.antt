-- `gives::put_counted` meets its contract: octets that give as many as they are give themselves.
use mathlib.Core.Path.{sym, ◌∙◌}
use Rattle.output.proofs.Placing.{written}
use Rattle.gives.proofs.Doubling.{passed-same}
use Rattle.gives.proofs.put_counted.Goals as goal

pub returns-then-n-held : goal.returns-then-n-held
returns-then-n-held c =
    let same = passed-same c.args.held.now (sym c.requires ∙ c.if-n-held.true) in
    λ _. written _ _ (sym same) c.put.ensures
