-- `prefix::without_reserved` meets its contract: the octets before the reserved one, and right behind them those that follow it.
use mathlib.Core.Path.{◌≡◌, refl, ◌∙◌}
use native.Mathlib.Omega.{arith}
use lib.ListN.{length}
use borrow.Author.Rules.{rules}
use Rattle.prefix.specs.Prefix.{without_reserved}
use Rattle.prefix.proofs.Puts.{ends-put}
use Rattle.prefix.proofs.without_reserved.Goals as goal

pub returns : goal.returns
unfolding without_reserved
returns c =
    let given = c.args.ipv6 in
    let size : length given ≡ 16 = search rules in
    c.put_ends.ensures ∙ ends-put 15 0 8 8 9 given refl (omega arith) (omega arith)
