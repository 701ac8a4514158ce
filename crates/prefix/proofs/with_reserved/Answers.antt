-- `prefix::with_reserved` meets its contract: the octets before the reserved one, and one octet on those behind it.
use mathlib.Core.Path.{◌≡◌, refl, ◌∙◌}
use native.Mathlib.Omega.{arith}
use lib.ListN.{length}
use borrow.Author.Rules.{rules}
use Rattle.prefix.specs.Prefix.{with_reserved}
use Rattle.prefix.proofs.Puts.{ends-put}
use Rattle.prefix.proofs.with_reserved.Goals as goal

pub returns : goal.returns
unfolding with_reserved
returns c =
    let given = c.args.parts in
    let size : length given ≡ 15 = search rules in
    c.put_ends.ensures ∙ ends-put 16 1 9 8 8 given refl (omega arith) (omega arith)
