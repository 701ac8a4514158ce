-- `address::times`. There is one part more than there are of the octet.
use mathlib.Core.Path.{◌≡◌}
use borrow.Author.Rules.{rules}
use lib.Dec.{eqb}
use Rattle.std.specs.Prelude.{count_by}
use Rattle.address.proofs.Parts.{parts-count}
use Rattle.address.proofs.times.Goals as goal

pub returns : goal.returns
returns c =
    let counted : c.count.result ≡ count_by (λ y. eqb y c.args.x) c.args.s.now = search rules in
    rw counted (parts-count c.args.x c.args.s.now)
