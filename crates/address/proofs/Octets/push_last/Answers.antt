-- `address::Octets::push_last`. No loop: three dots make four parts.
use mathlib.Core.Path.{◌≡◌}
use native.Mathlib.Omega.{arith}
use borrow.Author.Tests.{ne_eqb}
use lib.ListN.{length}
use Rattle.rules.specs.Octets.{choose, dot, parts}
use Rattle.rules.specs.Address.{last_group}
use Rattle.address.proofs.Octets.push_last.Goals as goal

pub returns-then-times-eq3 : goal.returns-then-times-eq3
unfolding last_group choose
returns-then-times-eq3 c =
    let four : length (parts dot c.args.text.now) ≡ 4 = omega (arith, c.times.ensures) in
    rw four c.push_dotted.ensures

pub returns-else-times-eq3 : goal.returns-else-times-eq3
unfolding last_group choose
returns-else-times-eq3 c =
    let other = ne_eqb (length (parts dot c.args.text.now)) 4 (λ e. c.if-times-eq3.false (omega (arith, c.times.ensures))) in
    rw other c.push_group.ensures
