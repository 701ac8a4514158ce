-- `address::Octets::whole`. No loop: sixteen octets are the address.
use mathlib.Core.Path.{◌≡◌}
use borrow.Author.Rules.{rules}
use lib.ListN.{length}
use Rattle.address.proofs.Wholes.{eight-all, eight-short}
use Rattle.address.proofs.Octets.whole.Goals as goal

pub returns-then-self-eq-IPV6 : goal.returns-then-self-eq-IPV6
returns-then-self-eq-IPV6 c =
    let size : length c.self.inside.octets ≡ 16 = search rules in
    eight-all _ _ _ c.self.view_is size c.if-self-eq-IPV6.true

pub returns-else-self-eq-IPV6 : goal.returns-else-self-eq-IPV6
returns-else-self-eq-IPV6 c =
    let size : length c.self.inside.octets ≡ 16 = search rules in
    eight-short _ _ _ c.self.view_is size c.self.invariant c.if-self-eq-IPV6.false
