-- `address::Octets::push`. No loop: a seventeenth octet is refused.
use mathlib.Core.Path.{◌≡◌, ◌∙◌}
use borrow.Author.Rules.{rules}
use lib.ListN.{length}
use Rattle.address.proofs.Readings.{octet-full}
use Rattle.address.proofs.Wholes.{held-length}
use Rattle.address.proofs.Octets.push.Goals as goal

pub returns-then-self-eq-IPV6 : goal.returns-then-self-eq-IPV6
returns-then-self-eq-IPV6 c =
    let size : length c.self.inside.octets ≡ 16 = search rules in
    octet-full _ _ (held-length _ _ _ c.self.view_is size c.self.invariant ∙ c.if-self-eq-IPV6.true)
