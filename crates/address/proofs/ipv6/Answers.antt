-- `address::ipv6`. No loop: readings of more than sixteen octets are no address, in the definition as in the code.
use mathlib.Core.Path.{◌∙◌}
use Rattle.address.proofs.Texts.{rest_part, ipv6-halves, ipv6-no-head, ipv6-no-tail, ipv6-whole, ipv6-no-groups}
use Rattle.address.proofs.ipv6.Goals as goal

pub returns-in_err-push_groups : goal.returns-in_err-push_groups
returns-in_err-push_groups c =
    rw c.from_residual.ensures (ipv6-no-groups _ c.in_default.ensures.halves (rw c.new-head.ensures at c.in_err-push_groups.ensures))

pub returns-in_default : goal.returns-in_default
returns-in_default c =
    c.whole.ensures ∙ ipv6-whole _ c.in_default.ensures.halves (rw c.new-head.ensures at c.in_ok-push_groups.ensures)

pub returns-in_err-push_half : goal.returns-in_err-push_half
returns-in_err-push_half c =
    rw c.from_residual-in_err-push_half.ensures (ipv6-no-head _ _ c.in-Some.ensures.halves (rw c.new-head.ensures at c.in_err-push_half.ensures))

pub returns-in_err-push_half-2 : goal.returns-in_err-push_half-2
returns-in_err-push_half-2 c =
    rw c.from_residual-in_err-push_half-2.ensures
    (ipv6-no-tail _ _ c.in-Some.ensures.halves (rw c.new-head.ensures at c.in_ok-push_half.ensures)
    (rw (c.new-tail.ensures, rest_part) at c.in_err-push_half-2.ensures))

pub returns : goal.returns
returns c =
    rw (c.filled.ensures, c.as_slice.ensures, c.as_slice-2.ensures)
    (ipv6-halves _ _ c.in-Some.ensures.halves (rw c.new-head.ensures at c.in_ok-push_half.ensures)
    (rw (c.new-tail.ensures, rest_part) at c.in_ok-push_half-2.ensures))
