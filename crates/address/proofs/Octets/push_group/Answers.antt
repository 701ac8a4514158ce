-- `address::Octets::push_group`. No loop: two octets more.
use mathlib.Core.Path.{◌≡◌}
use borrow.Author.Rules.{rules}
use lib.ListN.{length}
use Rattle.address.proofs.Readings.{reads-none, octets-off, octets-on}
use Rattle.address.proofs.Octets.push_group.Goals as goal

pub returns-in_err-high : goal.returns-in_err-high
returns-in_err-high c = rw c.from_residual.ensures (reads-none _ c.in_err-high.ensures)

pub returns-in_err-push : goal.returns-in_err-push
returns-in_err-push c =
    let size : length c.in_ok-high.field-0 ≡ 2 = search rules in
    rw c.from_residual-in_err-push.ensures (octets-off _ size c.in_ok-high.ensures _ c.in_err-push.ensures)

pub returns : goal.returns
returns c =
    let size : length c.in_ok-high.field-0 ≡ 2 = search rules in
    octets-on _ size c.in_ok-high.ensures _ c.in_ok-push.ensures c.push-2.ensures
