-- `address::Octets::push_half`. No loop: an empty side reads as nothing, any other as its groups.
use mathlib.Core.Path.{◌≡◌}
use borrow.Author.Rules.{rules}
use lib.ListN.{length}
use Rattle.address.proofs.Texts.{half-empty, half-groups}
use Rattle.address.proofs.Octets.push_half.Goals as goal

pub returns-then-is_empty : goal.returns-then-is_empty
returns-then-is_empty c =
    let none : length c.args.text.now ≡ 0 = search rules in
    half-empty _ _ _ none

pub returns : goal.returns
returns c =
    let some : length c.args.text.now ≡ 0 → ⊥ = search rules in
    rw (half-groups c.args.ends c.args.text.now some) c.push_groups.ensures
