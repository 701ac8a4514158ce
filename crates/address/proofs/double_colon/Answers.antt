-- `address::double_colon`. The windows of two octets are the pairs of the text.
use mathlib.Core.Path.{◌≡◌}
use borrow.Author.Rules.{rules}
use borrow.Author.Tests.{tests}
use Rattle.std.specs.List.{position}
use Rattle.std.proofs.lemmas.Iterator.Search.{position_from_yields_List}
use Rattle.address.proofs.Halves.{pairs, double, windows-pairs, halves-position, position-within}
use Rattle.address.proofs.double_colon.Goals as goal

pub returns : goal.returns
returns c =
    let found : c.position.result ≡ position double (pairs c.args.text.now) =
    position_from_yields_List {v = λ x. x.now} {all = pairs c.args.text.now} double _ _ _ c.position.ensures.ran
    (windows-pairs _ _ c.windows.ensures.rest c.windows.ensures.size) (λ x b q k. search (rules, tests)) in
    rw found (record { halves = halves-position c.args.text.now; within = position-within c.args.text.now })
