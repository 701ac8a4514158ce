-- `fields::put_shown` meets its contract: the octet, or the three that show it, are put.
use mathlib.Core.Path.{sym, ◌∙◌}
use Rattle.output.proofs.Placing.{written}
use Rattle.fields.proofs.Fields.{as-itself, as-hex}
use Rattle.fields.proofs.put_shown.Goals as goal

pub returns-then-stands_as_itself : goal.returns-then-stands_as_itself
returns-then-stands_as_itself c =
    let a = c.args in
    written a.out.now a.at (sym (as-itself a.x (sym c.stands_as_itself.ensures ∙ c.if-stands_as_itself.true))) c.put.ensures

pub returns : goal.returns
returns c =
    let a = c.args in
    written a.out.now a.at
    (rw (as-hex a.x (sym c.stands_as_itself.ensures ∙ c.if-stands_as_itself.false), c.hex_digit.ensures, c.hex_digit-2.ensures))
    c.put-2.ensures
