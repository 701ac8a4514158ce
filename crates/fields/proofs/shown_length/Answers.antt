-- `fields::shown_length` meets its contract: one octet, or three.
use mathlib.Core.Path.{sym, ◌∙◌}
use Rattle.fields.proofs.Fields.{as-itself, as-hex}
use Rattle.fields.proofs.shown_length.Goals as goal

pub returns-then-stands_as_itself : goal.returns-then-stands_as_itself
returns-then-stands_as_itself c = rw (as-itself c.args.x (sym c.stands_as_itself.ensures ∙ c.if-stands_as_itself.true))

pub returns-else-stands_as_itself : goal.returns-else-stands_as_itself
returns-else-stands_as_itself c = rw (as-hex c.args.x (sym c.stands_as_itself.ensures ∙ c.if-stands_as_itself.false))
