-- `fields::hex_digit` meets its contract: below ten or not.
use native.Mathlib.Omega.{arith}
use borrow.Author.Tests.{lt-ltb, le-ltb}
use Rattle.rules.specs.Octets.{choose}
use Rattle.fields.specs.Report.{hex_glyph}
use Rattle.fields.proofs.hex_digit.Goals as goal

pub returns-then-n-lt10 : goal.returns-then-n-lt10
unfolding hex_glyph choose
returns-then-n-lt10 c = rw (lt-ltb c.args.n 10 c.if-n-lt10.true)

pub returns-else-n-lt10 : goal.returns-else-n-lt10
unfolding hex_glyph choose
returns-else-n-lt10 c = rw (le-ltb c.args.n 10 c.if-n-lt10.false) (omega arith)
