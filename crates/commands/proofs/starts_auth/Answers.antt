-- A line of under five octets by its length, any other by its first five.
use mathlib.Core.Path.{◌∙◌}
use borrow.Author.Tests.{lt-leb}
use Rattle.rules.specs.Lines.{starts_auth}
use Rattle.commands.proofs.Words.{auth-short}
use Rattle.commands.proofs.starts_auth.Goals as goal

pub returns-then-line-ge5 : goal.returns-then-line-ge5
unfolding starts_auth
returns-then-line-ge5 c = c.alike.ensures

pub returns-else-line-ge5 : goal.returns-else-line-ge5
returns-else-line-ge5 c = lt-leb 5 _ c.if-line-ge5.false ∙ auth-short _ c.if-line-ge5.false
