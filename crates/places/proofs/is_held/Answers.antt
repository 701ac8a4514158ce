-- The two tests are one, and the number of octets is small.
use native.Mathlib.Omega.{arith}
use borrow.Author.Tests.{ltb-true}
use Rattle.rules.specs.Lines.{most_held}
use Rattle.places.proofs.Limit.{under-judged}
use Rattle.places.proofs.is_held.Goals as goal

pub returns : goal.returns
returns c = record { result = under-judged _; fits = λ h. omega (arith, ltb-true c.args.held most_held h) }
