-- By the tests on the number of octets and on AUTH.
use native.Mathlib.Omega.{arith}
use Rattle.upstream.specs.Upstream.{join_effect}
use Rattle.octets.proofs.Choices.{chosen, passed}
use Rattle.upstream.proofs.join_effect.Goals as goal

pub overflow_add-held : goal.overflow_add-held
overflow_add-held c = omega (arith, c.is_held.ensures.fits c.if-is_held.true)

pub returns-then-is_held : goal.returns-then-is_held
unfolding join_effect
returns-then-is_held c = chosen _ c.is_held.ensures.result c.if-is_held.true c.unowed.ensures

pub returns-then-starts_auth : goal.returns-then-starts_auth
unfolding join_effect
returns-then-starts_auth c = passed _ c.is_held.ensures.result c.if-is_held.false (chosen _ c.starts_auth.ensures c.if-starts_auth.true c.owed.ensures)

pub returns : goal.returns
unfolding join_effect
returns c = passed _ c.is_held.ensures.result c.if-is_held.false (passed _ c.starts_auth.ensures c.if-starts_auth.false c.unowed-2.ensures)
