-- `arrivals::plain::may_end` meets its contract: what `false` promises is nothing; octets held before have no 255 where
-- none is found up to their end.
use native.Mathlib.Omega.{arith}
use borrow.Author.Rules.{rules}
use borrow.Author.Tests.{leb-true}
use Rattle.rules.specs.Octets.{iac, is_not}
use Rattle.octets.proofs.Runs.{every-reached}
use Rattle.arrivals.proofs.plain.may_end.Goals as goal

pub returns-then-before-eq0 : goal.returns-then-before-eq0
returns-then-before-eq0 c e =
    (omega arith, search rules, omega arith, c.requires c.if-before-eq0.true)

pub returns : goal.returns
returns c e =
    let a = c.args in
    (omega arith, search rules, omega arith, every-reached (is_not iac) a.line.now _ c.find_iac.ensures (leb-true _ _ e))
