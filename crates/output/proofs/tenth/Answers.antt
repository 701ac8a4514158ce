-- `output::tenth` meets its contract: a number of 16 bits lies below the bound of the law.
use native.Mathlib.Omega.{arith}
use Rattle.output.proofs.Tenths.{tenth-by-product}
use Rattle.output.proofs.tenth.Goals as goal

pub overflow_mul-result : goal.overflow_mul-result
overflow_mul-result c = omega (arith, (tenth-by-product c.args.n (omega arith)).0)

pub returns : goal.returns
returns c = omega (arith, (tenth-by-product c.args.n (omega arith)).1)
