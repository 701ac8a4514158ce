-- `output::decimal_length` meets its contract: between two powers of ten the length is known.
use Rattle.std.proofs.Common.{sym, ap, length}
use native.Mathlib.Omega.{arith}
use Rattle.output.proofs.Decimal.{decimal-one, decimal-length}
use Rattle.output.proofs.decimal_length.Goals as goal

pub returns-in-0-to-9-clause-result : goal.returns-in-0-to-9-clause-result
returns-in-0-to-9-clause-result c = sym (ap length (decimal-one c.args.n (omega arith)))

pub returns-in-10-to-99-clause-result : goal.returns-in-10-to-99-clause-result
returns-in-10-to-99-clause-result c = sym (decimal-length 1 _ (omega arith) (omega arith))

pub returns-in-100-to-999-clause-result : goal.returns-in-100-to-999-clause-result
returns-in-100-to-999-clause-result c = sym (decimal-length 2 _ (omega arith) (omega arith))

pub returns-in-1000-to-9999-clause-result : goal.returns-in-1000-to-9999-clause-result
returns-in-1000-to-9999-clause-result c = sym (decimal-length 3 _ (omega arith) (omega arith))

pub returns-in_default-clause-result : goal.returns-in_default-clause-result
returns-in_default-clause-result c = sym (decimal-length 4 _ (omega arith) (omega arith))
