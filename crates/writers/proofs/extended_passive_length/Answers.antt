-- `writers::extended_passive_length` meets its contract.
use native.Mathlib.Omega.{arith}
use lib.ListN.{length-append}
use Rattle.rules.specs.Replies.{extended_passive_line}
use Rattle.writers.proofs.extended_passive_length.Goals as goal

pub returns : goal.returns
unfolding extended_passive_line
returns c = simp length-append (omega (arith, c.decimal_length.ensures.result))
