-- `writers::pair_length` meets its contract: two numbers of at most five digits, and a comma.
use native.Mathlib.Omega.{arith}
use mathlib.Core.Path.{◌≡◌, ap, ◌∙◌}
use Prim.Native.Nat.{ℕ}
use lib.ListN.{length, length-append}
use Rattle.rules.specs.Octets.{decimal}
use borrow.Author.Rules.{rules}
use Rattle.rules.specs.Commands.{commas}
use Rattle.writers.proofs.pair_length.Goals as goal

digits : {n m r : ℕ} → n ≡ m → r ≡ length (decimal n) → r ≡ length (decimal m)
digits same counted = counted ∙ ap (λ (k : ℕ). length (decimal k)) same

pub returns : goal.returns
unfolding commas
returns c = record { result = simp length-append (omega (arith, digits c.from.ensures c.decimal_length.ensures.result, digits c.from-2.ensures c.decimal_length-2.ensures.result)); most = search rules }
