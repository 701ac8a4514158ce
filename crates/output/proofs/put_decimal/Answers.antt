-- `output::put_decimal` meets its contract: the last digits of the five are the number in decimal.
use mathlib.Core.Path.{◌≡◌, subst}
use mathlib.Core.List.{List, [], ◌∷◌}
use Prim.Native.Nat.{ℕ}
use native.Mathlib.Omega.{arith}
use Rattle.output.proofs.Decimal.{digits, decimal-part}
use Rattle.output.proofs.Placing.{Wrote}
use Rattle.output.proofs.put_decimal.Goals as goal

pub returns : goal.returns
unfolding digits
returns c =
    let a = c.args in
    let five : c.digit.result ∷ c.digit-2.result ∷ c.digit-3.result ∷ c.digit-4.result ∷ c.digit-5.result ∷ [] ≡ digits 5 a.n = cc in
    let part = decimal-part 4 a.n _ c.decimal_length-start.result (omega arith) five c.decimal_length-start.ensures.result in
    subst (λ (l : List ℕ). Wrote a.out.now a.at l c.put.result c.put.new.out) part
    c.put.ensures
