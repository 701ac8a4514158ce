-- `eprt::fields_argument`. No loop: each leave is a law on what the field was read as.
use mathlib.Core.Bool.{true, false, not}
use mathlib.Core.List.{[], ◌∷◌}
use mathlib.Core.Path.{◌≡◌, ap, sym, ◌∙◌}
use native.Mathlib.Omega.{arith}
use borrow.Author.Tests.{not-true, not-false}
use lib.Dec.{eqb}
use Rattle.std.specs.Cmp.Lexicographic.{pointwise}
use Rattle.address.proofs.Numbers.{number-le}
use Rattle.octets.proofs.Words.{equal-pointwise}
use Rattle.eprt.proofs.Eprt.{other-protocol, unread-address, other-address, own-address}
use Rattle.eprt.proofs.fields_argument.Goals as goal

pub returns-then-ne : goal.returns-then-ne
returns-then-ne c =
    let other : pointwise eqb c.args.protocol.now (50 ∷ []) ≡ false = not-true _ (rw (c.ne.ensures, c.as_slice.ensures) at c.if-ne.true) in
    other-protocol _ _ _ _ (sym (equal-pointwise _ _) ∙ other)

pub returns-in_err-octets : goal.returns-in_err-octets
returns-in_err-octets c = rw c.from_residual.ensures (unread-address _ _ _ _ c.in_err-octets.ensures)

pub returns-then-not-same_address : goal.returns-then-not-same_address
returns-then-not-same_address c =
    other-address _ _ _ _ _ c.in_ok-octets.ensures (sym c.same_address.ensures ∙ not-true _ (ap not c.if-not-same_address.true))

pub returns-in_err-value : goal.returns-in_err-value
returns-in_err-value c =
    let two : pointwise eqb c.args.protocol.now (50 ∷ []) ≡ true = not-false _ (rw (c.ne.ensures, c.as_slice.ensures) at c.if-ne.false) in
    rw c.from_residual-in_err-value.ensures
    (c.in_err-value.ensures ∙ own-address _ _ _ _ _ (sym (equal-pointwise _ _) ∙ two) c.in_ok-octets.ensures (sym c.same_address.ensures ∙ not-false _ (ap not c.if-not-same_address.false)))

pub overflow_cast-result : goal.overflow_cast-result
overflow_cast-result c = omega (arith, number-le _ _ _ _ _ (sym c.in_ok-value.ensures))

pub returns : goal.returns
returns c =
    let two : pointwise eqb c.args.protocol.now (50 ∷ []) ≡ true = not-false _ (rw (c.ne.ensures, c.as_slice.ensures) at c.if-ne.false) in
    c.in_ok-value.ensures ∙ own-address _ _ _ _ _ (sym (equal-pointwise _ _) ∙ two) c.in_ok-octets.ensures (sym c.same_address.ensures ∙ not-false _ (ap not c.if-not-same_address.false))
