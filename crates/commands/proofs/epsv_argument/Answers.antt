-- By the tests on the way, in the order of the definition.
use mathlib.Core.Path.{◌≡◌, refl}
use borrow.Author.Rules.{rules}
use lib.ListN.{length}
use native.Mathlib.Omega.{arith}
use Rattle.rules.specs.Octets.{digit}
use Rattle.octets.proofs.Runs.{every-reached}
use Rattle.octets.proofs.Choices.{chosen, passed}
use Rattle.commands.proofs.Digits.{epsv-empty, epsv-digits, epsv-text}
use Rattle.commands.proofs.epsv_argument.Goals as goal

pub returns-then-is_empty : goal.returns-then-is_empty
returns-then-is_empty c =
    let none : length c.args.argument.now ≡ 0 = search rules in
    epsv-empty _ none

pub protocol-requires : goal.protocol-requires
protocol-requires c =
    let some : length c.args.argument.now ≡ 0 → ⊥ = search rules in
    (omega arith, every-reached digit _ _ c.digits_end.ensures (omega arith))

pub returns-then-digits_end-argument : goal.returns-then-digits_end-argument
returns-then-digits_end-argument c =
    let some : length c.args.argument.now ≡ 0 → ⊥ = search rules in
    epsv-digits _ _ _ some c.digits_end.ensures c.if-digits_end-argument.true
    c.protocol.ensures

pub returns-then-alike : goal.returns-then-alike
returns-then-alike c =
    let some : length c.args.argument.now ≡ 0 → ⊥ = search rules in
    epsv-text _ _ _ some c.digits_end.ensures
    c.if-digits_end-argument.false
    (chosen _ c.alike.ensures c.if-alike.true refl)

pub returns : goal.returns
returns c =
    let some : length c.args.argument.now ≡ 0 → ⊥ = search rules in
    epsv-text _ _ _ some c.digits_end.ensures
    c.if-digits_end-argument.false
    (passed _ c.alike.ensures c.if-alike.false refl)
