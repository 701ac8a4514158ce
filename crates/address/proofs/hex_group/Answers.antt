use mathlib.Core.Path.{◌≡◌, sym, ◌∙◌}
use mathlib.Core.List.{[]}
use Prim.Native.Nat.{◌≤◌, ◌<◌}
use native.Mathlib.Omega.{arith}
use borrow.Author.Rules.{rules}
use lib.ListN.{length, drop, drop_of_length-le}
use Rattle.rules.specs.Octets.{every}
use Rattle.rules.specs.Address.{hex_digit, hex_from}
use Rattle.octets.proofs.Ranges.{is_within}
use Rattle.octets.proofs.Runs.{every-yes, every-not}
use Rattle.address.proofs.Tests.{within-not}
use Rattle.address.proofs.Hex.{digit-yes, digit_not, hex-below, more-digits, few-digits, hex_from-at, group-size, group-octets, group-read}
use Rattle.address.proofs.hex_group.Goals as goal

pub returns-then-is_empty : goal.returns-then-is_empty
returns-then-is_empty c =
    let none : length c.args.digits.now ≡ 0 = search rules in
    sym (group-size _ (within-not 1 4 (length c.args.digits.now) (λ a b. omega arith)))

pub returns-then-digits-gt4 : goal.returns-then-digits-gt4
returns-then-digits-gt4 c = sym (group-size _ (within-not 1 4 (length c.args.digits.now) (λ a b. omega arith)))

pub overflow_mul-value : goal.overflow_mul-value
overflow_mul-value c = omega (arith, few-digits _ _ c.loop-digit.invariant.0 (omega arith))

pub returns-in_err-hex_value : goal.returns-in_err-hex_value
returns-in_err-hex_value c =
    let l = c.loop-digit in
    rw c.from_residual.ensures
    (sym (group-octets _ (l.invariant.1 ∙ every-not hex_digit c.args.digits.now l.digit-index (omega arith) (digit_not _ c.in_err-hex_value.ensures))))

pub loop-digit-preserved : goal.loop-digit-preserved
loop-digit-preserved c =
    let l = c.loop-digit in
    let s = c.args.digits.now in
    let good = digit-yes _ c.in_ok-hex_value.ensures in
    let in-s : l.digit-index < length s = omega arith in
    rw c.from.ensures (
      more-digits _ _ _ l.invariant.0 (omega (arith, hex-below _ good.0)),
      l.invariant.1 ∙ every-yes hex_digit s l.digit-index in-s good.0,
      l.invariant.2 ∙ hex_from-at s l.digit-index in-s l.value ∙ rw good.1,
    )

pub overflow_cast-result : goal.overflow_cast-result
overflow_cast-result c = omega (arith, few-digits _ _ c.loop-digit.invariant.0 (omega arith))

pub returns : goal.returns
unfolding every hex_from
returns c =
    let l = c.loop-digit in
    let s = c.args.digits.now in
    let some : 1 ≤ length s = search rules in
    let end : drop l.digit-index s ≡ [] = drop_of_length-le s (omega arith) in
    sym (group-read s l.value (is_within 1 4 (length s) some (omega arith)) (l.invariant.1 ∙ rw end) (l.invariant.2 ∙ rw end))
