use Rattle.std.proofs.Common.{sym, ◌∙◌, ◌<◌, ◌≤◌, length, arith, rules, tests}
use Rattle.std.proofs.lemmas.Iterator.{YieldsList-from_slice}
use Rattle.std.proofs.lemmas.Iterator.Search.{all_from_yields_List}
use Rattle.std.proofs.lemmas.Bool.Decides.{nat_tests}
use Rattle.rules.specs.Octets.{digit}
use Rattle.octets.proofs.Ranges.{is_within, is_below, is-above}
use Rattle.octets.proofs.Runs.{every-all}
use Rattle.octets.proofs.Values.{number_digits, number-length, number-not-digits}
use Rattle.octets.proofs.read_number.Goals as goal
use Rattle.octets.proofs.read_number.Goals.{then-is_empty-via-then-is_empty, then-is_empty-via-else-is_empty+then-s-most, then-is_empty-via-else-is_empty+else-s-most+then-not-all}

pub returns-then-is_empty : goal.returns-then-is_empty
returns-then-is_empty c =
    let s = c.args.s.now in
    elim c.then-is_empty.branch [
      | then-is_empty-via-then-is_empty w ↦
          let none : length s < 1 = grind (arith, nat_tests) in sym (number-length _ _ _ _ (is_below _ _ _ none))
      | then-is_empty-via-else-is_empty+then-s-most w ↦ sym (number-length _ _ _ _ (is-above _ _ _ w.if-s-most.true))
      | then-is_empty-via-else-is_empty+else-s-most+then-not-all w ↦
          let some : 1 ≤ length s = grind (arith, nat_tests) in
          let all = all_from_yields_List digit _ _ w.all.result w.all.ensures.ran (YieldsList-from_slice s cc) (λ x b q k. search (rules, tests)) in
          sym (number-not-digits _ _ _ _ (is_within _ _ _ some w.if-s-most.false) (every-all digit s ∙ sym all ∙ w.if-not-all.true))
    ]

pub value-requires : goal.value-requires
value-requires c =
    let all = all_from_yields_List digit _ _ c.all.result c.all.ensures.ran (YieldsList-from_slice c.args.s.now cc) (λ x b q k. search (rules, tests)) in
    every-all digit c.args.s.now ∙ sym all ∙ c.if-not-all.false

pub returns : goal.returns
returns c =
    let s = c.args.s.now in
    let some : 1 ≤ length s = grind (arith, nat_tests) in
    let all = all_from_yields_List digit _ _ c.all.result c.all.ensures.ran (YieldsList-from_slice s cc) (λ x b q k. search (rules, tests)) in
    c.value.ensures ∙ sym (number_digits _ _ _ _ (is_within _ _ _ some c.if-s-most.false) (every-all digit s ∙ sym all ∙ c.if-not-all.false))
