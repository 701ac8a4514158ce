-- By the tests of its octets.
use Rattle.std.proofs.Common.{◌≡◌, true, false, get_or, sym, ◌∙◌, refl, rules, tests}
use Rattle.rules.specs.Octets.{within}
use Rattle.replies.proofs.Codes.{code-short, no-code, a-code, code-by}
use Rattle.replies.proofs.code_of.Goals as goal
use Rattle.replies.proofs.code_of.Goals.{then-not-contains-via-then-not-contains, then-not-contains-via-else-not-contains+then-not-is_ascii_digit, then-not-contains-via-else-not-contains+else-not-is_ascii_digit+then-not-is_ascii_digit-2}

pub returns-in_default : goal.returns-in_default
returns-in_default c = no-code _ (code-short _ c.in_default.len_below)

pub returns-then-not-contains : goal.returns-then-not-contains
returns-then-not-contains c =
    let s = c.args.content.now in
    let first : c.contains.result ≡ within 49 53 (get_or s 0 0) = search (rules, tests) in
    elim c.then-not-contains.branch [
      | then-not-contains-via-then-not-contains w ↦ no-code s (code-by s false _ _ (sym w.if-not-contains.true ∙ first) refl refl)
      | then-not-contains-via-else-not-contains+then-not-is_ascii_digit w ↦
          no-code s (code-by s true false _ (sym w.if-not-contains.false ∙ first) (sym w.if-not-is_ascii_digit.true ∙ w.is_ascii_digit.ensures.value) refl)
      | then-not-contains-via-else-not-contains+else-not-is_ascii_digit+then-not-is_ascii_digit-2 w ↦
          no-code s (code-by s true true false (sym w.if-not-contains.false ∙ first) (sym w.if-not-is_ascii_digit.false ∙ w.is_ascii_digit.ensures.value) (sym w.if-not-is_ascii_digit-2.true ∙ w.is_ascii_digit-else-not-is_ascii_digit.ensures.value))
    ]

pub returns : goal.returns
returns c =
    let s = c.args.content.now in
    let first : c.contains.result ≡ within 49 53 (get_or s 0 0) = search (rules, tests) in
    let code = code-by s true true true (sym c.if-not-contains.false ∙ first) (sym c.if-not-is_ascii_digit.false ∙ c.is_ascii_digit.ensures.value) (sym c.if-not-is_ascii_digit-2.false ∙ c.is_ascii_digit-else-not-is_ascii_digit.ensures.value) in
    rw (c.from.ensures, c.from-tens.ensures, c.from-2.ensures) (a-code s code)
