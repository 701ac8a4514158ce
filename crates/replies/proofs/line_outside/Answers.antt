-- By the code and the octet behind it.
use Rattle.std.proofs.Common.{◌≡◌, get_or, sym, ap, ◌∙◌, arith}
use Rattle.std.specs.Option.{unwrap_or}
use Rattle.rules.specs.Octets.{space}
use Rattle.rules.specs.declared.ReplyLine.{ReplyLine}
use Rattle.replies.proofs.Codes.{code-long, no-choice, the-choice, outside-none, outside-ends, outside-opens, outside-alone}
use Rattle.replies.proofs.line_outside.Goals as goal

pub returns-in_default : goal.returns-in_default
returns-in_default c = outside-none _ (no-choice _ _ (sym c.code_of.ensures ∙ c.in_default.is))

pub reply_end-requires : goal.reply_end-requires
reply_end-requires c = omega (arith, code-long _ (the-choice _ _ _ (sym c.code_of.ensures ∙ c.in-Some.is)).0)

pub returns-in-32 : goal.returns-in-32
returns-in-32 c =
    let code = the-choice _ _ _ (sym c.code_of.ensures ∙ c.in-Some.is) in
    let read : unwrap_or c.copied.result space ≡ get_or c.args.content.now 3 space = rw c.copied.ensures (c.get.ensures.lookup.4 (omega arith) space) in
    let behind = c.unwrap_or.ensures ∙ read in
    c.reply_end.ensures ∙ outside-ends _ code.0 (omega (arith, behind))

pub returns-in-45 : goal.returns-in-45
returns-in-45 c =
    let code = the-choice _ _ _ (sym c.code_of.ensures ∙ c.in-Some.is) in
    let read : unwrap_or c.copied.result space ≡ get_or c.args.content.now 3 space = rw c.copied.ensures (c.get.ensures.lookup.4 (omega arith) space) in
    let behind = c.unwrap_or.ensures ∙ read in
    ap ReplyLine.Opens code.1 ∙ outside-opens _ code.0 (omega (arith, behind))

pub returns-in_default-unwrap_or : goal.returns-in_default-unwrap_or
returns-in_default-unwrap_or c =
    let code = the-choice _ _ _ (sym c.code_of.ensures ∙ c.in-Some.is) in
    let read : unwrap_or c.copied.result space ≡ get_or c.args.content.now 3 space = rw c.copied.ensures (c.get.ensures.lookup.4 (omega arith) space) in
    let behind = c.unwrap_or.ensures ∙ read in
    outside-alone _ code.0 (λ z. omega (arith, behind)) (λ z. omega (arith, behind))
