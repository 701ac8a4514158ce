-- By what stands behind the code and its space.
use Rattle.std.proofs.Common.{◌∙◌, arith}
use Rattle.rules.specs.Octets.{not_digit}
use Rattle.octets.proofs.Runs.{run_inside}
use Rattle.replies.proofs.Codes.{without-227, with-227}
use Rattle.replies.proofs.passive_reply.Goals as goal

pub returns-in_err-text : goal.returns-in_err-text
returns-in_err-text c = c.from_residual.ensures ∙ without-227 _ c.in_err-text.ensures.cases

pub named_at-requires : goal.named_at-requires
named_at-requires c = run_inside not_digit _ 0 _ (omega arith) c.first_digit-from.ensures

pub returns : goal.returns
returns c =
    let cases = c.in_ok-text.ensures.cases in
    c.named_at.ensures ∙ with-227 _ _ _ cases.0 cases.1 c.first_digit-from.ensures
