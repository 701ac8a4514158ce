-- By the cases of the kind.
use mathlib.Core.Path.{ap, sym, ◌∙◌}
use borrow.Author.Rules.{rules}
use Rattle.queue.specs.Kinds.{code_of}
use Rattle.queue.proofs.code_of.Goals as goal

pub returns-in-Plain : goal.returns-in-Plain
unfolding code_of
returns-in-Plain c = search rules

pub returns-in-TranslatedEpsv : goal.returns-in-TranslatedEpsv
unfolding code_of
returns-in-TranslatedEpsv c = search rules

pub returns-in-Own : goal.returns-in-Own
unfolding code_of
returns-in-Own c = c.answer_code.ensures ∙ ap code_of (sym c.in-Own.is)

pub returns-in-Auth : goal.returns-in-Auth
unfolding code_of
returns-in-Auth c = search rules
