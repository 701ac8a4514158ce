-- By the cases of the word.
use mathlib.Core.Path.{refl, sym, ◌∙◌}
use Rattle.rules.specs.Commands.{word_command}
use Rattle.commands.proofs.Words.{by_word}
use Rattle.commands.proofs.command.Goals as goal

pub returns-in-Epsv : goal.returns-in-Epsv
unfolding word_command
returns-in-Epsv c =
    c.epsv_command.ensures ∙ by_word _ _ _ c.content-content.ensures c.argument.ensures
    (sym c.in-Epsv.is ∙ c.content_word.ensures)

pub returns-in-Eprt : goal.returns-in-Eprt
unfolding word_command
returns-in-Eprt c =
    c.eprt_command.ensures ∙ by_word _ _ _ c.content-content.ensures c.argument-in-Eprt.ensures
    (sym c.in-Eprt.is ∙ c.content_word.ensures)

pub returns-in-Algs : goal.returns-in-Algs
unfolding word_command
returns-in-Algs c =
    c.algs_command.ensures ∙ by_word _ _ _ c.content-content.ensures c.argument-in-Algs.ensures
    (sym c.in-Algs.is ∙ c.content_word.ensures)

pub returns-in-Auth : goal.returns-in-Auth
unfolding word_command
returns-in-Auth c =
    by_word _ _ _ c.content-content.ensures refl (sym c.in-Auth.is ∙ c.content_word.ensures)

pub returns-in-Other : goal.returns-in-Other
unfolding word_command
returns-in-Other c =
    by_word _ _ _ c.content-content.ensures refl (sym c.in-Other.is ∙ c.content_word.ensures)
