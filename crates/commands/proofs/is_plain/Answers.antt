-- By the word of the content: it is Other, or one of those before it.
use mathlib.Core.Path.{◌≡◌, refl, sym, ◌∙◌}
use mathlib.Core.Bool.{false}
use Rattle.commands.specs.Plain.{is_other}
use Rattle.commands.proofs.Words.{by-plain}
use Rattle.rules.specs.declared.CommandWord.{CommandWord}
use Rattle.commands.proofs.is_plain.Goals as goal

-- an arm for all but Other is another word
earlier : (k : CommandWord) → (k ≡ CommandWord.Other → ⊥) → false ≡ is_other k
unfolding is_other
earlier CommandWord.Epsv h = refl
earlier CommandWord.Eprt h = refl
earlier CommandWord.Algs h = refl
earlier CommandWord.Auth h = refl
earlier CommandWord.Other h = absurd (h refl)

pub returns-in-Other : goal.returns-in-Other
unfolding is_other
returns-in-Other c =
    by-plain _ c.content.ensures (sym c.in-Other.is ∙ c.content_word.ensures)

pub returns-in_default : goal.returns-in_default
returns-in_default c =
    earlier _ c.in_default.not-Other ∙ by-plain _ c.content.ensures c.content_word.ensures
