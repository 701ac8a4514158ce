-- Sixteen octets, as an array.
use mathlib.Core.Path.{◌∙◌}
use Rattle.output.proofs.Front.{filled}
use Rattle.steps.proofs.Lent.{kinds-size}
use Rattle.rules.specs.Answers.{most_owed}
use Rattle.steps.proofs.kinds_in.Goals as goal

pub returns : goal.returns
returns c =
    c.array_from.ensures ∙ filled most_owed _ (kinds-size c.args.lent.now c.told-lent)
