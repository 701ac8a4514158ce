-- By the length, then by the fifth octet where there is one.
use mathlib.Core.Path.{sym, ◌∙◌}
use native.Mathlib.Omega.{arith}
use lib.Seq.{length-take-le}
use Rattle.commands.proofs.Begins.{begins-short, begins-longer, begins-front}
use Rattle.commands.proofs.content_word.Goals as goal
use Rattle.commands.proofs.content_word.Goals.{else-n-gt4-via-then-n-gt4+else-content-ne32, else-n-gt4-via-else-n-gt4}

pub returns-then-n-lt4 : goal.returns-then-n-lt4
returns-then-n-lt4 c = begins-short _ c.if-n-lt4.true

pub returns-then-content-ne32 : goal.returns-then-content-ne32
returns-then-content-ne32 c = begins-longer _ c.if-n-gt4.true c.if-content-ne32.true

pub slice_bounds-command_word-end : goal.slice_bounds-command_word-end
slice_bounds-command_word-end c = sym (length-take-le 4 c.args.content.now c.if-n-lt4.false)

pub returns : goal.returns
returns c =
    c.command_word.ensures ∙ begins-front _
    (elim c.else-n-gt4.branch [
      | else-n-gt4-via-then-n-gt4+else-content-ne32 w ↦ λ k. w.if-content-ne32.false
      | else-n-gt4-via-else-n-gt4 w ↦ λ k. absurd (omega arith)
    ])
