use Rattle.std.proofs.Common.{ap, sym, ◌∙◌}
use Rattle.rules.specs.Octets.{space, is, trim_end}
use Rattle.lines.proofs.Trims.{trim-stripped, trim-whole}
use Rattle.lines.proofs.without_spaces.Goals as goal

pub loop-front-preserved : goal.loop-front-preserved
loop-front-preserved c =
    let h = rw c.in-Some.front-is at c.in-Some.ensures.cases in
    c.loop-front.invariant ∙ trim-stripped space c.loop-front.rest.now h.0 ∙ ap (trim_end (is space)) (sym h.1)

pub returns : goal.returns
returns c = trim-whole space c.loop-front.rest.now c.in_default.ensures.cases ∙ sym c.loop-front.invariant
