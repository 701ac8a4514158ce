-- By the cases of the number; where none of the eight fits, each test is false.
use mathlib.Core.Path.{ap, sym, ◌∙◌}
use Rattle.rules.specs.Octets.{choose}
use Rattle.queue.specs.Kinds.{kind_of}
use native.Mathlib.Omega.{arith}
use Rattle.queue.proofs.kind_of.Goals as goal

pub returns-in-1 : goal.returns-in-1
unfolding kind_of choose
returns-in-1 c = ap kind_of (sym c.in-1.is)

pub returns-in-2 : goal.returns-in-2
unfolding kind_of choose
returns-in-2 c = ap kind_of (sym c.in-2.is)

pub returns-in-3 : goal.returns-in-3
unfolding kind_of choose
returns-in-3 c = ap kind_of (sym c.in-3.is)

pub returns-in-4 : goal.returns-in-4
unfolding kind_of choose
returns-in-4 c = c.state_kind.ensures ∙ ap kind_of (sym c.in-4.is)

pub returns-in-5 : goal.returns-in-5
unfolding kind_of choose
returns-in-5 c = c.state_kind-in-5.ensures ∙ ap kind_of (sym c.in-5.is)

pub returns-in-6 : goal.returns-in-6
unfolding kind_of choose
returns-in-6 c = c.state_kind-in-6.ensures ∙ ap kind_of (sym c.in-6.is)

pub returns-in-7 : goal.returns-in-7
unfolding kind_of choose
returns-in-7 c = c.state_kind-in-7.ensures ∙ ap kind_of (sym c.in-7.is)

pub returns-in-8 : goal.returns-in-8
unfolding kind_of choose
returns-in-8 c = ap kind_of (sym c.in-8.is)

pub returns-in_default : goal.returns-in_default
unfolding kind_of choose
returns-in_default c = grind arith
