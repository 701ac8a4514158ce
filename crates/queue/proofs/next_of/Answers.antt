-- By the cases of the kind.
use mathlib.Core.Path.{ap, sym}
use Rattle.queue.specs.Heads.{next_of}
use Rattle.queue.proofs.next_of.Goals as goal

pub returns-in-Own : goal.returns-in-Own
returns-in-Own c = ap next_of (sym c.in-Own.is)
