-- `report::left_after`: one less after the answer 0, else none.
use mathlib.Core.Path.{◌∙◌}
use Rattle.report.proofs.Texts.{none_after, one_less}
use Rattle.report.proofs.left_after.Goals as goal

pub returns-in-Done : goal.returns-in-Done
returns-in-Done c = let a = c.args in c.saturating_sub.ensures ∙ one_less a.answer a.left c.in-Done.is

pub returns-in_default : goal.returns-in_default
returns-in_default c = let a = c.args in none_after a.answer a.left c.in_default.not-Done
