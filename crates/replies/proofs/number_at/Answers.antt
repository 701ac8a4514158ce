-- It hands on what `read_number` says of the run that `digits_end` ends.
use Rattle.std.proofs.Common.{Some, None, sym, ◌∙◌, arith}
use Rattle.rules.specs.Octets.{digit}
use Rattle.octets.proofs.Runs.{run_inside}
use Rattle.replies.proofs.Numbers.{number-limit, told_at}
use Rattle.replies.proofs.number_at.Goals as goal

pub slice_bounds-read_number-end : goal.slice_bounds-read_number-end
slice_bounds-read_number-end c = run_inside digit _ _ _ c.requires c.digits_end-end.ensures

pub returns-in_err-n : goal.returns-in_err-n
returns-in_err-n c =
    c.from_residual.ensures ∙ told_at _ _ _ None c.digits_end-end.ensures (sym c.in_err-n.was ∙ c.read_number.ensures)

pub overflow_cast-result : goal.overflow_cast-result
overflow_cast-result c = omega (arith, number-limit 3 0 255 _ _ (sym c.in_ok-n.was ∙ c.read_number.ensures))

pub returns : goal.returns
returns c = told_at _ _ _ (Some c.in_ok-n.n) c.digits_end-end.ensures (sym c.in_ok-n.was ∙ c.read_number.ensures)
