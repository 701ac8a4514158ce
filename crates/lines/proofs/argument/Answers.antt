-- The argument starts where `run_of` says.
use Rattle.std.proofs.Common.{◌∙◌, arith}
use Rattle.rules.specs.Octets.{space, is, is_not}
use Rattle.octets.proofs.Runs.{run_inside}
use Rattle.lines.proofs.Parts.{argument-text}
use Rattle.lines.proofs.argument.Goals as goal

pub slice_bounds-without_spaces-count : goal.slice_bounds-without_spaces-count
slice_bounds-without_spaces-count c =
    let word_end = run_inside (is_not space) _ 0 _ (omega arith) c.find-word_end.ensures in
    run_inside (is space) _ _ _ word_end c.run_of-start.ensures

pub slice_bounds-without_spaces-start : goal.slice_bounds-without_spaces-start
slice_bounds-without_spaces-start c =
    let word_end = run_inside (is_not space) _ 0 _ (omega arith) c.find-word_end.ensures in
    run_inside (is space) _ _ _ word_end c.run_of-start.ensures

pub returns : goal.returns
returns c =
    c.without_spaces.ensures ∙ argument-text _ _ _ c.find-word_end.ensures c.run_of-start.ensures
