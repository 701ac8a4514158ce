-- `replay::part_buffer`: it is as long as the longest part.
use Rattle.std.proofs.Common.{refl}
use Rattle.report.specs.Whole.{most_part}
use Rattle.replay.proofs.part_buffer.Goals as goal

pub returns-clause-most : goal.returns-clause-most
unfolding most_part
returns-clause-most c = refl
