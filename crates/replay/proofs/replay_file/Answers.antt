-- `replay::replay_file` ends: a part that is written leaves fewer calls.
use Rattle.report.proofs.Whole.{fewer-calls}
use Rattle.replay.proofs.replay_file.Goals as goal

pub loop-next-smaller : goal.loop-next-smaller
loop-next-smaller g c =
    rw (c.next-next.ensures.result, c.in-Ok.is) (fewer-calls c.args.file.now c.in-Ok.part.replay _)
