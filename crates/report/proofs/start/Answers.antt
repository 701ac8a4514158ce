-- `report::start` meets its contract: by the verdict.
use mathlib.Core.Path.{sym, ◌∙◌}
use native.Mathlib.Omega.{arith}
use Rattle.std.specs.Prelude.{Err}
use Rattle.files.specs.Contents.{verdict_number}
use Rattle.fields.proofs.Fields.{refused-length}
use Rattle.report.specs.Replays.{first_text_by, first_replay_by}
use Rattle.report.proofs.Parts.{first-put, header-put}
use Rattle.report.proofs.start.Goals as goal

pub returns-in-Err : goal.returns-in-Err
unfolding first_text_by first_replay_by
returns-in-Err c =
    let a = c.args in
    let fault = c.in-Err.fault in
    let put = c.put_refusal in
    let both = first-put a.file.now a.out.now (Err fault) (sym c.judge.ensures ∙ c.in-Err.is) c.no_replay.ensures (omega (arith, refused-length (verdict_number (Err fault)))) put.ensures.0 put.ensures.1 c.part_of.ensures in
    record { result = both.0; buffer = both.1 }

pub returns-in-Ok : goal.returns-in-Ok
returns-in-Ok c =
    let a = c.args in
    let put = c.put_header in let both = header-put a.file.now a.out.now (sym c.judge.ensures ∙ c.in-Ok.is) c.pair_at-count.ensures.result c.no_session.ensures put.ensures.0 put.ensures.1 c.part_of-in-Ok.ensures in record { result = both.0; buffer = both.1 }
