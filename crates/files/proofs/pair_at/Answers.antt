-- `files::pair_at` meets its contract: past the end of a list there is 0.
use mathlib.Core.Path.{◌∙◌}
use native.Mathlib.Nat.{add-zero}
use native.Mathlib.Omega.{arith}
use lib.Seq.{get_or-drop}
use Rattle.files.proofs.Tables.{past_end, high-low}
use Rattle.files.proofs.pair_at.Goals as goal

pub returns-in_default : goal.returns-in_default
returns-in_default c =
    let a = c.args in record { result = past_end a.file.now a.at (omega (arith, c.in_default.ensures)); most = omega arith }

pub returns-clause-result : goal.returns-clause-result
returns-clause-result c =
    let a = c.args in
    let file = a.file.now in
    let behind = c.in-Some.ensures.cases.2 in
    c.from_be_bytes.ensures ∙ high-low file a.at
    (c.octet_at.ensures ∙ rw (behind, get_or-drop a.at file 0 0, add-zero a.at))
    (c.octet_at-2.ensures ∙ rw (behind, get_or-drop a.at file 1 0))
