-- `promises::promised_offset` meets its contract: it is the session's.
use mathlib.Core.Path.{◌∙◌}
use Rattle.promises.proofs.Promises.{offset-promised}
use Rattle.promises.proofs.promised_offset.Goals as goal

pub returns : goal.returns
returns c =
    let e = c.offset.ensures in record { result = e; offset = λ h. e ∙ offset-promised c.args.session c.args.direction h }
