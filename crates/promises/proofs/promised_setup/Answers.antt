-- `promises::promised_setup` meets its contract: it is the session's.
use Rattle.promises.proofs.Promises.{fresh-promised}
use Rattle.promises.proofs.promised_setup.Goals as goal

pub returns : goal.returns
returns c =
    let a = c.args in
    let e = c.setup.ensures in record { result = e; fresh = fresh-promised a.setup _ e }
