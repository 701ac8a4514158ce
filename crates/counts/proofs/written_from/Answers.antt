-- `counts::written_from` meets its contract: by the side.
use Rattle.counts.proofs.written_from.Goals as goal

pub returns-then-from_client : goal.returns-then-from_client
returns-then-from_client c = rw c.if-from_client.true

pub returns : goal.returns
returns c = rw c.if-from_client.false
