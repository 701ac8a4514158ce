-- `records::with_layer` meets its contract: by the side.
use Rattle.records.proofs.with_layer.Goals as goal

pub returns-then-from_client : goal.returns-then-from_client
returns-then-from_client c = rw c.if-from_client.true c.with_layers.ensures

pub returns : goal.returns
returns c = rw c.if-from_client.false c.with_layers-2.ensures
