-- `records::with_client` meets its contract: the parts are those it names.
use Rattle.records.proofs.with_client.Goals as goal

pub returns : goal.returns
returns c = rw (c.copied.ensures, c.copied-2.ensures)
