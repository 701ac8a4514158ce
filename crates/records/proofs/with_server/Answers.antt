-- `records::with_server` meets its contract: the parts are those it names.
use Rattle.records.proofs.with_server.Goals as goal

pub returns : goal.returns
returns c = rw (c.copied.ensures, c.copied-2.ensures)
