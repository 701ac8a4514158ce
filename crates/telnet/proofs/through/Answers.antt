-- `telnet::through` meets its contract: by whether the octets are lines.
use mathlib.Core.Path.{ap}
use mathlib.Core.Bool.{not}
use borrow.Author.Tests.{not-true, not-false}
use Rattle.telnet.proofs.Layers.{raw, layered}
use Rattle.telnet.proofs.through.Goals as goal

pub returns-then-not-in_lines : goal.returns-then-not-in_lines
returns-then-not-in_lines c = raw _ _ _ (not-true _ (ap not c.if-not-in_lines.true))

pub returns : goal.returns
returns c = layered _ _ _ (not-false _ (ap not c.if-not-in_lines.false)) c.octet-telnet.ensures c.removed_after.ensures
