-- `telnet::removed_after` meets its contract: only octets removed are counted.
use Rattle.std.proofs.Common.{refl}
use Rattle.telnet.proofs.Layers.{removes}
use Rattle.telnet.proofs.removed_after.Goals as goal

pub returns-in-Removes : goal.returns-in-Removes
returns-in-Removes c = removes _ _ c.in-Removes.is refl
