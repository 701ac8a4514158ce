-- The invariant: the lines up to i are taken as their octets are; each turn adds one behind them.
use mathlib.Core.Path.{◌≡◌}
use Prim.Native.Nat.{◌-◌}
use lib.ListN.{length}
use Rattle.arrivals.specs.PlainRuns.{AnsweredPlain}
use Rattle.arrivals.proofs.plain.server_lines.Given as goal

abbrev pub invariant-loop-i : goal.invariant-loop-i
invariant-loop-i l =
    (AnsweredPlain l.octets l.from l.start l.before l.code l.initial.lent l.initial.to_client l.first
    (record { taken = l.i; held = l.held; owed = l.owed; opening = l.opening; at = l.at }) l.lent l.to_client)
    × (length l.to_client ≡ length l.initial.to_client)

abbrev pub decreases-loop-i : goal.decreases-loop-i
decreases-loop-i l =
    length l.octets - l.i
