-- A line after another (`said-then`): the invariant is the contract itself, at the present position.
use mathlib.Core.Path.{◌≡◌}
use Prim.Native.Nat.{◌-◌, ◌≤◌}
use lib.ListN.{length}
use Rattle.arrivals.specs.PlainRuns.{SaidPlain}
use Rattle.arrivals.proofs.plain.client_lines.Given as goal

abbrev pub invariant-loop-i : goal.invariant-loop-i
invariant-loop-i l =
    SaidPlain l.octets l.from l.start l.before l.initial.lent l.initial.to_server l.first (record { taken = l.i; held = l.held; owed = l.owed; at = l.at }) l.lent l.to_server
    × (l.i ≤ length l.octets) × (length l.to_server ≡ length l.initial.to_server)

abbrev pub decreases-loop-i : goal.decreases-loop-i
decreases-loop-i l =
    length l.octets - l.i
