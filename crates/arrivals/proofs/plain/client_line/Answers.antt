-- The octets up to an LF are held (`line-held`); if the line is plain, its LF ends it (`line-ended`).
use mathlib.Core.Path.{◌≡◌, sym, subst, ◌∙◌}
use mathlib.Core.Bool.{true}
use mathlib.Core.List.{List}
use Prim.Native.Nat.{ℕ, ◌+◌, ◌-◌}
use native.Mathlib.Omega.{arith}
use borrow.Rule.Slice.PartMut.{put_mid}
use Rattle.rules.specs.Octets.{iac, is_not, every}
use Rattle.rules.specs.Lines.{most_held}
use Rattle.records.specs.Layout.{lent_command}
use Rattle.arrivals.specs.PlainRuns.{SaidPlain}
use Rattle.arrivals.proofs.Runs.{no-iacs}
use Rattle.arrivals.proofs.LineEnds.{room-itself, put-itself}
use Rattle.arrivals.proofs.PlainLines.{said-then, lent-size, all-arrived, line-held, line-ended}
use Rattle.arrivals.proofs.plain.client_line.Goals as goal
use Rattle.arrivals.proofs.plain.client_line.Goals.{After-hold_run-j}

-- what `hold_run` put into the client's line is held
held-here : (c : After-hold_run-j)
    → (let a = c.args in
    let j = c.hold_run-j.result in
    SaidPlain a.octets.now a.i a.held a.owed a.lent.now a.to_server.now a.at
    (record { taken = j; held = a.held + (j - a.i); owed = a.owed; at = a.at })
    (put_mid lent_command most_held a.lent.now c.hold_run-j.new.line) a.to_server.now)
held-here c =
    let a = c.args in
    let r = c.hold_run-j.ensures in
    line-held a.octets.now a.held a.lent.now c.told-lent r.within.0 r.within.1 r.within.2 r.buffer a.owed a.to_server.now a.at
    r.run c.requires.counts.1 c.requires.counts.2 c.requires.within.1

pub text-line-requires : goal.text-line-requires
text-line-requires c =
    let r = c.hold_run-j.ensures in
    let a = c.args in
    all-arrived a.octets.now a.held a.lent.now c.told-lent r.within.0 r.within.1 r.within.2 r.buffer

-- a line of which none was held before is ordinary octets of the arrival
pub may_end-requires : goal.may_end-requires
may_end-requires c e =
    let a = c.args in
    let r = c.hold_run-j.ensures in
    let arrived = all-arrived a.octets.now a.held a.lent.now c.told-lent r.within.0 r.within.1 r.within.2 r.buffer e in
    subst (λ (l : List ℕ). every (is_not iac) l ≡ true) (arrived ∙ sym c.text-line.ensures) (no-iacs _ r.run)

pub returns-then-is_plain : goal.returns-then-is_plain
returns-then-is_plain c =
    let a = c.args in
    let pre = c.requires in
    let r = c.hold_run-j.ensures in
    let forward = r.within.0 in
    let held = held-here (goal.at.returns-then-is_plain c).After-hold_run-j in
    let all = lent-size a.octets.now a.held a.lent.now c.told-lent forward r.within.1 r.within.2 r.buffer in
    let may = c.may_end.ensures c.if-may_end.true in
    let plain = sym c.is_plain.ensures ∙ c.if-is_plain.true in
    let text = c.text-line.ensures in
    let put = put-itself _ may.3 a.to_server.now a.at c.put_ended-next.ensures in
    let ended = line-ended a.octets.now (a.held + (c.hold_run-j.result - a.i)) a.owed (put_mid lent_command most_held a.lent.now c.hold_run-j.new.line) all
    a.to_server.now a.at may.0 may.1 held.held pre.counts.1 held.still pre.within.1 (room-itself _ may.3 may.2) text plain put.0
    put.1 in (said-then held ended, omega arith)

pub returns-else-is_plain : goal.returns-else-is_plain
returns-else-is_plain c = held-here (goal.at.returns-else-is_plain c).After-hold_run-j

pub returns-else-may_end : goal.returns-else-may_end
returns-else-may_end c = held-here (goal.at.returns-else-may_end c).After-hold_run-j
