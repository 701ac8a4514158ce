-- `steps::next_octet` meets its contract: nothing is taken from what can't be, with a full queue or without room.
use mathlib.Core.Path.{sym, ap, ◌∙◌}
use mathlib.Core.List.{List}
use Prim.Native.Nat.{ℕ}
use lib.ListN.{length}
use Rattle.records.specs.declared.Control.{Control}
use Rattle.records.specs.Sound.{side_if, Counted}
use Rattle.steps.specs.declared.Written.{Written}
use Rattle.steps.specs.Takes.{fixed_lent}
use Rattle.steps.specs.Core.{Bounded}
use Rattle.steps.proofs.Nexts.{not-lent, as-array, within-facts, next-refused, next-full, next-unfit, next_fits}
use Rattle.steps.proofs.next_octet.Goals as goal

counts : {c : Control} {w : Written} {to_server to_client : List ℕ} → Bounded c w to_server to_client → Counted c
counts bounded = record { owed = bounded.owed; command = bounded.command; reply = bounded.reply }

pub returns-in_default-clause-stepped : goal.returns-in_default-clause-stepped
returns-in_default-clause-stepped c =
    let a = c.args in
    let no = not-lent a.control (length a.lent.now) (length a.to_server.now) (length a.to_client.now) a.written c.in_default.ensures.cases in
    rw c.answered.ensures (next-refused (fixed_lent a.supported a.strict a.lent.now) (side_if a.from_client) a.x _ no)

pub returns-then-not-within-clause-stepped : goal.returns-then-not-within-clause-stepped
returns-then-not-within-clause-stepped c =
    let a = c.args in
    let array = c.in-Some.ensures.cases in
    let no = as-array a.control a.lent.now a.to_server.now a.to_client.now a.written array.long c.if-not-within.ensures in
    rw (c.answered-then-not-within.ensures, array.same) (next-refused (fixed_lent a.supported a.strict a.lent.now) (side_if a.from_client) a.x _ no)

pub returns-then-queue_full-clause-stepped : goal.returns-then-queue_full-clause-stepped
returns-then-queue_full-clause-stepped c =
    let a = c.args in
    let array = c.in-Some.ensures.cases in
    let can = as-array a.control a.lent.now a.to_server.now a.to_client.now a.written array.long c.if-not-within.ensures in
    let full = sym c.queue_full.ensures ∙ c.if-queue_full.true in
    rw (c.answered-then-queue_full.ensures, array.same) (next-full (fixed_lent a.supported a.strict a.lent.now) (side_if a.from_client) a.x _ can full)

pub lent_octet-requires-clause-bounds : goal.lent_octet-requires-clause-bounds
lent_octet-requires-clause-bounds c =
    let a = c.args in
    within-facts a.control a.to_server.now a.to_client.now a.written (sym c.if-not-within.ensures)

pub returns-in_default-lent_octet-clause-stepped : goal.returns-in_default-lent_octet-clause-stepped
returns-in_default-lent_octet-clause-stepped c =
    let a = c.args in
    let array = c.in-Some.ensures.cases in
    let lent = c.in-Some.lent.now in
    let can = as-array a.control lent a.to_server.now a.to_client.now a.written (ap length array.same ∙ array.long) c.if-not-within.ensures in
    let room = sym c.queue_full.ensures ∙ c.if-queue_full.false in
    let o = c.in_default-lent_octet.ensures.stepped in
    rw (c.answered-in_default-lent_octet.ensures, sym array.same)
    (next-unfit (fixed_lent a.supported a.strict lent) (side_if a.from_client) a.x _ can room o.fits o.core)

pub returns-clause-stepped : goal.returns-clause-stepped
returns-clause-stepped c =
    let a = c.args in
    let array = c.in-Some.ensures.cases in
    let lent = c.in-Some.lent.now in
    let can = as-array a.control lent a.to_server.now a.to_client.now a.written (ap length array.same ∙ array.long) c.if-not-within.ensures in
    let room = sym c.queue_full.ensures ∙ c.if-queue_full.false in
    let o = c.in-Some-lent_octet.ensures.stepped in
    rw (c.answered-2.ensures, sym array.same) (next_fits (fixed_lent a.supported a.strict lent) (side_if a.from_client) a.x _ can room o.fits o.core)

pub returns-clause-counts : goal.returns-clause-counts
returns-clause-counts c =
    rw c.answered-2.ensures (λ _. counts c.in-Some-lent_octet.ensures.stepped.bounded)
