-- No run where number 1 is given or something is left to settle, else one of the direction, with its own line.
use mathlib.Core.Path.{◌≡◌, sym, ap, ◌∙◌}
use mathlib.Core.Bool.{Bool, false, not}
use native.Mathlib.Omega.{arith}
use lib.ListN.{length}
use borrow.Author.Tests.{not-false}
use Rattle.rules.specs.Telnet.{is_clear}
use Rattle.rules.specs.declared.Telnet.{Telnet}
use Rattle.rules.specs.declared.Layer.{Layer}
use Rattle.telnet.proofs.Layers.{clear-is}
use Rattle.records.specs.Sound.{side_if}
use Rattle.steps.specs.Takes.{core_in}
use Rattle.steps.proofs.Halves.{command-size, reply-size, reply-lent}
use Rattle.arrivals.proofs.Parts.{ran-none}
use Rattle.arrivals.proofs.LentRuns.{command-ran, reply-ran}
use Rattle.arrivals.proofs.running.any_run.Goals as goal

-- what the code's test of the layer says
clear_of : {l m : Layer} {b : Bool} → l ≡ m → b ≡ is_clear l.telnet → not b ≡ false → m.telnet ≡ Telnet.Clear
clear_of {l} {m} {b} e f n = clear-is m.telnet (sym (f ∙ ap (λ (k : Layer). is_clear k.telnet) e) ∙ not-false b n)

pub returns-then-queue_full : goal.returns-then-queue_full
returns-then-queue_full c = λ f.
    let a = c.args in
    ran-none f (side_if a.from_client) a.octets.now
    (core_in a.control a.lines.now a.kinds a.to_server.now a.to_client.now a.written) a.i
    c.requires.within.0 c.requires.bounds.server c.requires.bounds.client

pub returns-then-not-is_clear : goal.returns-then-not-is_clear
returns-then-not-is_clear c = λ f.
    let a = c.args in
    ran-none f (side_if a.from_client) a.octets.now
    (core_in a.control a.lines.now a.kinds a.to_server.now a.to_client.now a.written) a.i
    c.requires.within.0 c.requires.bounds.server c.requires.bounds.client

pub returns-then-not-is_settled : goal.returns-then-not-is_settled
returns-then-not-is_settled c = λ f.
    let a = c.args in
    ran-none f (side_if a.from_client) a.octets.now
    (core_in a.control a.lines.now a.kinds a.to_server.now a.to_client.now a.written) a.i
    c.requires.within.0 c.requires.bounds.server c.requires.bounds.client

pub slice_bounds-direction_run-end-then-from_client : goal.slice_bounds-direction_run-end-then-from_client
slice_bounds-direction_run-end-then-from_client c =
    sym (command-size c.args.lines.now c.requires.within.1)

pub direction_run-run-requires : goal.direction_run-run-requires
direction_run-run-requires c =
    let size = command-size c.args.lines.now c.requires.within.1 in
    let held = c.requires.bounds.command in record { held = omega arith; within = (c.requires.within.0, c.requires.bounds.server) }

pub returns-then-from_client : goal.returns-then-from_client
returns-then-from_client c = λ f.
    let a = c.args in
    let r = c.direction_run-run in
    command-ran f (side_if a.from_client) a.octets.now a.control a.lines.now a.kinds a.to_server.now a.to_client.now a.written a.i
    c.requires.within.1 c.requires.bounds
    (c.is_settled.ensures (not-false _ (ap not c.if-not-is_settled.false)))
    (clear_of c.layer_of-layer.ensures c.is_clear.ensures (ap not c.if-not-is_clear.false))
    (sym c.queue_full.ensures ∙ c.if-queue_full.false)
    (ap side_if c.if-from_client.true) r.auto.line r.ensures c.with_client.ensures

pub direction_run-run-requires-2 : goal.direction_run-run-requires-2
direction_run-run-requires-2 c =
    let lines = c.args.lines.now in
    let size = ap length (reply-lent lines c.requires.within.1) ∙ reply-size lines c.requires.within.1 in
    let held = c.requires.bounds.reply in record { held = omega arith; within = (c.requires.within.0, c.requires.bounds.client) }

pub returns : goal.returns
returns c = λ f.
    let a = c.args in
    let r = c.direction_run-run-2 in
    reply-ran f (side_if a.from_client) a.octets.now a.control a.lines.now a.kinds a.to_server.now a.to_client.now a.written a.i
    c.requires.within.1 c.requires.bounds
    (c.is_settled.ensures (not-false _ (ap not c.if-not-is_settled.false)))
    (clear_of c.layer_of-layer.ensures c.is_clear.ensures (ap not c.if-not-is_clear.false))
    (sym c.queue_full.ensures ∙ c.if-queue_full.false)
    (ap side_if c.if-from_client.false) r.ensures c.with_server.ensures
