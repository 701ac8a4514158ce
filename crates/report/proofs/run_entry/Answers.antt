-- `report::run_entry` meets its contract: a setup, an end or an arrival by the kind.
use mathlib.Core.Path.{ap}
use Prim.Native.Nat.{◌-◌}
use native.Mathlib.Omega.{arith}
use lib.ListN.{length}
use Rattle.session.specs.declared.Called.{Called}
use Rattle.session.specs.Calls.{arrived, end_called}
use Rattle.report.proofs.Runs.{arrives, ends, sets-up, told-arrived, told-ended, kept-call, kept-setup}
use Rattle.report.proofs.run_entry.Goals as goal

pub returns-in_default : goal.returns-in_default
returns-in_default c =
    let a = c.args in let both = kept-setup _ a.body.now a.to_server.now a.to_client.now (sets-up a.session a.kind a.body.now (omega arith)) c.set_up.ensures in record { result = both.0; server = both.1.0; client = both.1.1 }

pub ran_of-requires-in-2 : goal.ran_of-requires-in-2
ran_of-requires-in-2 c =
    let k = c.end in
    let a = c.args in
    omega (arith, (told-ended a.session (a.kind - 2) (length a.to_server.now) (length a.to_client.now)).taken, ap (λ (x : Called). x.taken) k.ensures.result)

pub returns-in-2 : goal.returns-in-2
returns-in-2 c =
    let k = c.end in
    let pre = c.requires in
    let a = c.args in let both = kept-call _ (end_called a.session (a.kind - 2) (length a.to_server.now) (length a.to_client.now)) 0 a.to_server.now a.to_client.now
    (told-ended a.session (a.kind - 2) (length a.to_server.now) (length a.to_client.now))
    (rw (pre.server, pre.client) (ends a.session a.kind a.body.now (omega arith) (omega arith)))
    k.ensures.result
    c.ran_of-in-2.ensures
    k.ensures.buffers.0
    k.ensures.buffers.1 in record { result = both.0; server = both.1.0; client = both.1.1 }

pub ran_of-requires : goal.ran_of-requires
ran_of-requires c =
    let k = c.arrive in
    let pre = c.requires in
    let a = c.args in
    omega (arith, (told-arrived a.session a.kind a.body.now (length a.to_server.now) (length a.to_client.now)).taken, ap (λ (x : Called). x.taken) k.ensures.result, pre.most)

pub returns-in-0 : goal.returns-in-0
returns-in-0 c =
    let k = c.arrive in
    let pre = c.requires in
    let a = c.args in let both = kept-call _ (arrived a.session a.kind a.body.now (length a.to_server.now) (length a.to_client.now)) (length a.body.now) a.to_server.now a.to_client.now
    (told-arrived a.session a.kind a.body.now (length a.to_server.now) (length a.to_client.now))
    (rw (pre.server, pre.client) (arrives a.session a.kind a.body.now (omega arith)))
    k.ensures.result
    c.ran_of.ensures
    k.ensures.buffers.0
    k.ensures.buffers.1 in record { result = both.0; server = both.1.0; client = both.1.1 }
