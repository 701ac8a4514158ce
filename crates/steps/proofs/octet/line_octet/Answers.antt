-- `steps::octet::line_octet` meets its contract: it is the one or the other by its side.
use borrow.Rule.Slice.PartMut.{put_mid}
use Prim.Native.Nat.{◌-◌}
use lib.ListN.{length}
use mathlib.Core.Path.{◌≡◌, sym, ap, subst}
use mathlib.Core.Bool.{false}
use Rattle.std.specs.Prelude.{is_some, unwrap_or}
use Rattle.rules.specs.Answers.{Side, is_queue_full}
use Rattle.rules.specs.Lines.{most_held}
use Rattle.places.specs.Places.{is_passing}
use Rattle.records.specs.Sound.{side_if}
use Rattle.steps.specs.Takes.{core_in}
use Rattle.steps.specs.Core.{LineStepped}
use Rattle.steps.proofs.Halves.{server-stepped}
use Rattle.steps.proofs.octet.line_octet.Goals as goal

pub client_octet-requires : goal.client_octet-requires
client_octet-requires c =
    let a = c.args in record { bounds = c.requires.bounds; lengths = c.requires.lengths; queue = subst (λ (d : Side). is_queue_full d (is_passing a.control.client.place) a.control.owed ≡ false) (ap side_if c.if-from_client.true) c.requires.queue }

pub returns-then-from_client : goal.returns-then-from_client
returns-then-from_client c =
    let a = c.args in
    let o = c.client_octet in
    let left = unwrap_or o.result (record { control = a.control; kinds = a.kinds; written = a.written }) in
    subst
    (λ (d : Side). LineStepped a.fixed d a.x (core_in a.control a.lines.now a.kinds a.to_server.now a.to_client.now a.written) (is_some o.result) (core_in left.control o.new.lines left.kinds o.new.to_server o.new.to_client left.written))
    (sym (ap side_if c.if-from_client.true))
    o.ensures

pub returns : goal.returns
returns c =
    let a = c.args in
    let o = c.server_octet in
    let reply = o.new.reply in
    let left = unwrap_or o.result (record { control = a.control; kinds = a.kinds; written = a.written }) in
    subst
    (λ (d : Side). LineStepped a.fixed d a.x (core_in a.control a.lines.now a.kinds a.to_server.now a.to_client.now a.written) (is_some o.result) (core_in left.control (put_mid most_held (length a.lines.now - most_held) a.lines.now reply) left.kinds a.to_server.now o.new.to_client left.written))
    (sym (ap side_if c.if-from_client.false))
    (server-stepped a.lines.now c.requires.lengths a.fixed a.x a.control a.kinds a.to_server.now a.to_client.now a.written (is_some o.result) left.control left.kinds reply o.new.to_client left.written c.requires.bounds.server o.ensures)
