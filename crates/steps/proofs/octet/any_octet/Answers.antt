-- `steps::octet::any_octet` meets its contract: the layer reads the octet, and what it makes of it is an octet of a line, or none.
use mathlib.Core.Path.{◌≡◌, refl, sym, ap, subst, ◌∙◌}
use mathlib.Core.List.{List}
use Prim.Native.Nat.{ℕ}
use mathlib.Core.Bool.{Bool, true, false}
use Rattle.std.specs.Prelude.{is_some, unwrap_or}
use Rattle.rules.specs.Lines.{most_held}
use Rattle.rules.specs.Telnet.{LayerStep}
use Rattle.records.specs.Controls.{with_layer}
use Rattle.records.specs.Sound.{side_if}
use Rattle.steps.specs.Steps.{Step, line_step, telnet_step, is_client, octet_step}
use Rattle.steps.specs.Takes.{command_in, reply_in, state_in, core_in, state_from, core_from}
use Rattle.steps.specs.Core.{SteppedBy}
use Rattle.steps.proofs.Halves.{rest_from_lem}
use Rattle.steps.proofs.Telnets.{through-layer, read_is, data-step, other_step, layer-bounded, layer-open}
use Rattle.steps.proofs.octet.any_octet.Goals as goal

client-is : (b : Bool) → is_client (side_if b) ≡ b
client-is true = refl
client-is false = refl

pub line_octet-requires : goal.line_octet-requires
line_octet-requires c =
    let a = c.args in
    let d = side_if a.from_client in
    let same = c.with_layer-then.ensures in record { bounds = layer-bounded a.control _ a.written a.to_server.now a.to_client.now d same c.requires.bounds; lengths = c.requires.lengths; queue = layer-open a.control _ a.written a.to_server.now a.to_client.now d d same c.requires.queue }

-- the line case: what the layer read is an octet of a line
pub returns-in-Data : goal.returns-in-Data
returns-in-Data c =
    let a = c.args in
    let d = side_if a.from_client in
    let s = state_in a.control a.lines.now a.kinds in
    let read = c.through-read in
    let is = read_is d s a.x c.direction_of-direction.ensures c.in_lines.ensures c.layer_of.ensures in
    let does = read.ensures.1 ∙ ap (λ (q : LayerStep). q.does) is in
    let layer = read.ensures.0 ∙ ap (λ (q : LayerStep). q.layer) is in
    let then = c.with_layer-then.ensures ∙ ap (with_layer d a.control) layer in
    let o = c.line_octet in
    let lines = o.new.lines in
    let sb = o.new.to_server in
    let cb = o.new.to_client in
    let step = (λ i. line_step a.fixed d (state_in (then i) a.lines.now a.kinds) c.in-Data.y) ∙ data-step d s a.x a.fixed does c.in-Data.is in
    let left = unwrap_or o.result (record { control = c.with_layer-then.result; kinds = a.kinds; written = a.written }) in
    through-layer (octet_step a.fixed d s a.x) a.control c.with_layer-then.result (command_in a.lines.now) (reply_in a.lines.now) a.kinds a.to_server.now a.to_client.now a.written
    (command_in lines) (reply_in lines) sb cb o.result c.requires.bounds
    (subst (λ (t : Step). SteppedBy t (core_in c.with_layer-then.result a.lines.now a.kinds a.to_server.now a.to_client.now a.written) (is_some o.result) (core_in left.control lines left.kinds sb cb left.written)) step o.ensures)

pub returns-in_default : goal.returns-in_default
returns-in_default c =
    let a = c.args in
    let d = side_if a.from_client in
    let s = state_in a.control a.lines.now a.kinds in
    let read = c.through-read in
    let is = read_is d s a.x c.direction_of-direction.ensures c.in_lines.ensures c.layer_of.ensures in
    let does = read.ensures.1 ∙ ap (λ (q : LayerStep). q.does) is in
    let layer = read.ensures.0 ∙ ap (λ (q : LayerStep). q.layer) is in
    let then = c.with_layer-then.ensures ∙ ap (with_layer d a.control) layer in
    let o = c.telnet_octet in
    let sb = o.new.to_server in
    let cb = o.new.to_client in
    let command = command_in a.lines.now in
    let reply = reply_in a.lines.now in
    let step = (λ i. telnet_step (sym (client-is a.from_client) i) (state_from (then i) command reply a.kinds) read.result.does)
    ∙ other_step d s a.x a.fixed does c.in_default.not-Data in
    let left = unwrap_or o.result (record { control = c.with_layer-then.result; kinds = a.kinds; written = a.written }) in
    let here = subst (λ (l : List ℕ). SteppedBy (telnet_step a.from_client (state_from c.with_layer-then.result command l a.kinds) read.result.does)
    (core_from (state_from c.with_layer-then.result command l a.kinds) a.to_server.now a.to_client.now a.written) (is_some o.result)
    (core_from (state_from left.control command l left.kinds) sb cb left.written)) (rest_from_lem most_held a.lines.now) (o.ensures command) in
    through-layer (octet_step a.fixed d s a.x) a.control c.with_layer-then.result command reply a.kinds a.to_server.now a.to_client.now a.written
    command reply sb cb o.result c.requires.bounds
    (subst (λ (t : Step). SteppedBy t (core_from (state_from c.with_layer-then.result command reply a.kinds) a.to_server.now a.to_client.now a.written) (is_some o.result) (core_from (state_from left.control command reply left.kinds) sb cb left.written)) step here)
