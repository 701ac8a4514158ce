-- `records::with_ended` meets its contract: by the side, over the layers without a command.
use mathlib.Core.Path.{ap, ◌∙◌}
use Rattle.rules.specs.declared.Layer.{Layer}
use Rattle.records.specs.declared.Control.{Control}
use Rattle.records.specs.Controls.{with_client, with_server, with_layers, ended_direction}
use Rattle.records.proofs.with_ended.Goals as goal

pub returns-then-from_client : goal.returns-then-from_client
returns-then-from_client c =
    let a = c.args.control in
    rw c.if-from_client.true
    (c.with_client.ensures
    ∙ ap (λ (l : Control). with_client l a.switches ended_direction a.owed)
    (c.with_layers-left.ensures ∙ ap (λ (l : Layer). with_layers a l a.down) c.cleared.ensures))

pub returns : goal.returns
returns c =
    let a = c.args.control in
    rw c.if-from_client.false
    (c.with_server.ensures
    ∙ ap (λ (l : Control). with_server l ended_direction a.owed a.opening)
    (c.with_layers-left-2.ensures ∙ ap (λ (l : Layer). with_layers a a.up l) c.cleared-2.ensures))
