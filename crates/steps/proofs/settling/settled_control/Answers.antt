-- `steps::settling::settled_control` meets its contract, by what it is told of the server's direction and layer.
use Rattle.steps.proofs.Settles.{control-settled}
use Rattle.steps.proofs.settling.settled_control.Goals as goal

pub returns : goal.returns
returns c =
    let a = c.args in
    control-settled a.control a.leaving a.auth c.direction_then-server.ensures
    c.layer_then-down.ensures c.with_layer-layered.ensures c.with_server.ensures
