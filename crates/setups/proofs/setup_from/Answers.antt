-- `setups::setup_from` meets its contract: another number of octets, or its parts one by one.
use mathlib.Core.Path.{sym, ◌∙◌}
use native.Mathlib.Omega.{arith}
use lib.Seq.{length-take-le}
use Rattle.rules.specs.Setup.{ipv6_width}
use Rattle.setups.proofs.Octets.{wrong_size, set-up}
use Rattle.setups.proofs.setup_from.Goals as goal

pub returns-then-octets-ne-SETUP : goal.returns-then-octets-ne-SETUP
returns-then-octets-ne-SETUP c =
    let a = c.args in
    c.refused_setup.ensures ∙ wrong_size a.octets.now c.if-octets-ne-SETUP.true

pub slice_bounds-array_from-end : goal.slice_bounds-array_from-end
slice_bounds-array_from-end c =
    let a = c.args in
    sym (length-take-le ipv6_width a.octets.now (omega arith))

pub returns : goal.returns
returns c =
    let a = c.args in
    let size = c.if-octets-ne-SETUP.false in
    set-up a.octets.now size c.array_from-client.ensures c.array_from-mapped.ensures c.array_from-server.ensures c.setup.ensures
