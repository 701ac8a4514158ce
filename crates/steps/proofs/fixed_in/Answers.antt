-- Each address at its position.
use mathlib.Core.Path.{◌∙◌}
use native.Mathlib.Omega.{arith}
use lib.ListN.{take, drop, length-drop}
use lib.Seq.{length-take-le}
use Rattle.output.proofs.Front.{filled}
use Rattle.rules.specs.Setup.{ipv6_width, ipv4_width}
use Rattle.records.specs.Layout.{lent_mapped, lent_server_address}
use Rattle.steps.proofs.fixed_in.Goals as goal

pub returns : goal.returns
returns c =
    let lent = c.args.lent.now in
    let all = c.told-lent in
    let client = c.array_from-client.ensures ∙ filled ipv6_width (take ipv6_width lent) (length-take-le ipv6_width lent (omega arith)) in
    let mapped = c.array_from-mapped.ensures ∙ filled ipv4_width (take ipv4_width (drop lent_mapped lent)) (length-take-le ipv4_width (drop lent_mapped lent) (omega (arith, length-drop lent_mapped lent))) in
    let server = c.array_from-server.ensures ∙ filled ipv4_width (take ipv4_width (drop lent_server_address lent)) (length-take-le ipv4_width (drop lent_server_address lent) (omega (arith, length-drop lent_server_address lent))) in
    cc
