-- `hosts::promised_setup` meets its contract: it is what C calls, and a setup that is told 0 had room and addresses of their lengths.
use native.Mathlib.Omega.{arith}
use Rattle.answers.proofs.Lengths.{octets-all}
use Rattle.hosts.proofs.Promises.{fresh-promised}
use Rattle.hosts.proofs.promised_setup.Goals as goal

pub returns : goal.returns
returns c =
    let a = c.args in
    let e = c.fashlemor_setup.ensures in
    let each = octets-all a.setup.now (λ i less. omega (arith, c.shared_slice_known-1.given i)) in record { number = e.number; memory = e.record; fresh = λ done. fresh-promised a.image.now a.setup.now e.number e.record each done }
