-- `image::put_control`: four octets are put, and two behind them.
use Rattle.std.proofs.Common.{◌≡◌, [], ◌∷◌}
use Rattle.output.proofs.Placing.{written}
use Rattle.image.specs.Image.{mark_of, place_number, telnet_number}
use Rattle.image.proofs.Writing.{and_then}
use Rattle.image.proofs.put_control.Goals as goal

pub returns : goal.returns
returns c =
    let a = c.args in
    let k = a.control in
    let marks : c.bit.result ∷ c.bit-2.result ∷ c.place_number.result ∷ c.place_number-2.result ∷ []
    ≡ mark_of k.switches.epsv ∷ mark_of k.switches.eprt ∷ place_number k.client.place ∷ place_number k.server.place ∷ [] = cc in
    let states : c.telnet_number.result ∷ c.telnet_number-2.result ∷ [] ≡ telnet_number k.up.telnet ∷ telnet_number k.down.telnet ∷ [] = cc in
    let four = written a.out.now a.at marks c.put-next.ensures in
    let two = written c.put-next.new.out c.put-next.result states c.put.ensures in
    and_then a.out.now a.at (mark_of k.switches.epsv ∷ mark_of k.switches.eprt ∷ place_number k.client.place ∷ place_number k.server.place ∷ [])
    (telnet_number k.up.telnet ∷ telnet_number k.down.telnet ∷ []) four (λ room. two)
