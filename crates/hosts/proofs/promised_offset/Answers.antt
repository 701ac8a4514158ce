-- `hosts::promised_offset` meets its contract: it is what C calls.
use Rattle.image.specs.Image.{session_of}
use Rattle.hosts.proofs.Promises.{offset-promised}
use Rattle.hosts.proofs.promised_offset.Goals as goal

pub returns : goal.returns
returns c =
    let a = c.args in
    let e = c.fashlemor_offset.ensures in record { number = e.number; set = e.offset; kept = λ known. offset-promised (session_of a.image.now) a.direction a.out.now e.offset known }
