-- `image::control_in`: each field at its position.
use Rattle.image.proofs.Reading.{control-read}
use Rattle.image.proofs.control_in.Goals as goal

pub returns : goal.returns
returns c =
    control-read c.args.image.now c.place_of.ensures c.number_at.ensures c.place_of-2.ensures c.number_at-2.ensures
    c.telnet_of.ensures c.number_at-3.ensures c.telnet_of-2.ensures c.number_at-4.ensures c.number_at-5.ensures c.number_at-6.ensures
