-- `image::put_marks`: three octets, then those of the control.
use Rattle.std.proofs.Common.{◌≡◌, [], ◌∷◌}
use Rattle.output.proofs.Placing.{written}
use Rattle.image.specs.Image.{mark_of, marks_in}
use Rattle.image.proofs.Writing.{and_then}
use Rattle.image.proofs.put_marks.Goals as goal

pub returns : goal.returns
returns c =
    let put = c.put-next in
    let a = c.args in
    let fixed : c.bit.result ∷ c.bit-2.result ∷ c.bit-3.result ∷ [] ≡ mark_of a.live ∷ mark_of a.supported ∷ mark_of a.strict ∷ [] = cc in
    and_then a.out.now a.at (mark_of a.live ∷ mark_of a.supported ∷ mark_of a.strict ∷ []) (marks_in a.control) (written a.out.now a.at fixed put.ensures)
    c.put_control.ensures
