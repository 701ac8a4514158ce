-- `fields::put_entry_line` meets its contract: three numbers and two fields put one after another, where all have room.
use mathlib.Core.Path.{ap}
use mathlib.Core.Bool.{not}
use mathlib.Core.Path.{refl, subst}
use mathlib.Core.List.{List, ◌++◌}
use Prim.Native.Nat.{ℕ}
use Rattle.rules.specs.Octets.{oct, decimal}
use Rattle.output.specs.Buffer.{PutInRoom}
use Rattle.output.proofs.Placing.{joined, refused, room}
use Rattle.fields.specs.Report.{field, entry_line}
use Rattle.fields.specs.Parts.{done_of}
use Rattle.fields.proofs.Fields.{line-parts}
use Rattle.fields.proofs.put_entry_line.Goals as goal

pub returns-then-not-line_fits : goal.returns-then-not-line_fits
returns-then-not-line_fits c =
    let a = c.args in
    refused a.out.now a.at (entry_line a.n (done_of a.taken a.number a.to_server.now a.to_client.now)) c.line_fits.ensures refl (ap not c.if-not-line_fits.true)

pub returns : goal.returns
returns c =
    let a = c.args in
    let client = field a.to_client.now ++ oct "\n" in
    let fields = (field a.to_server.now ++ oct " ") ++ client in
    let answer = (decimal a.number ++ oct " ") ++ fields in
    let tail = (decimal a.taken ++ oct " ") ++ answer in
    subst (λ (l : List ℕ). PutInRoom a.out.now a.at l c.put_part.result c.put_part.new.out)
    (line-parts a.n a.taken a.number a.to_server.now a.to_client.now)
    (joined a.out.now a.at (decimal a.n ++ oct " ") tail c.put_number-next.ensures
    (joined c.put_number-next.new.out c.put_number-next.result (decimal a.taken ++ oct " ") answer c.put_number-next-2.ensures
    (joined c.put_number-next-2.new.out c.put_number-next-2.result (decimal a.number ++ oct " ") fields (rw c.from.ensures at c.put_number-next-3.ensures)
    (joined c.put_number-next-3.new.out c.put_number-next-3.result (field a.to_server.now ++ oct " ") client c.put_part-next.ensures
    c.put_part.ensures))))
    (room a.out.now a.at (entry_line a.n (done_of a.taken a.number a.to_server.now a.to_client.now)) c.line_fits.ensures refl (ap not c.if-not-line_fits.false))
