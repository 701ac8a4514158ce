-- `fields::put_part` meets its contract: the octets put after the field.
use Rattle.output.proofs.Placing.{joined}
use Rattle.fields.specs.Report.{field}
use Rattle.fields.proofs.put_part.Goals as goal

pub returns : goal.returns
returns c =
    let a = c.args in
    joined a.out.now a.at (field a.octets.now) a.after.now (λ _. c.put_field-next.ensures) (λ _. c.put.ensures)
