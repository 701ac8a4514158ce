-- `fields::put_number` meets its contract: the octets put after the number.
use Rattle.rules.specs.Octets.{decimal}
use Rattle.output.proofs.Placing.{joined}
use Rattle.fields.proofs.put_number.Goals as goal

pub returns : goal.returns
returns c =
    let a = c.args in
    joined a.out.now a.at (decimal a.n) a.after.now (λ _. c.put_decimal-next.ensures) (λ _. c.put.ensures)
