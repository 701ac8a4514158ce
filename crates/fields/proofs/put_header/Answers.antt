-- `fields::put_header` meets its contract: the count put after the text, where both have room.
use mathlib.Core.List.{◌++◌}
use native.Mathlib.Omega.{arith}
use Rattle.rules.specs.Octets.{oct, decimal}
use Rattle.output.proofs.Placing.{no_room, joined}
use Rattle.fields.specs.Report.{header_line}
use Rattle.fields.proofs.Fields.{header-length}
use Rattle.fields.proofs.put_header.Goals as goal

pub returns-then-out-at : goal.returns-then-out-at
returns-then-out-at c =
    let a = c.args in
    no_room a.out.now a.at (header_line a.count) (omega arith)

pub returns-then-out-at-2 : goal.returns-then-out-at-2
returns-then-out-at-2 c =
    let a = c.args in
    let size = c.decimal_length.ensures.result in
    no_room a.out.now a.at (header_line a.count) (omega (arith, header-length a.count))

pub returns : goal.returns
returns c =
    let a = c.args in
    let fits = c.if-out-at-2.false in
    let within = c.if-out-at.false in
    let size = c.decimal_length.ensures.result in
    joined a.out.now a.at (oct "FTP64 REPORT ") (decimal a.count ++ oct "\n") (λ _. c.put-next.ensures) c.put_number.ensures
    (omega (arith, header-length a.count))
