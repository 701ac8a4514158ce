-- `report::put_refusal`: fault by fault.
use Rattle.rules.specs.Octets.{octets-opened}
use Rattle.files.specs.Contents.{verdict_number}
use Rattle.fields.specs.Report.{refused_line}
use Rattle.report.proofs.put_refusal.Goals as goal

pub returns-in-WrongLength : goal.returns-in-WrongLength
unfolding octets-opened verdict_number refused_line
returns-in-WrongLength c = rw c.in-WrongLength.is c.put.ensures

pub returns-in-WrongTable : goal.returns-in-WrongTable
unfolding octets-opened verdict_number refused_line
returns-in-WrongTable c = rw c.in-WrongTable.is c.put-in-WrongTable.ensures
