-- Document 01's printed output is the report of its session file.
use mathlib.Core.Path.{◌≡◌, refl}
use Rattle.rules.specs.Octets.{octets-opened}
use Rattle.rules.specs.Answers.{answers-opened}
use Rattle.rules.specs.Setup.{setup-opened}
use Rattle.rules.specs.Lines.{lines-opened}
use Rattle.rules.specs.Telnet.{telnet-opened}
use Rattle.rules.specs.Address.{address-opened}
use Rattle.rules.specs.Commands.{commands-opened}
use Rattle.rules.specs.Replies.{replies-opened}
use Rattle.rules.specs.Exchanges.{exchanges-opened}
use Rattle.queue.specs.Kinds.{kinds-opened}
use Rattle.gives.specs.Text.{gives-opened}
use Rattle.places.specs.Places.{places-opened}
use Rattle.records.specs.Sound.{sound-opened}
use Rattle.upstream.specs.Upstream.{upstream-opened}
use Rattle.downstream.specs.Downstream.{downstream-opened}
use Rattle.steps.specs.Steps.{steps-opened}
use Rattle.session.specs.Calls.{calls-opened}
use Rattle.files.specs.Contents.{contents-opened}
use Rattle.fields.specs.Report.{report, report-opened}
use Rattle.fields.specs.Printed.{printed_file, printed_report, printed-opened}

pub printed : report printed_file ≡ printed_report
unfolding octets-opened answers-opened setup-opened lines-opened telnet-opened address-opened commands-opened replies-opened exchanges-opened kinds-opened gives-opened places-opened sound-opened upstream-opened downstream-opened steps-opened calls-opened contents-opened report-opened printed-opened
printed = refl
