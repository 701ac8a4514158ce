-- The exchanges hold of the readings.
use mathlib.Core.Path.{◌≡◌, refl}
use mathlib.Core.List.{map}
use Rattle.rules.specs.Octets.{octets-opened}
use Rattle.rules.specs.Answers.{answers-opened}
use Rattle.rules.specs.Setup.{setup-opened}
use Rattle.rules.specs.Lines.{lines-opened}
use Rattle.rules.specs.Address.{address-opened}
use Rattle.rules.specs.Commands.{commands-opened}
use Rattle.rules.specs.Replies.{replies-opened}
use Rattle.rules.specs.Edition.{edition-opened}
use Rattle.rules.specs.History.{history-opened}
use Rattle.rules.specs.ToServer.{to-server-opened}
use Rattle.rules.specs.ToClient.{to-client-opened}
use Rattle.rules.specs.declared.Does.{Does}
use Rattle.rules.specs.Telnet.{removed_after, telnet-opened}
use Rattle.rules.specs.Items.{items-opened}
use Rattle.rules.specs.Pieces.{pieces-opened}
use Rattle.rules.specs.Exchanges.{
  exchanges,
  multi_line_exchanges,
  telnet_exchanges,
  strict_exchanges,
  removals,
  read_as,
  spoken_in,
  spoken_of,
  printed,
  removal_read,
  exchanges-opened,
}

pub twelve-exchanges : map read_as exchanges ≡ map printed exchanges
unfolding octets-opened setup-opened lines-opened address-opened commands-opened replies-opened edition-opened history-opened to-server-opened to-client-opened answers-opened telnet-opened items-opened exchanges-opened
twelve-exchanges = refl

pub multi-line-exchanges : map read_as multi_line_exchanges ≡ map printed multi_line_exchanges
unfolding octets-opened setup-opened lines-opened address-opened commands-opened replies-opened edition-opened history-opened to-server-opened to-client-opened answers-opened telnet-opened items-opened exchanges-opened
multi-line-exchanges = refl

pub telnet-exchanges : map read_as telnet_exchanges ≡ map printed telnet_exchanges
unfolding octets-opened setup-opened lines-opened address-opened commands-opened replies-opened edition-opened history-opened to-server-opened to-client-opened answers-opened telnet-opened items-opened exchanges-opened
telnet-exchanges = refl

pub strict-exchanges : map read_as strict_exchanges ≡ map printed strict_exchanges
unfolding octets-opened setup-opened lines-opened address-opened commands-opened replies-opened edition-opened history-opened to-server-opened to-client-opened answers-opened telnet-opened items-opened exchanges-opened
strict-exchanges = refl

pub telnet-spoken : map spoken_in telnet_exchanges ≡ map spoken_of telnet_exchanges
unfolding octets-opened setup-opened lines-opened address-opened commands-opened replies-opened edition-opened history-opened to-server-opened to-client-opened answers-opened telnet-opened items-opened pieces-opened exchanges-opened
telnet-spoken = refl

pub telnet-removals : map removal_read removals ≡ removals
unfolding octets-opened setup-opened lines-opened address-opened commands-opened replies-opened edition-opened history-opened to-server-opened to-client-opened answers-opened telnet-opened items-opened exchanges-opened
telnet-removals = refl

-- "in 32 bits that wrap"
pub removal-wraps : removed_after 4294967295 (Does.Removes 2) ≡ 1
unfolding answers-opened
removal-wraps = refl
