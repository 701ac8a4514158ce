-- The exchanges of long lines hold of the readings.
use mathlib.Core.Path.{◌≡◌, refl}
use mathlib.Core.List.{map}
use Rattle.rules.specs.Octets.{octets-opened}
use Rattle.rules.specs.Answers.{answers-opened}
use Rattle.rules.specs.Setup.{setup-opened}
use Rattle.rules.specs.Lines.{lines-opened}
use Rattle.rules.specs.Address.{address-opened}
use Rattle.rules.specs.Commands.{commands-opened}
use Rattle.rules.specs.Replies.{replies-opened}
use Rattle.rules.specs.Edition.{edition-opened}
use Rattle.rules.specs.History.{history-opened}
use Rattle.rules.specs.ToServer.{to-server-opened}
use Rattle.rules.specs.ToClient.{to-client-opened}
use Rattle.rules.specs.Telnet.{telnet-opened}
use Rattle.rules.specs.Items.{items-opened}
use Rattle.rules.specs.Pieces.{pieces-opened}
use Rattle.rules.specs.Exchanges.{long_telnet_exchanges, read_as, spoken_in, spoken_of, printed, exchanges-opened}

pub long-telnet-exchanges : map read_as long_telnet_exchanges ≡ map printed long_telnet_exchanges
unfolding octets-opened setup-opened lines-opened address-opened commands-opened replies-opened edition-opened history-opened to-server-opened to-client-opened answers-opened telnet-opened items-opened exchanges-opened
long-telnet-exchanges = refl

pub long-telnet-spoken : map spoken_in long_telnet_exchanges ≡ map spoken_of long_telnet_exchanges
unfolding octets-opened setup-opened lines-opened address-opened commands-opened replies-opened edition-opened history-opened to-server-opened to-client-opened answers-opened telnet-opened items-opened pieces-opened exchanges-opened
long-telnet-spoken = refl
