-- `setups::setup` meets its contract, test by test.
use Rattle.std.proofs.Common.{rules, tests}
use Rattle.rules.specs.Octets.{choose}
use Rattle.rules.specs.Setup.{setup_switches, bad_flags, setup_answer}
use Rattle.setups.specs.Setups.{fresh_session, prepared}
use Rattle.setups.proofs.Flags.{undefined, defined}
use Rattle.setups.proofs.setup.Goals as goal

pub returns-then-flags-ne0 : goal.returns-then-flags-ne0
unfolding prepared setup_answer choose bad_flags
returns-then-flags-ne0 c = search (rules, tests, undefined, defined)

pub returns : goal.returns
unfolding prepared setup_answer choose bad_flags fresh_session setup_switches
returns c = search (rules, tests, undefined, defined)
