-- `telnet::put_command` meets its contract: where no command passes, nothing is put.
use Rattle.output.proofs.Placing.{written, nothing_put}
use Rattle.telnet.proofs.Layers.{no-command}
use Rattle.telnet.proofs.put_command.Goals as goal

pub returns-in_default : goal.returns-in_default
returns-in_default c = written _ _ (no-command c.args.does c.in_default.not-Passes) (nothing_put _ _)
