-- `gives::put_line_octet` meets its contract: 255 is put twice, another octet once.
use mathlib.Core.Path.{sym}
use Rattle.output.proofs.Placing.{written}
use Rattle.gives.proofs.Doubling.{passed-iac, passed-other}
use Rattle.gives.proofs.put_line_octet.Goals as goal

pub returns-then-x-eq-IAC : goal.returns-then-x-eq-IAC
returns-then-x-eq-IAC c = written _ _ (sym (passed-iac _ c.if-x-eq-IAC.true)) c.put.ensures

pub returns : goal.returns
returns c = written _ _ (sym (passed-other _ c.if-x-eq-IAC.false)) c.put_octet.ensures
