-- `telnet::after_iac` meets its contract: the octet is known, or is none of them.
use native.Mathlib.Omega.{arith}
use Rattle.rules.specs.Octets.{choose}
use Rattle.rules.specs.Telnet.{after_iac}
use Rattle.telnet.proofs.Layers.{is-not, octet-of}
use Rattle.telnet.proofs.after_iac.Goals as goal

pub returns-in-255 : goal.returns-in-255
unfolding after_iac choose
returns-in-255 c = octet-of _ c.in-255.is c.to.ensures

pub returns-in-250 : goal.returns-in-250
unfolding after_iac choose
returns-in-250 c = octet-of _ c.in-250.is c.to-in-250.ensures

pub returns-in-251 : goal.returns-in-251
unfolding after_iac choose
returns-in-251 c = octet-of _ c.in-251.is c.to-in-251.ensures

pub returns-in-252 : goal.returns-in-252
unfolding after_iac choose
returns-in-252 c = octet-of _ c.in-252.is c.to-in-252.ensures

pub returns-in-253 : goal.returns-in-253
unfolding after_iac choose
returns-in-253 c = octet-of _ c.in-253.is c.to-in-253.ensures

pub returns-in-254 : goal.returns-in-254
unfolding after_iac choose
returns-in-254 c = octet-of _ c.in-254.is c.to-in-254.ensures

pub returns-in_default : goal.returns-in_default
unfolding after_iac
returns-in_default c =
    is-not _ _ _ (λ e. omega arith)
    (is-not _ _ _ (λ e. omega arith)
    (is-not _ _ _ (λ e. omega arith)
    (is-not _ _ _ (λ e. omega arith)
    (is-not _ _ _ (λ e. omega arith) (is-not _ _ _ (λ e. omega arith) c.to-in_default.ensures)))))
