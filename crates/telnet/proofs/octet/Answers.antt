-- `telnet::octet` meets its contract, by the state before the octet.
use Rattle.std.proofs.Common.{refl}
use mathlib.Core.Logic.{inl, inr}
use Rattle.rules.specs.Telnet.{telnet_octet}
use Rattle.telnet.proofs.Layers.{is-it, is-not, step_of, state-of}
use Rattle.telnet.proofs.octet.Goals as goal

pub returns-in-Clear : goal.returns-in-Clear
unfolding telnet_octet
returns-in-Clear c = step_of _ c.in-Clear.is (is-it _ _ _ c.if-x-eq-IAC.true c.to.ensures)

pub returns-in-Clear-2 : goal.returns-in-Clear-2
unfolding telnet_octet
returns-in-Clear-2 c = step_of _ c.in-Clear-2.is (is-not _ _ _ c.if-x-eq-IAC.false c.to-in-Clear-2.ensures)

pub returns-in-Iac : goal.returns-in-Iac
unfolding telnet_octet
returns-in-Iac c = step_of _ c.in-Iac.is c.after_iac.ensures

pub returns-in-Will : goal.returns-in-Will
unfolding telnet_octet
returns-in-Will c = step_of _ c.in-Will.is c.to-in-Will.ensures

pub returns-in-Do : goal.returns-in-Do
unfolding telnet_octet
returns-in-Do c = step_of _ c.in-Do.is c.to-in-Do.ensures

pub returns-in-Wont : goal.returns-in-Wont
unfolding telnet_octet
returns-in-Wont c = elim c.in-Wont.is [ inl e ↦ step_of _ e c.to-in-Wont.ensures | inr e ↦ step_of _ e c.to-in-Wont.ensures ]

pub returns-in-Within : goal.returns-in-Within
unfolding telnet_octet
returns-in-Within c = step_of _ c.in-Within.is (state-of _ c.to-in-Within.ensures (is-it _ _ _ c.if-x-eq-IAC-2.true refl))

pub returns-in-WithinIac : goal.returns-in-WithinIac
unfolding telnet_octet
returns-in-WithinIac c = step_of _ c.in-WithinIac.is (state-of _ c.to-in-WithinIac.ensures (is-it _ _ _ c.if-x-eq-SE.true refl))

pub returns-in-Within-2 : goal.returns-in-Within-2
unfolding telnet_octet
returns-in-Within-2 c = step_of _ c.in-Within-2.is (state-of _ c.to-in-Within-2.ensures (is-not _ _ _ c.if-x-eq-IAC-2.false refl))

pub returns-in-WithinIac-2 : goal.returns-in-WithinIac-2
unfolding telnet_octet
returns-in-WithinIac-2 c = step_of _ c.in-WithinIac-2.is (state-of _ c.to-in-WithinIac-2.ensures (is-not _ _ _ c.if-x-eq-SE.false refl))
