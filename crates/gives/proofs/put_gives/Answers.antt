-- By the cases of what is given; where that is no octet, nothing is put.
use mathlib.Core.Logic.{inl, inr}
use Rattle.gives.specs.Text.{gives_text}
use Rattle.output.proofs.Placing.{written, nothing_put}
use Rattle.gives.proofs.Texts.{text_of}
use Rattle.gives.proofs.put_gives.Goals as goal

pub returns-in-Held : goal.returns-in-Held
unfolding gives_text
returns-in-Held c = elim c.in-Held.is [
  | inl e ↦ written _ _ (text_of c.args.fixed c.args.held.now c.args.x e) (nothing_put _ _)
  | inr e ↦ written _ _ (text_of c.args.fixed c.args.held.now c.args.x e) (nothing_put _ _)
]

pub returns-in-Octet : goal.returns-in-Octet
unfolding gives_text
returns-in-Octet c = written _ _ (text_of c.args.fixed c.args.held.now c.args.x c.in-Octet.is) c.put_octet.ensures

pub returns-in-LineOctet : goal.returns-in-LineOctet
unfolding gives_text
returns-in-LineOctet c = written _ _ (text_of c.args.fixed c.args.held.now c.args.x c.in-LineOctet.is) c.put_line_octet.ensures

pub returns-in-HeldAndOctet : goal.returns-in-HeldAndOctet
unfolding gives_text
returns-in-HeldAndOctet c = written _ _ (text_of c.args.fixed c.args.held.now c.args.x c.in-HeldAndOctet.is) c.put_line.ensures

pub returns-in-Pasv : goal.returns-in-Pasv
unfolding gives_text
returns-in-Pasv c = written _ _ (text_of c.args.fixed c.args.held.now c.args.x c.in-Pasv.is) c.put_pasv.ensures

pub returns-in-Port : goal.returns-in-Port
unfolding gives_text
returns-in-Port c = written _ _ (text_of c.args.fixed c.args.held.now c.args.x c.in-Port.is) c.put_port_line.ensures

pub returns-in-ExtendedPassive : goal.returns-in-ExtendedPassive
unfolding gives_text
returns-in-ExtendedPassive c = written _ _ (text_of c.args.fixed c.args.held.now c.args.x c.in-ExtendedPassive.is) c.put_extended_passive.ensures

pub returns-in-CannotOpen : goal.returns-in-CannotOpen
unfolding gives_text
returns-in-CannotOpen c = written _ _ (text_of c.args.fixed c.args.held.now c.args.x c.in-CannotOpen.is) c.put_cannot_open.ensures
