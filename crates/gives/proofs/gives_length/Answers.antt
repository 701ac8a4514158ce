-- By the cases of what is given.
use mathlib.Core.Path.{refl}
use mathlib.Core.Logic.{inl, inr}
use native.Mathlib.Omega.{arith}
use Rattle.gives.specs.Text.{gives_text}
use Rattle.gives.proofs.Texts.{Counted, counted, all-counted, line-counted}
use Rattle.gives.proofs.gives_length.Goals as goal

pub returns-in-Held : goal.returns-in-Held
unfolding gives_text
returns-in-Held c =
    let both : Counted c.args.fixed c.args.held.now c.args.x c.args.gives 0 = elim c.in-Held.is [
      | inl e ↦ counted c.args.fixed c.args.held.now c.args.x e (all-counted refl (omega arith))
      | inr e ↦ counted c.args.fixed c.args.held.now c.args.x e (all-counted refl (omega arith))
    ] in
    record { counted = both.0; all = both.1 }

pub returns-in-Octet : goal.returns-in-Octet
unfolding gives_text
returns-in-Octet c =
    let both : Counted c.args.fixed c.args.held.now c.args.x c.args.gives 1 =
    counted c.args.fixed c.args.held.now c.args.x c.in-Octet.is (all-counted refl (omega arith)) in
    record { counted = both.0; all = both.1 }

pub returns-in-LineOctet : goal.returns-in-LineOctet
unfolding gives_text
returns-in-LineOctet c =
    let both : Counted c.args.fixed c.args.held.now c.args.x c.args.gives c.octet_length.result =
    counted c.args.fixed c.args.held.now c.args.x c.in-LineOctet.is (all-counted c.octet_length.ensures.result (omega (arith, c.octet_length.ensures.most))) in
    record { counted = both.0; all = both.1 }

pub returns-in-HeldAndOctet : goal.returns-in-HeldAndOctet
unfolding gives_text
returns-in-HeldAndOctet c =
    let both : Counted c.args.fixed c.args.held.now c.args.x c.args.gives c.line_length.result =
    counted c.args.fixed c.args.held.now c.args.x c.in-HeldAndOctet.is (c.line_length.ensures, line-counted _ _ _ c.line_length.ensures) in
    record { counted = both.0; all = both.1 }

pub returns-in-Pasv : goal.returns-in-Pasv
unfolding gives_text
returns-in-Pasv c =
    let both : Counted c.args.fixed c.args.held.now c.args.x c.args.gives c.pasv_length.result =
    counted c.args.fixed c.args.held.now c.args.x c.in-Pasv.is (all-counted c.pasv_length.ensures (omega (arith, c.pasv_length.type_inv))) in
    record { counted = both.0; all = both.1 }

pub returns-in-Port : goal.returns-in-Port
unfolding gives_text
returns-in-Port c =
    let both : Counted c.args.fixed c.args.held.now c.args.x c.args.gives c.port_line_length.result =
    counted c.args.fixed c.args.held.now c.args.x c.in-Port.is (all-counted c.port_line_length.ensures (omega (arith, c.port_line_length.type_inv))) in
    record { counted = both.0; all = both.1 }

pub returns-in-ExtendedPassive : goal.returns-in-ExtendedPassive
unfolding gives_text
returns-in-ExtendedPassive c =
    let both : Counted c.args.fixed c.args.held.now c.args.x c.args.gives c.extended_passive_length.result =
    counted c.args.fixed c.args.held.now c.args.x c.in-ExtendedPassive.is (all-counted c.extended_passive_length.ensures (omega (arith, c.extended_passive_length.type_inv))) in
    record { counted = both.0; all = both.1 }

pub returns-in-CannotOpen : goal.returns-in-CannotOpen
unfolding gives_text
returns-in-CannotOpen c =
    let both : Counted c.args.fixed c.args.held.now c.args.x c.args.gives c.cannot_open_length.result =
    counted c.args.fixed c.args.held.now c.args.x c.in-CannotOpen.is (all-counted c.cannot_open_length.ensures (omega (arith, c.cannot_open_length.type_inv))) in
    record { counted = both.0; all = both.1 }
