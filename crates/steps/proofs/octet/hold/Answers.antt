-- `steps::octet::hold` meets its contract: it stores the octet at the first free position; where there is none, `set` changes nothing.
use mathlib.Core.Path.{◌≡◌, sym, ap, ◌∙◌}
use mathlib.Core.List.{List}
use Prim.Native.Nat.{ℕ}
use native.Mathlib.Omega.{arith}
use lib.Seq.{set_out}
use Rattle.gives.specs.declared.Gives.{Gives}
use Rattle.steps.specs.Steps.{stored}
use Rattle.steps.proofs.Octets.{not-stored}
use Rattle.steps.proofs.octet.hold.Goals as goal

held : (l : List ℕ) (n x : ℕ) (g : Gives) → g ≡ Gives.Held → stored l n x Gives.Held ≡ stored l n x g
held l n x g e = ap (stored l n x) (sym e)

pub returns-then-held-line : goal.returns-then-held-line
unfolding stored
returns-then-held-line c = let a = c.args in held a.line.now a.held a.x a.gives c.in-Held.is

pub returns-else-held-line : goal.returns-else-held-line
unfolding stored
returns-else-held-line c =
    let a = c.args in
    sym (set_out a.line.now a.held a.x (omega arith))
    ∙ held a.line.now a.held a.x a.gives c.in-Held.is

pub returns-in_default : goal.returns-in_default
returns-in_default c = let a = c.args in not-stored a.line.now a.held a.x a.gives c.in_default.not-Held
