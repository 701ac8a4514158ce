-- `steps::settling::owed_then` meets its contract: by whether a kind is owed.
use mathlib.Core.Path.{◌≡◌, refl}
use Prim.Native.Nat.{ℕ, ◌+◌}
use native.Mathlib.Omega.{arith}
use mir.Val.{bool_byte}
use Rattle.std.specs.Prelude.{Option, None, Some, is_some}
use Rattle.rules.specs.declared.Kind.{Kind}
use Rattle.steps.specs.Steps.{owed_then}
use Rattle.steps.proofs.settling.owed_then.Goals as goal

one-more : (n : ℕ) (owes : Option Kind) → n + bool_byte (is_some owes) ≡ owed_then n owes
unfolding owed_then
one-more n None = omega arith
one-more n (Some k) = refl

pub returns : goal.returns
returns c =
    let a = c.args in
    rw (c.from.ensures, c.is_some.ensures) (one-more a.owed a.owes)
