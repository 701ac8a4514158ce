use mathlib.Core.Path.{◌≡◌, refl}
use mathlib.Core.Bool.{Bool, true, not, ◌&&◌}
use mathlib.Core.List.{List}
use Prim.Native.Nat.{ℕ}
use lib.Dec.{eqb}
use Rattle.std.specs.Cmp.Lexicographic.{pointwise}
use Rattle.octets.proofs.Words.{equal-pointwise}
use Rattle.rules.specs.Octets.{equal}
use Rattle.rules.specs.Replies.{foreign}
use Rattle.downstream.proofs.is_foreign.Goals as goal

-- in the strict form the comparison decides
strictly : {strict differs : Bool} (a b : List ℕ) → strict ≡ true → differs ≡ not (pointwise eqb a b) → differs ≡ (strict && not (equal a b))
strictly a b s d = rw (s, d, equal-pointwise a b) refl

pub returns-then-fixed : goal.returns-then-fixed
unfolding foreign
returns-then-fixed c = strictly c.args.address c.args.fixed.server c.if-fixed.true c.ne.ensures

pub returns-else-fixed : goal.returns-else-fixed
unfolding foreign
returns-else-fixed c = rw c.if-fixed.false refl
