-- `queue::first_owed` meets its contract: by whether a kind is owed.
use Rattle.std.specs.Prelude.{None, Some}
use mathlib.Core.Path.{◌≡◌, ap}
use mathlib.Core.List.{List}
use Prim.Native.Nat.{ℕ}
use borrow.Author.Tests.{eq-eqb, ne_eqb}
use lib.ListN.{get_or}
use Rattle.rules.specs.Octets.{choose}
use Rattle.rules.specs.declared.Kind.{Kind}
use Rattle.queue.specs.Kinds.{kind_of, head_of}
use Rattle.queue.proofs.first_owed.Goals as goal

none : (kinds : List ℕ) (owed : ℕ) → owed ≡ 0 → None ≡ head_of kinds owed
unfolding head_of choose
none kinds owed h = rw (eq-eqb owed 0 h)

one : (kinds : List ℕ) (owed : ℕ) {k : Kind} → (owed ≡ 0 → ⊥) → k ≡ kind_of (get_or kinds 0 0) → Some k ≡ head_of kinds owed
unfolding head_of choose
one kinds owed h e = rw (ne_eqb owed 0 h) (ap Some e)

pub returns-then-owed-eq0 : goal.returns-then-owed-eq0
returns-then-owed-eq0 c = none c.args.kinds c.args.owed c.if-owed-eq0.true

pub returns : goal.returns
returns c = one c.args.kinds c.args.owed c.if-owed-eq0.false c.kind_of.ensures
