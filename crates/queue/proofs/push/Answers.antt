-- `queue::push` meets its contract: behind the array's end nothing is set.
use Rattle.std.specs.Prelude.{Option, Some}
use mathlib.Core.Path.{◌≡◌, sym, ap, ◌∙◌}
use mathlib.Core.List.{List}
use Prim.Native.Nat.{ℕ, ◌≤◌}
use native.Mathlib.Omega.{arith}
use borrow.Author.Rules.{rules}
use lib.ListN.{length, set}
use lib.Seq.{set_out}
use Rattle.rules.specs.declared.Kind.{Kind}
use Rattle.rules.specs.Answers.{most_owed}
use Rattle.queue.specs.Kinds.{code_of, pushed}
use Rattle.queue.proofs.push.Goals as goal

behind : (kinds : List ℕ) (owed : ℕ) {o : Option Kind} {k : Kind} → length kinds ≤ owed → o ≡ Some k → kinds ≡ pushed kinds owed o
unfolding pushed
behind kinds owed {o} {k} h e = sym (ap (pushed kinds owed) e ∙ set_out kinds owed (code_of k) h)

within : (kinds : List ℕ) (owed : ℕ) {o : Option Kind} {k : Kind} {n : ℕ} → n ≡ code_of k → o ≡ Some k → set kinds owed n ≡ pushed kinds owed o
unfolding pushed
within kinds owed c e = ap (λ (n : ℕ). set kinds owed n) c ∙ ap (pushed kinds owed) (sym e)

pub returns-in_default : goal.returns-in_default
unfolding pushed
returns-in_default c = search rules

pub returns-then-owed-ge-OWED : goal.returns-then-owed-ge-OWED
returns-then-owed-ge-OWED c =
    let a = c.args in
    let long : length a.kinds ≡ most_owed = search rules in
    behind a.kinds a.owed (omega arith) c.in-Some.is

pub returns : goal.returns
returns c =
    let a = c.args in
    within a.kinds a.owed c.code_of.ensures c.in-Some.is
