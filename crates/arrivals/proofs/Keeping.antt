-- Whether a still queue keeps still behind n kinds that a reply removes.
use mathlib.Core.Path.{◌≡◌, refl}
use mathlib.Core.Bool.{Bool, true, false, ◌||◌}
use mathlib.Core.List.{List}
use Prim.Native.Nat.{ℕ}
use borrow.Author.Tests.{ne_eqb}
use Rattle.rules.specs.Octets.{choose}
use Rattle.queue.specs.Kinds.{is_still}
use Rattle.arrivals.specs.PlainRuns.{is_plain_first, keeps_still}

pub either_true : (a : Bool) {b : Bool} → b ≡ true → (a || b) ≡ true
either_true true e = refl
either_true false e = e

module _ (kinds : List ℕ) (inside : Bool) (n owed : ℕ) (some : n ≡ 0 → ⊥) where
  -- a 227 is to be read
  pub keeps-not : inside ≡ false → is_plain_first kinds ≡ false → false ≡ keeps_still kinds inside n owed
  unfolding keeps_still choose
  keeps-not u first = rw (ne_eqb n 0 some, u, first)

  pub keeps-behind : (inside || is_plain_first kinds) ≡ true → is_still kinds n owed ≡ keeps_still kinds inside n owed
  unfolding keeps_still choose
  keeps-behind none = rw (ne_eqb n 0 some, none)
