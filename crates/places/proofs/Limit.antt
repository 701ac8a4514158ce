-- A line with another octet may still be judged whole exactly where fewer octets are held than can be.
use mathlib.Core.Path.{◌≡◌, refl, sym, ◌∙◌}
use mathlib.Core.Bool.{Bool, true, false}
use Prim.Native.Nat.{ℕ, ◌+◌, ◌<◌, ◌≤◌}
use native.Mathlib.Omega.{arith}
use lib.Dec.{ltb}
use borrow.Author.Tests.{ltb-true, ltb-false, lt-ltb, le-ltb}
use Rattle.rules.specs.Lines.{judged, most_held}

-- two tests of an order are one where each follows from the other
same-order : (a b c d : ℕ) → (a < b → c < d) → (b ≤ a → d ≤ c) → (t : Bool) → ltb a b ≡ t → ltb a b ≡ ltb c d
same-order a b c d f g true e = e ∙ sym (lt-ltb c d (f (ltb-true a b e)))
same-order a b c d f g false e = e ∙ sym (le-ltb c d (g (ltb-false a b e)))

-- a line with another octet may still be judged whole
pub under-judged : (held : ℕ) → ltb held most_held ≡ ltb (held + 1) judged
unfolding judged
under-judged held = same-order held most_held (held + 1) (most_held + 1) (λ h. omega arith) (λ h. omega arith) (ltb held most_held) refl
