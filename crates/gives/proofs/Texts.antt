-- What is given, as a text.
use mathlib.Core.Path.{◌≡◌, sym, ap, ◌∙◌}
use mathlib.Core.List.{List, [], ◌∷◌, ◌++◌}
use Prim.Native.Nat.{ℕ, min, ◌≤◌}
use native.Mathlib.Omega.{arith}
use lib.ListN.{length, length-append}
use Rattle.rules.specs.Lines.{passed, most_held}
use Rattle.rules.specs.declared.Fixed.{Fixed}
use Rattle.octets.proofs.Passed.{passed-most}
use Rattle.gives.specs.declared.Gives.{Gives}
use Rattle.gives.specs.Text.{gives_text, most_counted}

pub text_of : (f : Fixed) (h : List ℕ) (x : ℕ) {g k : Gives} → g ≡ k → gives_text f h x k ≡ gives_text f h x g
text_of f h x e = ap (gives_text f h x) (sym e)

-- its length, as far as it is counted, and all of it where no more are held than a line holds
abbrev pub Counted : Fixed → List ℕ → ℕ → Gives → ℕ → Type 0
Counted f h x g r = (r ≡ min (length (gives_text f h x g)) most_counted) × (length h ≤ most_held → r ≡ length (gives_text f h x g))

pub counted : (f : Fixed) (h : List ℕ) (x : ℕ) {g k : Gives} {r : ℕ} → g ≡ k → Counted f h x k r → Counted f h x g r
counted f h x e q = (
  q.0 ∙ ap (λ (t : List ℕ). min (length t) most_counted) (text_of f h x e),
  λ m. q.1 m ∙ ap length (text_of f h x e),
)

-- what can be counted
pub all-counted : {A : Type 0} {r n : ℕ} → r ≡ n → r ≤ most_counted → (r ≡ min n most_counted) × (A → r ≡ n)
all-counted q h = (omega arith, λ _. q)

pub line-counted : (h : List ℕ) (x r : ℕ) → r ≡ min (length (passed h ++ passed (x ∷ []))) most_counted
    → length h ≤ most_held → r ≡ length (passed h ++ passed (x ∷ []))
line-counted h x r q m =
    omega (arith, length-append (passed h) (passed (x ∷ [])), passed-most h, passed-most (x ∷ []))
