-- One turn of a loop over an iterator, by the list that it still gives.
use mathlib.Core.Path.{◌≡◌, refl, sym, ap}
use mathlib.Core.List.{List, [], ◌∷◌}
use Rattle.std.specs.Prelude.{Option, None, Some}
use Rattle.std.specs.Iterator.{AlwaysYields}
use Rattle.std.proofs.lemmas.Iterator.{YieldsList}

module _ {S A B : Type 0} (steps : S → Option A → S → Type 0) (v : A → B) {s : S} (t : S) where
  ended-by : (left : List B) → AlwaysYields steps v s left → steps s None t → left ≡ []
  ended-by [] gives step = refl
  ended-by (y ∷ left) gives step = absurd (gives.0 t step)

  went-by : (x : A) (left : List B) → AlwaysYields steps v s left → steps s (Some x) t → (rest : List B) × (left ≡ v x ∷ rest) × AlwaysYields steps v t rest
  went-by x [] gives step = absurd (gives x t step)
  went-by x (y ∷ left) gives step =
      let next = gives.1 x t step in (left, ap (λ z. z ∷ left) (sym next.0), next.1)

  pub ended : (left : List B) → YieldsList steps v s left → steps s None t → left ≡ []
  ended left gives step = ended-by left gives.runs step

  pub went : (x : A) (left : List B) → YieldsList steps v s left → steps s (Some x) t → (rest : List B) × (left ≡ v x ∷ rest) × YieldsList steps v t rest
  went x left gives step =
      let next = went-by x left gives.runs step in (next.0, next.1, record { runs = next.2 })
