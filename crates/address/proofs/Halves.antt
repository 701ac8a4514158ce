-- Where the first `::` stands: the first two octets beside each other that are colons.
use mathlib.Core.Path.{◌≡◌, refl, ap, subst, ◌∙◌}
use mathlib.Core.Bool.{Bool, true, false, ◌&&◌, not, cond, and-true}
use mathlib.Core.List.{List, [], ◌∷◌}
use Rattle.std.specs.Prelude.{None, Some, IfSome}
use Rattle.std.specs.Option.{option_map}
use Rattle.std.specs.Cmp.Lexicographic.{pointwise}
use Rattle.std.specs.List.{position, position_or_len}
use Rattle.std.specs.Slice.Iter.{windows_rest, windows_size, windows_steps}
use Rattle.std.specs.declared.slice.Windows.{Windows}
use Rattle.std.proofs.lemmas.Iterator.{YieldsList}
use Rattle.std.proofs.lemmas.Iterator.Splits.{YieldsList-from_shown_while}
use Prim.Native.Nat.{ℕ, suc, ◌+◌, ◌<◌, ◌≤◌}
use native.Mathlib.Numerals.{one-add}
use native.Mathlib.Omega.{arith}
use borrow.Author.Tests.{ltb-true, ltb-false}
use lib.Dec.{eqb, ltb}
use lib.ListN.{length, take, drop}
use Rattle.rules.specs.Octets.{choose}
use Rattle.rules.specs.Address.{Halves, halves}
use Rattle.address.specs.Text.{halves_at}

-- the octets beside each other, two and two
abbrev pub pairs : List ℕ → List (List ℕ)
pairs [] = []
pairs (x ∷ []) = []
pairs (x ∷ y ∷ s) = (x ∷ y ∷ []) ∷ pairs (y ∷ s)

pairs-none : (s : List ℕ) → length s < 2 → length (pairs s) ≡ 0
pairs-none [] h = refl
pairs-none (x ∷ []) h = refl
pairs-none (x ∷ y ∷ s) h = absurd (omega arith)

pairs-more : (s : List ℕ) → 2 ≤ length s → pairs s ≡ take 2 s ∷ pairs (drop 1 s)
pairs-more [] h = absurd (omega arith)
pairs-more (x ∷ []) h = absurd (omega arith)
pairs-more (x ∷ y ∷ s) h = refl

pairs-length : (x : ℕ) (s : List ℕ) → length (pairs (x ∷ s)) ≡ length s
pairs-length x [] = refl
pairs-length x (y ∷ s) = let e = pairs-length y s in omega arith

pairs-within : (s : List ℕ) (n : ℕ) → n < length (pairs s) → n + 2 ≤ length s
pairs-within [] n h = absurd (omega arith)
pairs-within (x ∷ s) n h = omega (arith, pairs-length x s)

windows-yield : (s : Windows ℕ) → windows_size s ≡ 2 → YieldsList windows_steps (λ x. x.now) s (pairs (windows_rest s))
windows-yield s size =
    YieldsList-from_shown_while windows_steps (λ x. x.now) (λ t. pairs (windows_rest t)) (λ t. windows_size t ≡ 2)
    (λ t u two step. pairs-none (windows_rest t) (omega (arith, step.1.0)))
    (λ t x u two step.
    let more : 2 ≤ length (windows_rest t) = omega (arith, step.1.0) in
    let window : x.now ≡ take 2 (windows_rest t) = step.1.1 ∙ ap (λ (n : ℕ). take n (windows_rest t)) two in
    (step.0 ∙ two, rw (window, step.1.2) (pairs-more (windows_rest t) more)))
    s size

pub windows-pairs : (s : Windows ℕ) (xs : List ℕ) → windows_rest s ≡ xs → windows_size s ≡ 2 → YieldsList windows_steps (λ x. x.now) s (pairs xs)
windows-pairs s xs e size = subst (λ (ys : List ℕ). YieldsList windows_steps (λ x. x.now) s (pairs ys)) e (windows-yield s size)

-- two colons
abbrev pub double : List ℕ → Bool
double w = pointwise eqb w (58 ∷ 58 ∷ [])

found-by : (x y : ℕ) (s : List ℕ) (m k : ℕ) (b : Bool) → (m < k → halves (y ∷ s) ≡ Some (take m (y ∷ s), drop (m + 2) (y ∷ s))) → cond (not b) (1 + m) 0 < suc k
    → choose {A = Halves} b (Some ([], s)) (option_map (λ p. (x ∷ p.0, p.1)) (halves (y ∷ s))) ≡ Some (take (cond (not b) (1 + m) 0) (x ∷ y ∷ s), drop (cond (not b) (1 + m) 0 + 2) (x ∷ y ∷ s))
unfolding choose
found-by x y s m k true on h = refl
found-by x y s m k false on h =
    let two : 1 + m + 2 ≡ suc (m + 2) = omega arith in
    rw (two, on (omega arith), one-add) refl

none-by : (x y : ℕ) (s : List ℕ) (m k : ℕ) (b : Bool) → (k ≤ m → halves (y ∷ s) ≡ None) → suc k ≤ cond (not b) (1 + m) 0
    → choose {A = Halves} b (Some ([], s)) (option_map (λ p. (x ∷ p.0, p.1)) (halves (y ∷ s))) ≡ None
unfolding choose
none-by x y s m k true on h = absurd (omega arith)
none-by x y s m k false on h = rw (on (omega arith))

halves-found : (t : List ℕ) → position_or_len double (pairs t) < length (pairs t) → halves t ≡ Some (take (position_or_len double (pairs t)) t, drop (position_or_len double (pairs t) + 2) t)
unfolding halves
halves-found [] h = absurd (omega arith)
halves-found (x ∷ []) h = absurd (omega arith)
halves-found (x ∷ y ∷ s) h =
    let same : eqb x 58 && (eqb y 58 && true) ≡ eqb x 58 && eqb y 58 = rw (and-true (eqb y 58)) refl in
    rw same (found-by x y s _ _ (eqb x 58 && eqb y 58) (halves-found (y ∷ s)) (rw same at h))

halves-none : (t : List ℕ) → length (pairs t) ≤ position_or_len double (pairs t) → halves t ≡ None
unfolding halves
halves-none [] h = refl
halves-none (x ∷ []) h = refl
halves-none (x ∷ y ∷ s) h =
    let same : eqb x 58 && (eqb y 58 && true) ≡ eqb x 58 && eqb y 58 = rw (and-true (eqb y 58)) refl in
    none-by x y s _ _ (eqb x 58 && eqb y 58) (halves-none (y ∷ s)) (rw same at h)

by-test : (t : List ℕ) (b : Bool) → ltb (position_or_len double (pairs t)) (length (pairs t)) ≡ b → halves t ≡ halves_at (cond b (Some (position_or_len double (pairs t))) None) t
by-test t true e = halves-found t (ltb-true _ _ e)
by-test t false e = halves-none t (ltb-false _ _ e)

within-by : (t : List ℕ) (b : Bool) → ltb (position_or_len double (pairs t)) (length (pairs t)) ≡ b → IfSome (cond b (Some (position_or_len double (pairs t))) None) (λ n. n + 2 ≤ length t)
within-by t true e = pairs-within t _ (ltb-true _ _ e)
within-by t false e = tt

pub position-within : (t : List ℕ) → IfSome (position double (pairs t)) (λ n. n + 2 ≤ length t)
position-within t = within-by t _ refl

pub halves-position : (t : List ℕ) → halves t ≡ halves_at (position double (pairs t)) t
halves-position t = by-test t _ refl
