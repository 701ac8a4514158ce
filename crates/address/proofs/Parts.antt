-- The parts of a text between octets d, by the run of octets that are not d.
use mathlib.Core.Path.{◌≡◌, refl, sym, ◌∙◌}
use mathlib.Core.Bool.{Bool, true, false, not}
use mathlib.Core.List.{List, [], ◌∷◌}
use Prim.Native.Nat.{ℕ, suc, ◌+◌, ◌<◌, ◌≤◌}
use native.Mathlib.Numerals.{add-one}
use native.Mathlib.Omega.{arith}
use borrow.Author.Tests.{ltb-true, ltb-false}
use lib.Dec.{eqb, ltb}
use lib.ListN.{length, take, drop}
use mathlib.Core.Bool.{cond}
use Rattle.std.specs.List as library
use Rattle.std.specs.List.{slice_split, count_by, position, position_or_len}
use Rattle.std.specs.Prelude.{Option, None, Some}
use Rattle.std.proofs.lemmas.List.Splits.{length-slice_split}
use Rattle.rules.specs.Octets.{choose, is_not, run, onto_first, parts}

-- one d at least: what stands before the first, and the parts of what follows it
found-by : (d x : ℕ) (s : List ℕ) (n : ℕ) (b : Bool) → (n < length s → parts d s ≡ take n s ∷ parts d (drop (suc n) s)) → choose (not b) (suc n) 0 < suc (length s)
    → choose b ([] ∷ parts d s) (onto_first x (parts d s)) ≡ take (choose (not b) (suc n) 0) (x ∷ s) ∷ parts d (drop (choose (not b) (suc n) 0) s)
unfolding choose onto_first
found-by d x s n true more h = refl
found-by d x s n false more h = rw (more (omega arith))

pub parts-found : (d : ℕ) (s : List ℕ) → run (is_not d) s < length s → parts d s ≡ take (run (is_not d) s) s ∷ parts d (drop (suc (run (is_not d) s)) s)
unfolding run parts
parts-found d [] h = absurd (omega arith)
parts-found d (x ∷ s) h = found-by d x s (run (is_not d) s) (eqb x d) (parts-found d s) h

-- no d: the text is the one part
last-by : (d x : ℕ) (s : List ℕ) (n : ℕ) (b : Bool) → (length s ≤ n → parts d s ≡ s ∷ []) → suc (length s) ≤ choose (not b) (suc n) 0
    → choose b ([] ∷ parts d s) (onto_first x (parts d s)) ≡ (x ∷ s) ∷ []
unfolding choose onto_first
last-by d x s n true more h = absurd (omega arith)
last-by d x s n false more h = rw (more (omega arith))

pub parts_last : (d : ℕ) (s : List ℕ) → length s ≤ run (is_not d) s → parts d s ≡ s ∷ []
unfolding parts run
parts_last d [] h = refl
parts_last d (x ∷ s) h = last-by d x s (run (is_not d) s) (eqb x d) (parts_last d s) h

-- there is one part at least, and one more for each d
onto-length : (x : ℕ) (ps : List (List ℕ)) → 0 < length ps → length (onto_first x ps) ≡ length ps
unfolding onto_first
onto-length x [] h = absurd (omega arith)
onto-length x (p ∷ ps) h = refl

some-by : (x : ℕ) (ps : List (List ℕ)) (b : Bool) → 0 < length ps → 0 < length (choose b ([] ∷ ps) (onto_first x ps))
unfolding choose
some-by x ps true h = omega arith
some-by x ps false h = rw (onto-length x ps h) h

pub parts-some : (d : ℕ) (s : List ℕ) → 0 < length (parts d s)
unfolding parts
parts-some d [] = omega arith
parts-some d (x ∷ s) = some-by x (parts d s) (eqb x d) (parts-some d s)

-- the parts are those that the library splits a list into
split-by : (x : ℕ) (ps : List (List ℕ)) (b : Bool) → choose b ([] ∷ ps) (onto_first x ps) ≡ cond b ([] ∷ ps) (library.onto_first x ps)
unfolding choose onto_first
split-by x ps true = refl
split-by x [] false = refl
split-by x (p ∷ ps) false = refl

pub parts-split : (d : ℕ) (s : List ℕ) → parts d s ≡ slice_split (λ y. eqb y d) s
unfolding parts
parts-split d [] = refl
parts-split d (x ∷ s) = rw (parts-split d s) (split-by x (slice_split (λ y. eqb y d) s) (eqb x d))

pub parts-count : (d : ℕ) (s : List ℕ) → length (parts d s) ≡ count_by (λ y. eqb y d) s + 1
parts-count d s = rw (parts-split d s) (length-slice_split (λ y. eqb y d) s)

-- the parts by the place of the first d
run-by : (m n : ℕ) (b : Bool) → m ≡ n → cond (not b) (1 + m) 0 ≡ choose (not b) (suc n) 0
unfolding choose
run-by m n true e = refl
run-by m n false e = omega arith

position-run : (d : ℕ) (s : List ℕ) → position_or_len (λ y. eqb y d) s ≡ run (is_not d) s
unfolding run
position-run d [] = refl
position-run d (x ∷ s) = run-by _ _ (eqb x d) (position-run d s)

position-test : (m k n : ℕ) (b : Bool) → ltb m k ≡ b → cond b (Some m) None ≡ Some n → (m ≡ n) × (n < k)
position-test m k n true e h = let same : m ≡ n = cc in (same, omega (arith, ltb-true m k e))
position-test m k n false e h = cc

position-all : (m k : ℕ) (b : Bool) → ltb m k ≡ b → ◌≡◌ {A = Option ℕ} (cond b (Some m) None) None → k ≤ m
position-all m k true e h = cc
position-all m k false e h = ltb-false m k e

pub position-in : (d : ℕ) (s : List ℕ) (n : ℕ) → position (λ y. eqb y d) s ≡ Some n → n < length s
position-in d s n h = (position-test _ (length s) n _ refl h).1

pub position-found : (d : ℕ) (s : List ℕ) (n : ℕ) → position (λ y. eqb y d) s ≡ Some n → parts d s ≡ take n s ∷ parts d (drop (n + 1) s)
position-found d s n h =
    let at = position-test _ (length s) n _ refl h in
    let e : run (is_not d) s ≡ n = sym (position-run d s) ∙ at.0 in
    parts-found d s (omega (arith, at.1)) ∙ rw (e, add-one)

pub position-none : (d : ℕ) (s : List ℕ) → position (λ y. eqb y d) s ≡ None → parts d s ≡ s ∷ []
position-none d s h = parts_last d s (omega (arith, position-run d s, position-all _ (length s) _ refl h))
