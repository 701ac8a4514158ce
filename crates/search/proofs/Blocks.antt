-- A search by blocks: behind a block whose octets all pass the test it ends where it would have ended before it.
use mathlib.Core.Path.{◌≡◌, refl, sym, ap, ◌∙◌}
use mathlib.Core.Bool.{Bool, true, false, ◌&&◌, ◌||◌, not}
use mathlib.Core.List.{List, [], ◌∷◌, ◌++◌}
use Prim.Native.Nat.{ℕ, ◌+◌, ◌-◌, ◌<◌, ◌≤◌}
use native.Mathlib.Numerals.{add-one}
use native.Mathlib.Omega.{arith}
use lib.ListN.{length, get_or, take, drop}
use lib.Seq.{take-suc, drop-drop}
use Rattle.rules.specs.Octets.{lf, iac, choose, run, every, is, is_not}
use Rattle.rules.specs.Lines.{is_ordinary}
use Rattle.octets.proofs.Ranges.{and_both}
use Rattle.octets.proofs.Runs.{run-over, every-snoc, part-rest, part_length}

de-morgan : (a b : Bool) → (not a || b) ≡ not (a && not b)
de-morgan true true = refl
de-morgan true false = refl
de-morgan false b = refl

module _ (p : ℕ → Bool) (s : List ℕ) where
  -- A loop that looks for the position r where a run ends, and stands at i: it goes over the block from i to e.
  pub block-step : (i e r : ℕ) → i ≤ e → e ≤ length s → every p (take (e - i) (drop i s)) ≡ true
      → r ≡ i + run p (drop i s)
      → r ≡ e + run p (drop e s)
  block-step i e r h k t q =
      let block = take (e - i) (drop i s) in
      let size : length block ≡ e - i = part_length s i e h k in
      let over : run p (drop i s) ≡ length block + run p (drop e s) =
      ap (run p) (part-rest s i e h) ∙ run-over p block (drop e s) t in
      omega arith

  -- A loop over a block: whether an octet before j stops the search, and whether the one at j does.
  pub stops-more : (j : ℕ) (found here : Bool) → j < length s → p (get_or s j 0) ≡ not here
      → found ≡ not (every p (take j s))
      → (found || here) ≡ not (every p (take (j + 1) s))
  stops-more j found here h e q =
      let cut : take (j + 1) s ≡ take j s ++ (get_or s j 0 ∷ []) = ap (λ (n : ℕ). take n s) (add-one j) ∙ take-suc s j 0 h in
      rw (cut, every-snoc p (take j s) (get_or s j 0), e, q) (de-morgan (every p (take j s)) here)

-- a block in which nothing stops the search
pub block-free : (stops passes : Bool) → stops ≡ not passes → stops ≡ false → passes ≡ true
block-free stops true q e = refl
block-free stops false q e = sym e ∙ q

both-not : (a b : Bool) → (not a && not b) ≡ not (a || b)
both-not true b = refl
both-not false b = refl

-- an octet that is ordinary
pub ordinary : (x : ℕ) → is_ordinary x ≡ not (is lf x || is iac x)
ordinary x = both-not (is lf x) (is iac x)

-- two marks kept side by side are both kept as one
pub side_by_side : (a b x y : Bool) → ((a || x) || (b || y)) ≡ ((a || b) || (x || y))
side_by_side true b x y = refl
side_by_side false true true y = refl
side_by_side false true false y = refl
side_by_side false false x y = refl

-- an ordinary octet is no 255: a search for 255 goes over a run of them
through-by : (p q : ℕ → Bool) (x : ℕ) (s : List ℕ) (b : Bool) → p x ≡ b → (p x ≡ true → q x ≡ true)
    → run q s ≡ run p s + run q (drop (run p s) s)
    → run q (x ∷ s) ≡ run p (x ∷ s) + run q (drop (run p (x ∷ s)) (x ∷ s))
unfolding run choose
through-by p q x s true e h k = rw (e, h e) (omega (arith, k))
through-by p q x s false e h k = rw e (omega arith)

through : (p q : ℕ → Bool) → ((x : ℕ) → p x ≡ true → q x ≡ true) → (s : List ℕ)
    → run q s ≡ run p s + run q (drop (run p s) s)
unfolding run
through p q h [] = refl
through p q h (x ∷ s) = through-by p q x s (p x) refl (h x) (through p q h s)

-- A loop that looks for the first 255 at r, and stands at i: it goes over the ordinary octets up to e.
pub ordinary-over : (s : List ℕ) (i e r : ℕ) → e ≡ i + run is_ordinary (drop i s) → r ≡ i + run (is_not iac) (drop i s)
    → r ≡ e + run (is_not iac) (drop e s)
ordinary-over s i e r at q =
    let over = through is_ordinary (is_not iac) (λ x h. (and_both (is_not lf x) (is_not iac x) h).1) (drop i s) in
    let behind : drop (run is_ordinary (drop i s)) (drop i s) ≡ drop e s =
    drop-drop (run is_ordinary (drop i s)) i s ∙ ap (λ (n : ℕ). drop n s) (sym at) in
    let rest = ap (run (is_not iac)) behind in
    omega (arith, over, rest, at, q)
