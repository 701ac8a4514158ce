-- Laws of `run` and `every` at an index, over any test.
use mathlib.Core.Path.{◌≡◌, refl, sym, ap, ◌∙◌}
use mathlib.Core.Bool.{Bool, true, false, ◌&&◌, and-true, and_assoc}
use mathlib.Core.List.{List, [], ◌∷◌, ◌++◌}
use Prim.Native.Nat.{ℕ, zero, suc, ◌+◌, ◌-◌, ◌<◌, ◌≤◌, max}
use native.Mathlib.Numerals.{add-one}
use native.Mathlib.Omega.{arith}
use borrow.Author.Tests.{eq-eqb, ne_eqb}
use lib.Dec.{eqb, eqb-suc-suc, eqb-zero-suc}
use lib.ListN.{length, get_or, take, drop, length-drop, take-append-drop, drop_of_length-le}
use lib.Seq.{drop-cons, drop-drop, length-take-le}
use Rattle.std.specs.List.{list_all}
use Rattle.rules.specs.Octets.{run, front, after, every, choose}
use Rattle.octets.proofs.Ranges.{and_both}

-- the octet at i passes: the run from i is one more than the run from i + 1
pub run_more : (p : ℕ → Bool) (s : List ℕ) (i : ℕ) → i < length s → p (get_or s i 0) ≡ true → run p (drop i s) ≡ suc (run p (drop (i + 1) s))
unfolding run choose
run_more p s i h e = rw (add-one, drop-cons s i 0 h, e)

-- it does not: the run from i is empty
pub run-stops : (p : ℕ → Bool) (s : List ℕ) (i : ℕ) → i < length s → p (get_or s i 0) ≡ false → run p (drop i s) ≡ 0
unfolding run choose
run-stops p s i h e = rw (drop-cons s i 0 h, e)

-- at the end there is no run
pub run_end : (p : ℕ → Bool) (s : List ℕ) (i : ℕ) → length s ≤ i → run p (drop i s) ≡ 0
unfolding run
run_end p s i h = rw (drop_of_length-le s h)

-- A loop that looks for the position e where a run ends, and stands at i: it goes on, it is there by the octet at i, or by the end.
pub run_step : (p : ℕ → Bool) (s : List ℕ) (i e : ℕ) → i < length s → p (get_or s i 0) ≡ true → e ≡ i + run p (drop i s) → e ≡ (i + 1) + run p (drop (i + 1) s)
run_step p s i e h t q = omega (arith, run_more p s i h t)

pub run-found : (p : ℕ → Bool) (s : List ℕ) (i e : ℕ) → i < length s → p (get_or s i 0) ≡ false → e ≡ i + run p (drop i s) → i ≡ e
run-found p s i e h t q = omega (arith, run-stops p s i h t)

pub run-ended : (p : ℕ → Bool) (s : List ℕ) (i e : ℕ) → length s ≤ i → e ≡ i + run p (drop i s) → i ≡ e
run-ended p s i e h q = omega (arith, run_end p s i h)

run-bound : (r n : ℕ) (b : Bool) → r ≤ n → choose b (suc r) 0 ≤ suc n
unfolding choose
run-bound r n true h = omega arith
run-bound r n false h = omega arith

-- a run is no longer than the text
pub run_length : (p : ℕ → Bool) (s : List ℕ) → run p s ≤ length s
unfolding run
run_length p [] = omega arith
run_length p (x ∷ s) = run-bound (run p s) (length s) (p x) (run_length p s)

-- or by the end of the text, behind which a search may have begun
pub run-behind : (p : ℕ → Bool) (s : List ℕ) (from i : ℕ) → length s ≤ i → from + run p (drop from s) ≡ i + run p (drop i s)
    → (from ≤ length s → i ≤ length s) → max from (length s) ≡ from + run p (drop from s)
run-behind p s from i h q k = omega (arith, run_end p s i h, run_length p (drop from s), length-drop from s)

every-cons : (r n : ℕ) (b e : Bool) → e ≡ eqb r n → (b && e) ≡ eqb (choose b (suc r) 0) (suc n)
unfolding choose
every-cons r n true e h = h ∙ sym (eqb-suc-suc r n)
every-cons r n false e h = sym (eqb-zero-suc n)

-- every octet passes where the run is the whole
pub every-run : (p : ℕ → Bool) (s : List ℕ) → every p s ≡ eqb (run p s) (length s)
unfolding every run
every-run p [] = refl
every-run p (x ∷ s) = every-cons (run p s) (length s) (p x) (every p s) (every-run p s)

-- a run from the start that ends at e: at the end of the text, or before it
pub every-reached : (p : ℕ → Bool) (s : List ℕ) (e : ℕ) → e ≡ 0 + run p (drop 0 s) → length s ≤ e → every p s ≡ true
every-reached p s e q h = every-run p s ∙ eq-eqb (run p s) (length s) (omega (arith, run_length p s))

pub every-short : (p : ℕ → Bool) (s : List ℕ) (e : ℕ) → e ≡ 0 + run p (drop 0 s) → e < length s → every p s ≡ false
every-short p s e q h = every-run p s ∙ ne_eqb (run p s) (length s) (λ (t : run p s ≡ length s). omega arith)

-- where every octet passes, the one at i does
pub every_get : (p : ℕ → Bool) (s : List ℕ) (i : ℕ) → every p s ≡ true → i < length s → p (get_or s i 0) ≡ true
unfolding every
every_get p [] i e h = absurd (omega arith)
every_get p (x ∷ s) zero e h = (and_both (p x) (every p s) e).0
every_get p (x ∷ s) (suc i) e h = every_get p s i (and_both (p x) (every p s) e).1 (omega arith)

-- and so do those of a rest, and of two texts joined
pub every_drop : (p : ℕ → Bool) (n : ℕ) (s : List ℕ) → every p s ≡ true → every p (drop n s) ≡ true
unfolding every
every_drop p zero s e = e
every_drop p (suc n) [] e = refl
every_drop p (suc n) (x ∷ s) e = every_drop p n s (and_both (p x) (every p s) e).1

pub every_append : (p : ℕ → Bool) (s t : List ℕ) → every p s ≡ true → every p t ≡ true → every p (s ++ t) ≡ true
unfolding every
every_append p [] t e f = f
every_append p (x ∷ s) t e f = rw (and_both (p x) (every p s) e).0 (every_append p s t (and_both (p x) (every p s) e).1 f)

pub every-snoc : (p : ℕ → Bool) (s : List ℕ) (x : ℕ) → every p (s ++ (x ∷ [])) ≡ (every p s && p x)
unfolding every
every-snoc p [] x = and-true (p x)
every-snoc p (y ∷ s) x = ap (λ (b : Bool). p y && b) (every-snoc p s x) ∙ sym (and_assoc (p y) (every p s) (p x))

-- a run goes on behind a text whose octets all pass
pub run-over : (p : ℕ → Bool) (s t : List ℕ) → every p s ≡ true → run p (s ++ t) ≡ length s + run p t
unfolding run every choose
run-over p [] t e = omega arith
run-over p (x ∷ s) t e =
    let both = and_both (p x) (every p s) e in
    let more : run p (s ++ t) ≡ length s + run p t = run-over p s t both.1 in
    rw both.0 (omega arith)

-- the octets of a run pass
front_by : (p : ℕ → Bool) (x : ℕ) (s : List ℕ) (b : Bool) → p x ≡ b → every p (take (run p s) s) ≡ true
    → every p (take (choose b (suc (run p s)) 0) (x ∷ s)) ≡ true
unfolding every choose
front_by p x s true e h = rw e h
front_by p x s false e h = refl

pub every_front : (p : ℕ → Bool) (s : List ℕ) → every p (front p s) ≡ true
unfolding every run front
every_front p [] = refl
every_front p (x ∷ s) = front_by p x s (p x) refl (every_front p s)

-- ---- the part of a text from i to e

module _ (s : List ℕ) (i e : ℕ) (h : i ≤ e) where
  -- with what follows it, it is what stands from i on
  pub part-rest : drop i s ≡ take (e - i) (drop i s) ++ drop e s
  part-rest =
      let to : i + (e - i) ≡ e = omega arith in
      let behind : drop (e - i) (drop i s) ≡ drop e s = drop-drop (e - i) i s ∙ ap (λ (n : ℕ). drop n s) to in
      sym (take-append-drop (e - i) (drop i s)) ∙ ap (λ (t : List ℕ). take (e - i) (drop i s) ++ t) behind

  pub part_length : e ≤ length s → length (take (e - i) (drop i s)) ≡ e - i
  part_length g = length-take-le (e - i) (drop i s) (omega (arith, length-drop i s))

-- ---- a run that starts at a position of a longer text

-- it ends inside where it starts inside
pub run_inside : (p : ℕ → Bool) (s : List ℕ) (b e : ℕ) → b ≤ length s → e ≡ b + run p (drop b s) → e ≤ length s
run_inside p s b e h q = omega (arith, run_length p (drop b s), length-drop b s)

pub front_at : (p : ℕ → Bool) (s : List ℕ) (b e : ℕ) → e ≡ b + run p (drop b s) → take (e - b) (drop b s) ≡ front p (drop b s)
unfolding front
front_at p s b e q = let k : e - b ≡ run p (drop b s) = omega arith in rw k

pub after-at : (p : ℕ → Bool) (s : List ℕ) (b e : ℕ) → e ≡ b + run p (drop b s) → after p (drop b s) ≡ drop e s
unfolding after
after-at p s b e q = rw (drop-drop, q)

-- from i on: the next one passes, so the rest decides; it does not; or none is left
module _ (p : ℕ → Bool) (s : List ℕ) (i : ℕ) where
  pub every-yes : i < length s → p (get_or s i 0) ≡ true → every p (drop i s) ≡ every p (drop (i + 1) s)
  unfolding every
  every-yes h e = rw (add-one, drop-cons s i 0 h, e)

  pub every-not : i < length s → p (get_or s i 0) ≡ false → every p (drop i s) ≡ false
  unfolding every
  every-not h e = rw (drop-cons s i 0 h, e)

  pub every-end : length s ≤ i → every p (drop i s) ≡ true
  unfolding every
  every-end h = rw (drop_of_length-le s h)

-- the library's test of every element is the same one
pub every-all : (p : ℕ → Bool) (s : List ℕ) → every p s ≡ list_all p s
unfolding every
every-all p [] = refl
every-all p (x ∷ s) = ap (λ (b : Bool). p x && b) (every-all p s)
