-- Laws of a text without the octets at its end that pass a test.
use Rattle.std.proofs.Common.{◌≡◌, refl, sym, ap, ◌∙◌, Bool, true, false, List, [], ◌∷◌, ◌++◌, ℕ, suc, ◌-◌, ◌<◌, ◌≤◌, length, get_or, take, drop, eqb, nat_eq, arith}
use mathlib.Core.Bool.{and-true}
use lib.Dec.{eqb-zero-suc}
use lib.ListN.{drop_of_length-le}
use lib.Seq.{take_all, take-suc, drop-cons}
use Rattle.std.specs.Cmp.Lexicographic.{pointwise}
use Rattle.rules.specs.Octets.{is, trim_end, keep_unless}

keep_snoc : (b : Bool) (y : ℕ) (l : List ℕ) (x : ℕ) → keep_unless b y (l ++ (x ∷ [])) ≡ y ∷ (l ++ (x ∷ []))
unfolding keep_unless
keep_snoc true y [] x = refl
keep_snoc true y (z ∷ l) x = refl
keep_snoc false y [] x = refl
keep_snoc false y (z ∷ l) x = refl

trim-kept : (p : ℕ → Bool) (l : List ℕ) (x : ℕ) → p x ≡ false → trim_end p (l ++ (x ∷ [])) ≡ l ++ (x ∷ [])
unfolding trim_end keep_unless
trim-kept p [] x e = rw e
trim-kept p (y ∷ l) x e = rw (trim-kept p l x e) (keep_snoc (p y) y l x)

trim-cut : (p : ℕ → Bool) (l : List ℕ) (x : ℕ) → p x ≡ true → trim_end p (l ++ (x ∷ [])) ≡ trim_end p l
unfolding trim_end keep_unless
trim-cut p [] x e = rw e
trim-cut p (y ∷ l) x e = rw (trim-cut p l x e)

-- ---- the last octet of a text, by the library's test of what a text ends with

-- where it has one at n, and nothing behind
module _ (n : ℕ) (l : List ℕ) (h : length l ≡ suc n) where
  ends-by : (d : ℕ) → pointwise nat_eq (drop n l) (d ∷ []) ≡ eqb (get_or l n 0) d
  ends-by d =
      let inside : n < length l = omega arith in
      let behind : length l ≤ suc n = omega arith in
      let none : drop (suc n) l ≡ [] = drop_of_length-le l behind in
      rw (drop-cons l n 0 inside, none) (and-true (eqb (get_or l n 0) d))

  split-last : l ≡ take n l ++ (get_or l n 0 ∷ [])
  split-last = sym (take_all (suc n) l (omega arith)) ∙ take-suc l n 0 (omega arith)

  stripped : (d : ℕ) → pointwise nat_eq (drop n l) (d ∷ []) ≡ true → trim_end (is d) l ≡ trim_end (is d) (take n l)
  stripped d e = ap (trim_end (is d)) split-last ∙ trim-cut (is d) (take n l) (get_or l n 0) (sym (ends-by d) ∙ e)

  whole : (d : ℕ) → pointwise nat_eq (drop n l) (d ∷ []) ≡ false → l ≡ trim_end (is d) l
  whole d e =
      sym (ap (trim_end (is d)) split-last ∙ trim-kept (is d) (take n l) (get_or l n 0) (sym (ends-by d) ∙ e) ∙ sym split-last)

-- of any text; no octet that it is asked to end with is 0
pub ends-with : (d : ℕ) (l : List ℕ) → pointwise nat_eq (drop (length l - 1) l) (suc d ∷ []) ≡ eqb (get_or l (length l - 1) 0) (suc d)
ends-with d [] = sym (eqb-zero-suc d)
ends-with d (x ∷ l) = let e : length (x ∷ l) - 1 ≡ length l = omega arith in rw e (ends-by (length l) (x ∷ l) refl (suc d))

-- a text that ends with the octet d, and one that does not
pub trim-stripped : (d : ℕ) (l : List ℕ) → pointwise nat_eq (drop (length l - 1) l) (d ∷ []) ≡ true
    → trim_end (is d) l ≡ trim_end (is d) (take (length l - 1) l)
trim-stripped d [] h = refl
trim-stripped d (x ∷ l) h =
    let e : length (x ∷ l) - 1 ≡ length l = omega arith in rw e (stripped (length l) (x ∷ l) refl d (rw e at h))

pub trim-whole : (d : ℕ) (l : List ℕ) → pointwise nat_eq (drop (length l - 1) l) (d ∷ []) ≡ false → l ≡ trim_end (is d) l
unfolding trim_end
trim-whole d [] h = refl
trim-whole d (x ∷ l) h = let e : length (x ∷ l) - 1 ≡ length l = omega arith in whole (length l) (x ∷ l) refl d (rw e at h)
