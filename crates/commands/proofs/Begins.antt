-- The command that a content begins with, by the octets at its front and the one that follows them.
use mathlib.Core.Path.{◌≡◌, refl, sym, ap, ◌∙◌}
use mathlib.Core.Bool.{Bool, true, false, and-false}
use mathlib.Core.List.{List, [], ◌∷◌}
use Prim.Native.Nat.{ℕ, ◌<◌}
use native.Mathlib.Omega.{arith}
use borrow.Author.Tests.{eqb-true, eqb-false, eq-eqb, ne_eqb, not-true}
use lib.Dec.{eqb}
use lib.ListN.{length, get_or, take}
use lib.Seq.{length-take-le}
use Rattle.rules.specs.Octets.{oct, space, is_not, choose, every, equal, capital, alike, run, front}
use Rattle.rules.specs.Lines.{word}
use Rattle.rules.specs.Commands.{command_word}
use Rattle.rules.specs.declared.CommandWord.{CommandWord}
use Rattle.octets.proofs.Choices.{passed}
use Rattle.octets.proofs.Ranges.{and_both}
use Rattle.octets.proofs.Runs.{run_length}
use Rattle.octets.proofs.Words.{alike-lengths}

-- the word of a content, by its first octet
word-goes : (x : ℕ) (s : List ℕ) → eqb x space ≡ false → word (x ∷ s) ≡ x ∷ word s
unfolding word front run choose
word-goes x s e = rw e

word-ends : (x : ℕ) (s : List ℕ) → eqb x space ≡ true → word (x ∷ s) ≡ []
unfolding word front run choose
word-ends x s e = rw e

-- a content shorter than the word w
alike-short : (s w : List ℕ) → length s < length w → alike (word s) w ≡ false
unfolding word front
alike-short s w h =
    let k = run_length (is_not space) s in
    alike-lengths (take (run (is_not space) s) s) w (λ e. omega (arith, length-take-le (run (is_not space) s) s k))

-- a content whose word goes on where w ends
alike-longer : (s w : List ℕ) → length w < length s → (get_or s (length w) 0 ≡ space → ⊥) → alike (word s) w ≡ false
unfolding alike equal
alike-longer [] w h n = absurd (omega arith)
alike-longer (x ∷ s) [] h n = rw (word-goes x s (ne_eqb x space n))
alike-longer (x ∷ s) (y ∷ w) h n = by (eqb x space) refl (alike-longer s w (omega arith) n)
  where
    by : (b : Bool) → eqb x space ≡ b → alike (word s) w ≡ false → alike (word (x ∷ s)) (y ∷ w) ≡ false
    by true e r = rw (word-ends x s e)
    by false e r = rw (word-goes x s e, r) (and-false (eqb (capital x) y))

-- a content that ends, or has a space, where w ends; w has none
alike-front : (s w : List ℕ) → every (is_not space) w ≡ true → (length w < length s → get_or s (length w) 0 ≡ space) → alike (take (length w) s) w ≡ alike (word s) w
unfolding alike equal every word front run capital choose
alike-front [] [] v h = refl
alike-front [] (y ∷ w) v h = refl
alike-front (x ∷ s) [] v h = rw (word-ends x s (eq-eqb x space (h (omega arith))))
alike-front (x ∷ s) (y ∷ w) v h =
    let both = and_both (is_not space y) (every (is_not space) w) v in
    by (eqb x space) refl (not-true _ both.0) (alike-front s w both.1 (λ k. h (omega arith)))
  where
    by : (b : Bool) → eqb x space ≡ b → eqb y space ≡ false → alike (take (length w) s) w ≡ alike (word s) w → alike (x ∷ take (length w) s) (y ∷ w) ≡ alike (word (x ∷ s)) (y ∷ w)
    by true e d r = rw (word-ends x s e, eqb-true x space e, ne_eqb (capital space) y (λ q. eqb-false y space d (sym q)))
    by false e d r = rw (word-goes x s e, r)

-- no word of four octets is alike, so none of those looked for
none_alike : (w : List ℕ) → ((v : List ℕ) → length v ≡ 4 → alike w v ≡ false) → CommandWord.Other ≡ command_word w
unfolding command_word
none_alike w n =
    passed _ refl (n (oct "EPSV") refl) (passed _ refl (n (oct "EPRT") refl) (passed _ refl (n (oct "ALGS") refl) (passed _ refl (n (oct "AUTH") refl) refl)))

-- the content is short, its word goes on after four octets, or it does not
pub begins-short : (s : List ℕ) → length s < 4 → CommandWord.Other ≡ command_word (word s)
begins-short s h = none_alike (word s) (λ v e. alike-short s v (omega arith))

pub begins-longer : (s : List ℕ) → 4 < length s → (get_or s 4 0 ≡ space → ⊥) → CommandWord.Other ≡ command_word (word s)
begins-longer s h n =
    none_alike (word s) (λ v e. alike-longer s v (omega arith) (λ q. n (ap (λ (k : ℕ). get_or s k 0) (sym e) ∙ q)))

pub begins-front : (s : List ℕ) → (4 < length s → get_or s 4 0 ≡ space) → command_word (take 4 s) ≡ command_word (word s)
unfolding command_word every
begins-front s h =
    rw
    (alike-front s (oct "EPSV") refl h, alike-front s (oct "EPRT") refl h, alike-front s (oct "ALGS") refl h, alike-front s (oct "AUTH") refl h)
