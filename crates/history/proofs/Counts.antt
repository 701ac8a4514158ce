-- The counts that wrap, and the offsets.
use mathlib.Core.Path.{◌≡◌, refl, ap}
use mathlib.Core.List.{List, [], ◌∷◌, ◌++◌, map}
use Prim.Native.Nat.{ℕ, suc, ◌+◌, ◌^◌}
use native.Mathlib.Nat.{mod-add-mod, mod-mod}
use lib.ListN.{length}
use Rattle.rules.specs.Answers.{Side, client, server, wrapped, offset_of}
use Rattle.rules.specs.History.{Item, octet, end, text_of, taken_from}
use Rattle.records.specs.declared.Counts.{Counts}
use Rattle.counts.specs.Counts.{counted, taken_for}

-- a direction's counts stand for t octets taken and w written
pub record Counted (k : Counts) (t w : ℕ) : Type 0 where
  pub taken : k.taken ≡ wrapped t
  pub written : k.written ≡ wrapped w

wrapped-add : (n a b : ℕ) → n ≡ wrapped a → wrapped (n + b) ≡ wrapped (a + b)
unfolding wrapped
wrapped-add n a b e = rw e (mod-add-mod a (2 ^ 32) b)

pub counted-more : (k : Counts) (t w a b : ℕ) → Counted k t w → Counted (counted k a b) (t + a) (w + b)
counted-more k t w a b c =
    record { taken = wrapped-add k.taken t a c.taken; written = wrapped-add k.written w b c.written }

pub counted-fresh : Counted (record { taken = 0; written = 0 }) 0 0
unfolding wrapped
counted-fresh = record { taken = refl; written = refl }

wrapped-twice : (n : ℕ) → wrapped (wrapped n) ≡ wrapped n
unfolding wrapped
wrapped-twice n = mod-mod n (2 ^ 32)

pub counted-offset : (k : Counts) (t w : ℕ) → Counted k t w → offset_of k.written k.taken ≡ offset_of w t
unfolding offset_of
counted-offset k t w c = rw (c.written, c.taken, wrapped-twice w, wrapped-twice t)

-- ---- the octets of a side in a history

pub text-append : (d : Side) (is js : List Item) → text_of d (is ++ js) ≡ text_of d is ++ text_of d js
unfolding text_of
text-append d [] js = refl
text-append client (octet client x ∷ is) js = ap (λ (l : List ℕ). x ∷ l) (text-append client is js)
text-append client (octet server x ∷ is) js = text-append client is js
text-append server (octet client x ∷ is) js = text-append server is js
text-append server (octet server x ∷ is) js = ap (λ (l : List ℕ). x ∷ l) (text-append server is js)
text-append d (end e ∷ is) js = text-append d is js

pub taken-octets : (d e : Side) (xs : List ℕ) → taken_from d (map (octet e) xs) ≡ taken_for d e (length xs)
unfolding text_of
taken-octets client client [] = refl
taken-octets client server [] = refl
taken-octets server client [] = refl
taken-octets server server [] = refl
taken-octets client client (x ∷ xs) = ap suc (taken-octets client client xs)
taken-octets client server (x ∷ xs) = taken-octets client server xs
taken-octets server client (x ∷ xs) = taken-octets server client xs
taken-octets server server (x ∷ xs) = ap suc (taken-octets server server xs)
