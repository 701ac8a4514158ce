-- Readings one after the other, of which one of more than sixteen octets is no part of an address.
use mathlib.Core.Path.{◌≡◌, refl, sym, ◌∙◌}
use mathlib.Core.Bool.{Bool, true, false}
use mathlib.Core.List.{List, [], ◌∷◌, ◌++◌}
use Rattle.std.specs.Prelude.{Option, None, Some}
use Prim.Native.Nat.{ℕ, ◌<◌}
use native.Mathlib.Omega.{arith}
use borrow.Author.Tests.{leb-false, lt-leb}
use lib.Dec.{leb}
use lib.ListN.{length, get_or, length-append}
use Rattle.rules.specs.Octets.{choose}
use Rattle.rules.specs.Address.{both, eight_groups, filled}
use Rattle.octets.proofs.Joining.{both-start, both-none, both-both}
use Rattle.address.specs.Text.{within_sixteen, Reads}
use Rattle.address.proofs.Wholes.{eight_fits, filled-fits}

-- a reading that is too long stays so
long-by : (a : List ℕ) (o : Option (List ℕ)) (t : Bool) → leb (length a) 16 ≡ t → within_sixteen (both (choose t (Some a) None) o) ≡ within_sixteen (both (Some a) o)
unfolding within_sixteen both choose
long-by a o true e = refl
long-by a None false e = refl
long-by a (Some b) false e =
    let h : 16 < length a = leb-false (length a) 16 e in
    let l : 16 < length (a ++ b) = rw length-append (omega arith) in
    rw (lt-leb (length (a ++ b)) 16 l)

fits_both : (a b : Option (List ℕ)) → within_sixteen (both (within_sixteen a) b) ≡ within_sixteen (both a b)
unfolding within_sixteen
fits_both None b = refl
fits_both (Some a) b = long-by a b (leb (length a) 16) refl

pub reads-refl : (o : Option (List ℕ)) → Reads o o
reads-refl o = record { same = refl }

-- r is what a and then o say, and q follows
pub read-on : (a o q : Option (List ℕ)) {r w : Option (List ℕ)} → Reads r (both a o) → Reads (both a (both o q)) w → Reads (both r q) w
read-on a o q {r} h k =
    record { same = sym (fits_both r q) ∙ rw (h.same, fits_both (both a o) q, both-both a o q) k.same }

-- what is refused stays so, whatever follows
pub refused : (q : Option (List ℕ)) {w : Option (List ℕ)} → Reads (both None q) w → Reads None w
unfolding both
refused q h = h

-- a seventeenth octet
pub octet-full : (a : List ℕ) (x : ℕ) → length a ≡ 16 → Reads None (Some (a ++ (x ∷ [])))
unfolding within_sixteen choose
octet-full a x h =
    let more : 16 < length (a ++ (x ∷ [])) = rw length-append (omega arith) in
    record { same = rw (lt-leb _ 16 more) }

-- readings from nothing on, as an address
pub reads-eight : (o : Option (List ℕ)) {r : Option (List ℕ)} → Reads r (both (Some []) o) → eight_groups r ≡ eight_groups o
reads-eight o {r} h = sym (eight_fits r) ∙ rw (h.same, both-start o) (eight_fits o)

pub reads-filled : (o p : Option (List ℕ)) {r q : Option (List ℕ)} → Reads r (both (Some []) o) → Reads q (both (Some []) p) → filled r q ≡ filled o p
reads-filled o p {r} {q} h k = sym (filled-fits r q) ∙ rw (h.same, k.same, both-start o, both-start p) (filled-fits o p)

-- what is refused is read after a
pub reads-none : (a : Option (List ℕ)) {o : Option (List ℕ)} → None ≡ o → Reads None (both a o)
reads-none a {o} e = rw (← e, both-none a) (reads-refl None)

-- the octets x, which are two, after a
two-off : (a x : List ℕ) → length x ≡ 2 → Reads None (Some (a ++ (get_or x 0 0 ∷ []))) → Reads None (both (Some a) (Some x))
unfolding both
two-off a [] size e = absurd (omega arith)
two-off a (h ∷ []) size e = absurd (omega arith)
two-off a (h ∷ l ∷ []) size e = read-on (Some a) (Some (h ∷ [])) (Some (l ∷ [])) e (reads-refl _)
two-off a (h ∷ l ∷ m ∷ x) size e = absurd (omega arith)

two-on : (a x b : List ℕ) (r : Option (List ℕ)) → length x ≡ 2 → Reads (Some b) (Some (a ++ (get_or x 0 0 ∷ []))) → Reads r (Some (b ++ (get_or x 1 0 ∷ []))) → Reads r (both (Some a) (Some x))
unfolding both
two-on a [] b r size e f = absurd (omega arith)
two-on a (h ∷ []) b r size e f = absurd (omega arith)
two-on a (h ∷ l ∷ []) b r size e f =
    record { same = f.same ∙ (read-on (Some a) (Some (h ∷ [])) (Some (l ∷ [])) e (reads-refl _)).same }
two-on a (h ∷ l ∷ m ∷ x) b r size e f = absurd (omega arith)

module _ (x : List ℕ) {g : Option (List ℕ)} (size : length x ≡ 2) (read : Some x ≡ g) where
  pub octets-off : (a : List ℕ) → Reads None (Some (a ++ (get_or x 0 0 ∷ []))) → Reads None (both (Some a) g)
  octets-off a e = rw (← read) (two-off a x size e)

  pub octets-on : (a : List ℕ) {b : List ℕ} {r : Option (List ℕ)} → Reads (Some b) (Some (a ++ (get_or x 0 0 ∷ []))) → Reads r (Some (b ++ (get_or x 1 0 ∷ []))) → Reads r (both (Some a) g)
  octets-on a {b} {r} e f = rw (← read) (two-on a x b r size e f)
