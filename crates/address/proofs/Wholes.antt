-- Sixteen octets from readings: eight groups, or two halves and the zeros between them.
use mathlib.Core.Path.{◌≡◌, refl, sym, ap, ◌∙◌}
use mathlib.Core.Bool.{Bool, true, false}
use mathlib.Core.List.{List, ◌++◌, append_assoc, append-nil}
use Rattle.std.specs.Prelude.{Option, None, Some}
use Prim.Native.Nat.{ℕ, ◌+◌, ◌-◌, ◌<◌, ◌≤◌}
use native.Mathlib.Nat.{add_assoc}
use native.Mathlib.Omega.{arith}
use borrow.Author.Tests.{leb-false, le-leb, lt-leb, ne_eqb}
use lib.Dec.{leb}
use lib.ListN.{length, take, drop, replicate, length-append, length-replicate, replicate-append-replicate, drop_of_length-le}
use lib.Seq.{drop-drop, length-take-le, take_all, take_at, drop_at}
use borrow.Rule.Slice.PartMut.{put_mid}
use Rattle.rules.specs.Octets.{choose}
use Rattle.rules.specs.Address.{eight_groups, filled}
use Rattle.address.specs.Text.{within_sixteen}

-- a reading that is too long gives no address
eight-by : (a : List ℕ) (t : Bool) → leb (length a) 16 ≡ t → eight_groups (choose t (Some a) None) ≡ eight_groups (Some a)
unfolding eight_groups choose
eight-by a true e = refl
eight-by a false e =
    let h : 16 < length a = leb-false (length a) 16 e in
    rw (ne_eqb (length a) 16 (λ q. omega arith))

pub eight_fits : (o : Option (List ℕ)) → eight_groups (within_sixteen o) ≡ eight_groups o
unfolding within_sixteen
eight_fits None = refl
eight_fits (Some a) = eight-by a (leb (length a) 16) refl

filled-left : (a : List ℕ) (o : Option (List ℕ)) (t : Bool) → leb (length a) 16 ≡ t → filled (choose t (Some a) None) o ≡ filled (Some a) o
unfolding filled choose
filled-left a o true e = refl
filled-left a None false e = refl
filled-left a (Some b) false e =
    let h : 16 < length a = leb-false (length a) 16 e in
    rw (lt-leb (length a + length b) 14 (omega arith))

filled-right : (a b : List ℕ) (t : Bool) → leb (length b) 16 ≡ t → filled (Some a) (choose t (Some b) None) ≡ filled (Some a) (Some b)
unfolding filled choose
filled-right a b true e = refl
filled-right a b false e =
    let h : 16 < length b = leb-false (length b) 16 e in
    rw (lt-leb (length a + length b) 14 (omega arith))

filled-after : (a : List ℕ) (o : Option (List ℕ)) → filled (Some a) (within_sixteen o) ≡ filled (Some a) o
unfolding within_sixteen
filled-after a None = refl
filled-after a (Some b) = filled-right a b (leb (length b) 16) refl

pub filled-fits : (o q : Option (List ℕ)) → filled (within_sixteen o) (within_sixteen q) ≡ filled o q
unfolding within_sixteen filled
filled-fits None q = refl
filled-fits (Some a) q = filled-left a (within_sixteen q) (leb (length a) 16) refl ∙ filled-after a q

-- two halves put into zeros, one at each end
module _ (a b z : List ℕ) (k : ℕ) (total : length a + k + length b ≡ 16) (zeros : z ≡ replicate 16 0) where
  behind-a : a ++ drop (length a) z ≡ (a ++ replicate k 0) ++ replicate (length b) 0
  behind-a =
      let all : replicate (length a) 0 ++ (replicate k 0 ++ replicate (length b) 0) ≡ z =
      simp replicate-append-replicate (ap (λ (n : ℕ). replicate n 0) (sym (add_assoc (length a) k (length b)) ∙ total) ∙ sym zeros) in
      let rest : drop (length a) z ≡ replicate k 0 ++ replicate (length b) 0 =
      rw (← all) (drop_at (replicate (length a) 0) (replicate k 0 ++ replicate (length b) 0) (length a) (length-replicate (length a) 0)) in
      rw (rest, append_assoc)

  pub pasted-halves : (n : ℕ) → n + length b ≡ 16 → (take n (a ++ drop (length a) z) ++ b) ++ drop (n + length b) (a ++ drop (length a) z) ≡ a ++ (replicate k 0 ++ b)
  pasted-halves n e =
      let front : length (a ++ replicate k 0) ≡ n = simp (length-append, length-replicate) (omega arith) in
      let whole : length ((a ++ replicate k 0) ++ replicate (length b) 0) ≤ n + length b = simp (length-append, length-replicate) (omega arith) in
      rw (behind-a, take_at (a ++ replicate k 0) (replicate (length b) 0) n front, drop_of_length-le ((a ++ replicate k 0) ++ replicate (length b) 0) whole, append-nil, append_assoc)

-- octets that are held at the front of sixteen
module _ (o s : List ℕ) (n : ℕ) (held : take n o ≡ s) (size : length o ≡ 16) where
  pub held-length : n ≤ 16 → length s ≡ n
  held-length h = rw (← held) (length-take-le n o (omega arith))

  pub eight-all : n ≡ 16 → Some o ≡ eight_groups (Some s)
  unfolding eight_groups choose
  eight-all h = rw (← held, take_all n o (omega arith), size)

  pub eight-short : n ≤ 16 → (n ≡ 16 → ⊥) → None ≡ eight_groups (Some s)
  unfolding eight_groups choose
  eight-short h out = rw (held-length h, ne_eqb n 16 out)

-- two halves put into zeros
module _ (a b : List ℕ) where
  pub filled-long : 14 < length a + length b → None ≡ filled (Some a) (Some b)
  unfolding filled choose
  filled-long h = rw (lt-leb (length a + length b) 14 h)

  pub filled-read : (z : List ℕ) → z ≡ replicate 16 0 → length a + length b ≤ 14 → Some (put_mid (16 - length b) (16 - (16 - length b)) (a ++ drop (length a) z) b) ≡ filled (Some a) (Some b)
  unfolding filled choose
  filled-read z zeros h =
      let n : 16 - (16 - length b) ≡ length b = omega arith in
      rw (n, le-leb (length a + length b) 14 h)
      (ap Some (rw drop-drop (sym (append_assoc _ b _) ∙ pasted-halves a b z (16 - (length a + length b)) (omega arith) zeros (16 - length b) (omega arith))))
