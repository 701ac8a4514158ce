-- Hex digits by the range that they stand in, and the groups that they write.
use mathlib.Core.Path.{◌≡◌, refl, ap}
use mathlib.Core.Bool.{Bool, true, false, ◌||◌, and-false}
use mathlib.Core.List.{List, [], ◌∷◌}
use Rattle.std.specs.Prelude.{Option, None, Some}
use Prim.Native.Nat.{ℕ, ◌+◌, ◌-◌, ◌*◌, ◌/◌, ◌%◌, ◌^◌, ◌<◌, ◌≤◌}
use native.Mathlib.Nat.{pow-suc, pow-le-pow_right}
use native.Mathlib.Numerals.{add-one}
use native.Mathlib.Omega.{arith}
use borrow.Author.Tests.{leb-true, leb-false}
use lib.Dec.{leb}
use lib.ListN.{length, get_or, drop}
use lib.Seq.{drop-cons}
use Rattle.rules.specs.Octets.{choose, within, digit, capital, every}
use Rattle.rules.specs.Address.{hex_digit, hex_digit_value, hex_from, group}
use Rattle.octets.proofs.Ranges.{is_within, within-bounds}
use Rattle.address.proofs.Tests.{within-not}

small : (x : ℕ) → 97 ≤ x → x ≤ 122 → capital x ≡ x - 32
unfolding capital choose
small x a b = rw (is_within 97 122 x a b)

other : (x : ℕ) → (97 ≤ x → x ≤ 122 → ⊥) → capital x ≡ x
unfolding capital choose
other x out = rw (within-not 97 122 x out)

pub hex-digit : (x : ℕ) → 48 ≤ x → x ≤ 57 → choose (hex_digit x) (Some (hex_digit_value x)) None ≡ Some (x - 48)
unfolding hex_digit hex_digit_value choose
hex-digit x a b = rw (is_within 48 57 x a b)

pub hex-capital : (x : ℕ) → 65 ≤ x → x ≤ 70 → choose (hex_digit x) (Some (hex_digit_value x)) None ≡ Some (x - 65 + 10)
unfolding hex_digit hex_digit_value choose
hex-capital x a b =
    let n : x - 55 ≡ x - 65 + 10 = omega arith in
    rw (within-not 48 57 x (λ p q. omega arith), other x (λ p q. omega arith), is_within 65 70 x a b) (ap Some n)

pub hex-small : (x : ℕ) → 97 ≤ x → x ≤ 102 → choose (hex_digit x) (Some (hex_digit_value x)) None ≡ Some (x - 97 + 10)
unfolding hex_digit hex_digit_value choose
hex-small x a b =
    let n : x - 32 - 55 ≡ x - 97 + 10 = omega arith in
    rw (within-not 48 57 x (λ p q. omega arith), small x (omega arith) (omega arith), is_within 65 70 (x - 32) (omega arith) (omega arith)) (ap Some n)

capital-out : (x : ℕ) (p q : Bool) → leb 97 x ≡ p → leb x 122 ≡ q → (65 ≤ x → x ≤ 70 → ⊥) → (97 ≤ x → x ≤ 102 → ⊥) → 65 ≤ capital x → capital x ≤ 70 → ⊥
capital-out x true true p q b c l h =
    let low : 97 ≤ x = leb-true 97 x p in
    let e : capital x ≡ x - 32 = small x low (leb-true x 122 q) in
    c low (omega arith)
capital-out x true false p q b c l h =
    let e : capital x ≡ x = other x (λ m n. omega (arith, leb-false x 122 q)) in
    b (omega arith) (omega arith)
capital-out x false q' p q b c l h =
    let e : capital x ≡ x = other x (λ m n. omega (arith, leb-false 97 x p)) in
    b (omega arith) (omega arith)

pub hex-none : (x : ℕ) → (48 ≤ x → x ≤ 57 → ⊥) → (65 ≤ x → x ≤ 70 → ⊥) → (97 ≤ x → x ≤ 102 → ⊥) → choose (hex_digit x) (Some (hex_digit_value x)) None ≡ None
unfolding hex_digit choose
hex-none x a b c = rw (within-not 48 57 x a, within-not 65 70 (capital x) (capital-out x (leb 97 x) (leb x 122) refl refl b c))

-- a hex digit's value is below 16
below_by : (x : ℕ) (a b : Bool) → digit x ≡ a → within 65 70 (capital x) ≡ b → a || b ≡ true → choose a (x - 48) (capital x - 55) < 16
unfolding choose
below_by x true b p q e = let h : x ≤ 57 = (within-bounds 48 57 x p).1 in omega arith
below_by x false true p q e = let h : capital x ≤ 70 = (within-bounds 65 70 (capital x) q).1 in omega arith
below_by x false false p q e = let z : ◌≡◌ {A = ℕ} 0 1 = cc in absurd (omega arith)

pub hex-below : (x : ℕ) → hex_digit x ≡ true → hex_digit_value x < 16
unfolding hex_digit hex_digit_value
hex-below x e = below_by x (digit x) (within 65 70 (capital x)) refl refl e

-- what the value that was read of an octet says
yes-by : (x v : ℕ) (b : Bool) → hex_digit x ≡ b → Some v ≡ choose b (Some (hex_digit_value x)) None → (hex_digit x ≡ true) × (hex_digit_value x ≡ v)
unfolding choose
yes-by x v true e p = (e, cc)
yes-by x v false e p = cc

no-by : (x : ℕ) (b : Bool) → hex_digit x ≡ b → ◌≡◌ {A = Option ℕ} None (choose b (Some (hex_digit_value x)) None) → hex_digit x ≡ false
unfolding choose
no-by x true e p = cc
no-by x false e p = e

module _ (x : ℕ) where
  pub digit-yes : {v : ℕ} → Some v ≡ choose (hex_digit x) (Some (hex_digit_value x)) None → (hex_digit x ≡ true) × (hex_digit_value x ≡ v)
  digit-yes {v} e = yes-by x v (hex_digit x) refl e

  pub digit_not : ◌≡◌ {A = Option ℕ} None (choose (hex_digit x) (Some (hex_digit_value x)) None) → hex_digit x ≡ false
  digit_not e = no-by x (hex_digit x) refl e

-- the number that n hex digits write
pub more-digits : (v r n : ℕ) → v < 16 ^ n → r < 16 → v * 16 + r < 16 ^ (n + 1)
more-digits v r n h k = rw (add-one, pow-suc) (omega arith)

pub few-digits : (v n : ℕ) → v < 16 ^ n → n ≤ 4 → v < 65536
few-digits v n h k = let m : 16 ^ n ≤ 65536 = pow-le-pow_right (omega arith) k in omega arith

-- the value of hex digits at an index
module _ (s : List ℕ) (i : ℕ) (h : i < length s) where
  pub hex_from-at : (v : ℕ) → hex_from v (drop i s) ≡ hex_from (v * 16 + hex_digit_value (get_or s i 0)) (drop (i + 1) s)
  unfolding hex_from
  hex_from-at v = rw (add-one, drop-cons s i 0 h)

-- a group, by its tests
pub group-size : (g : List ℕ) → within 1 4 (length g) ≡ false → group g ≡ None
unfolding group choose
group-size g e = rw e

pub group-octets : (g : List ℕ) → every hex_digit g ≡ false → group g ≡ None
unfolding group choose
group-octets g e = rw (e, and-false (within 1 4 (length g)))

pub group-read : (g : List ℕ) (v : ℕ) → within 1 4 (length g) ≡ true → every hex_digit g ≡ true → hex_from 0 g ≡ v → group g ≡ Some (v / 256 ∷ v % 256 ∷ [])
unfolding group choose
group-read g v a b e = rw (a, b, e)
