-- Decimal numbers by their last digit.
use mathlib.Core.Path.{◌≡◌, refl, ap, ◌∙◌}
use mathlib.Core.Bool.{Bool, true, false}
use mathlib.Core.List.{List, [], ◌∷◌, ◌++◌}
use Prim.Native.Nat.{ℕ, zero, suc, ◌+◌, ◌-◌, ◌/◌, ◌%◌, ◌^◌, ◌<◌, ◌≤◌}
use native.Mathlib.Nat.{mod-eq_of_lt, pow-suc, pow-le-pow_right}
use native.Mathlib.Omega.{arith}
use lib.Dec.{ltb}
use lib.ListN.{length, take, drop, length-append, length-drop}
use lib.Seq.{take_all, drop_at, drop-append-le}
use borrow.Author.Tests.{lt-ltb, le-ltb, ltb-true, ltb-false}
use Rattle.rules.specs.Octets.{decimal_by, decimal}

by_one : (f n : ℕ) → n < 10 → decimal_by f n ≡ (48 + n) ∷ []
unfolding decimal_by
by_one zero n h = refl
by_one (suc f) n h = rw (lt-ltb n 10 h, decimal_by)

by-step : (f n : ℕ) → 10 ≤ n → decimal_by (suc f) n ≡ decimal_by f (n / 10) ++ ((48 + n % 10) ∷ [])
unfolding decimal_by
by-step f n h = rw (le-ltb n 10 h, decimal_by)

by-test : (f g n : ℕ) → n ≤ suc f → n ≤ suc g → ((m : ℕ) → m ≤ f → m ≤ g → decimal_by f m ≡ decimal_by g m)
    → (b : Bool) → ltb n 10 ≡ b → decimal_by (suc f) n ≡ decimal_by (suc g) n
by-test f g n p q below true e = rw (by_one (suc f) n (ltb-true n 10 e), by_one (suc g) n (ltb-true n 10 e))
by-test f g n p q below false e =
    let h = ltb-false n 10 e in rw (by-step f n h, by-step g n h, below (n / 10) (omega arith) (omega arith))

-- the bound of the recursion does not show once it is at least n
by-any : (f g n : ℕ) → n ≤ f → n ≤ g → decimal_by f n ≡ decimal_by g n
by-any zero g n p q = rw (by_one zero n (omega arith), by_one g n (omega arith))
by-any (suc f) zero n p q = rw (by_one (suc f) n (omega arith), by_one zero n (omega arith))
by-any (suc f) (suc g) n p q = by-test f g n p q (λ m. by-any f g m) (ltb n 10) refl

pub decimal-one : (n : ℕ) → n < 10 → decimal n ≡ (48 + n) ∷ []
unfolding decimal
decimal-one n h = by_one n n h

pub decimal_step : (n : ℕ) → 10 ≤ n → decimal n ≡ decimal (n / 10) ++ ((48 + n % 10) ∷ [])
unfolding decimal
decimal_step zero h = elim h [ ]
decimal_step (suc n) h = by-step n (suc n) h ∙ ap (λ (l : List ℕ). l ++ ((48 + suc n % 10) ∷ [])) (by-any n (suc n / 10) (suc n / 10) (omega arith) (omega arith))

-- a number from 10 ^ k to below 10 ^ (k + 1) has k + 1 digits
pub decimal-length : (k n : ℕ) → 10 ^ k ≤ n → n < 10 ^ suc k → length (decimal n) ≡ suc k
decimal-length zero n low high = ap length (decimal-one n high)
decimal-length (suc k) n low high =
    let p = pow-suc 10 k in
    let q = pow-suc 10 (suc k) in
    let more : 10 ≤ n = omega (arith, pow-le-pow_right {n = 10} (omega arith) {i = 0} {j = k} (omega arith)) in
    rw (decimal_step n more, length-append) (omega (arith, decimal-length k (n / 10) (omega arith) (omega arith)))

-- the last k digits
unfoldable pub digits : ℕ → ℕ → List ℕ
digits zero n = []
digits (suc k) n = digits k (n / 10) ++ ((48 + n % 10) ∷ [])

pub length_digits : (k n : ℕ) → length (digits k n) ≡ k
unfolding digits
length_digits zero n = refl
length_digits (suc k) n = rw length-append (omega (arith, length_digits k (n / 10)))

last_one : (k n : ℕ) → n < 10 → drop (suc k - length (decimal n)) (digits (suc k) n) ≡ decimal n
unfolding digits
last_one k n h =
    rw (decimal-one n h)
    (drop_at (digits k (n / 10)) ((48 + n % 10) ∷ []) (suc k - 1) (omega (arith, length_digits k (n / 10))) ∙ rw (mod-eq_of_lt h))

last_more : (k n : ℕ) → 10 ≤ n → drop (k - length (decimal (n / 10))) (digits k (n / 10)) ≡ decimal (n / 10)
    → drop (suc k - length (decimal n)) (digits (suc k) n) ≡ decimal n
unfolding digits
last_more k n h e =
    let less : suc k - (length (decimal (n / 10)) + 1) ≡ k - length (decimal (n / 10)) = omega arith in
    rw (decimal_step n h, length-append, less, drop-append-le (k - length (decimal (n / 10))) (digits k (n / 10)) ((48 + n % 10) ∷ []) (rw length_digits (omega arith)), e)

last-test : (k n : ℕ) (b : Bool) → ltb n 10 ≡ b → (10 ≤ n → drop (k - length (decimal (n / 10))) (digits k (n / 10)) ≡ decimal (n / 10))
    → drop (suc k - length (decimal n)) (digits (suc k) n) ≡ decimal n
last-test k n true e shorter = last_one k n (ltb-true n 10 e)
last-test k n false e shorter = last_more k n (ltb-false n 10 e) (shorter (ltb-false n 10 e))

-- a number below 10 ^ (k + 1) is written by the last of its k + 1 last digits
pub decimal-last : (k n : ℕ) → n < 10 ^ suc k → drop (suc k - length (decimal n)) (digits (suc k) n) ≡ decimal n
decimal-last zero n h = last_one zero n h
decimal-last (suc k) n h = last-test (suc k) n (ltb n 10) refl (λ t. decimal-last k (n / 10) (omega (arith, pow-suc 10 (suc k))))

pub decimal-most : (k n : ℕ) → n < 10 ^ suc k → length (decimal n) ≤ suc k
decimal-most k n h =
    omega (arith, length_digits (suc k) n, length-drop (suc k - length (decimal n)) (digits (suc k) n), ap length (decimal-last k n h))

-- the same as a part that starts where the zeros end
pub decimal-part : (k n : ℕ) (l : List ℕ) (size : ℕ) → n < 10 ^ suc k → l ≡ digits (suc k) n → size ≡ length (decimal n)
    → take (suc k - (suc k - size)) (drop (suc k - size) l) ≡ decimal n
decimal-part k n l size h same e =
    rw (same, e, decimal-last k n h)
    (take_all (suc k - (suc k - length (decimal n))) (decimal n) (omega (arith, decimal-most k n h)))
