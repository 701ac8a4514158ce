-- Laws of numbers written in digits.
use mathlib.Core.Path.{◌≡◌}
use mathlib.Core.Bool.{true, false}
use mathlib.Core.List.{List, [], ◌∷◌}
use Rattle.std.specs.Prelude.{None, Some}
use Prim.Native.Nat.{ℕ, ◌+◌, ◌-◌, ◌*◌, ◌<◌, ◌≤◌}
use native.Mathlib.Numerals.{add-one}
use native.Mathlib.Omega.{arith}
use lib.ListN.{length, get_or, drop, drop_of_length-le}
use lib.Seq.{drop-cons}
use Rattle.rules.specs.Octets.{choose, within, every, digit, value_from, value, number}
use Rattle.octets.specs.Numbers.{between}
use Rattle.octets.proofs.Ranges.{is_within, is_below, is-above}

-- the digit at i is read
pub value-more : (s : List ℕ) (n i : ℕ) → i < length s → value_from n (drop i s) ≡ value_from (n * 10 + (get_or s i 0 - 48)) (drop (i + 1) s)
unfolding value_from
value-more s n i h = rw (add-one, drop-cons s i 0 h)

pub value-end : (s : List ℕ) (n i : ℕ) → length s ≤ i → value_from n (drop i s) ≡ n
unfolding value_from
value-end s n i h = rw (drop_of_length-le s h)

-- more digits make no number smaller: one that is over a bound stays over it
pub value_grows : (n : ℕ) (s : List ℕ) → n ≤ value_from n s
unfolding value_from
value_grows n [] = omega arith
value_grows n (x ∷ s) = omega (arith, value_grows (n * 10 + (x - 48)) s)

-- a number v to a range: over it once the digits read so far are, under it, in it
pub between-over : (lo hi v n : ℕ) (s : List ℕ) → v ≡ value_from n s → hi < n → between lo hi v ≡ None
unfolding between choose
between-over lo hi v n s e h = rw (is-above lo hi v (omega (arith, value_grows n s)))

pub between-under : (lo hi v n : ℕ) → v ≡ n → n < lo → between lo hi v ≡ None
unfolding between choose
between-under lo hi v n e h = rw (is_below lo hi v (omega arith))

pub between_in : (lo hi v n : ℕ) → v ≡ n → lo ≤ n → n ≤ hi → between lo hi v ≡ Some n
unfolding between choose
between_in lo hi v n e h k = rw (e, is_within lo hi n h k)

-- a number is 1 to n digits, and then its value decides
pub number_digits : (n lo hi : ℕ) (s : List ℕ) → within 1 n (length s) ≡ true → every digit s ≡ true → number n lo hi s ≡ between lo hi (value s)
unfolding number between
number_digits n lo hi s l d = rw (l, d)

pub number-length : (n lo hi : ℕ) (s : List ℕ) → within 1 n (length s) ≡ false → number n lo hi s ≡ None
unfolding number choose
number-length n lo hi s l = rw l

pub number-not-digits : (n lo hi : ℕ) (s : List ℕ) → within 1 n (length s) ≡ true → every digit s ≡ false → number n lo hi s ≡ None
unfolding number choose
number-not-digits n lo hi s l d = rw (l, d)
