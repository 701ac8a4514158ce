-- The placing, once for every length: the reserved octet left out and put in, and what stands in front of the IPv4 address.
use mathlib.Core.Path.{◌≡◌, refl, sym, ◌∙◌}
use mathlib.Core.Bool.{Bool, true, false}
use mathlib.Core.List.{List, [], ◌∷◌, ◌++◌, append-nil}
use Prim.Native.Nat.{ℕ, ◌+◌, ◌-◌, ◌/◌, ◌≤◌, ◌<◌}
use native.Mathlib.Numerals.{add-one}
use native.Mathlib.Omega.{arith}
use lib.Dec.{leb, eqb}
use lib.ListN.{length, take, drop, get_or, replicate, length-append, length-take, length-drop, length-replicate, take-append-drop, drop_of_length-le, get_or-eq_default}
use lib.Seq.{length-take-le, take_all, take-take, take_at, take-add, take-append-le, take-append-add, drop_at, drop-drop, get_or_at, get_or-take, split_at}
use borrow.Author.Tests.{leb-true, leb-false, eqb-true, not-false}
use Rattle.rules.specs.Octets.{every}
use Rattle.rules.specs.Setup.{ipv6_width, ipv4_width}
use Rattle.octets.proofs.Choices.{by-test}
use Rattle.octets.proofs.Ranges.{and_both}
use Rattle.output.specs.Buffer.{put_at}
use Rattle.prefix.specs.Prefix.{
  prefix_lengths,
  is_one_of,
  prefix_of,
  reserved,
  has_reserved_bits,
  without_reserved,
  with_reserved,
  ipv4_at,
  suffix_at,
  suffix_of,
  no_suffix,
  embedded,
  extracted,
}
use Rattle.prefix.proofs.Puts.{both-put}

-- a list without what stands at m, and with a 0 there
module _ (m : ℕ) where
  abbrev out : List ℕ → List ℕ
  out x = take m x ++ drop (m + 1) x

  abbrev inside : List ℕ → List ℕ
  inside y = take m y ++ (0 ∷ drop m y)

  out-inside : (y : List ℕ) → m ≤ length y → out (inside y) ≡ y
  out-inside y h =
      let front = length-take-le m y h in
      let first : take m (inside y) ≡ take m y = take_at (take m y) (0 ∷ drop m y) m front in
      let rest : drop (m + 1) (inside y) ≡ drop m y = rw (← drop-drop 1 m (inside y), drop_at (take m y) (0 ∷ drop m y) m front) in
      rw (first, rest) (take-append-drop m y)

  inside-out : (x : List ℕ) → m < length x → get_or x m 0 ≡ 0 → inside (out x) ≡ x
  inside-out x h e =
      let front = length-take-le m x (omega arith) in
      let first : take m (out x) ≡ take m x = take_at (take m x) (drop (m + 1) x) m front in
      let rest : drop m (out x) ≡ drop (m + 1) x = drop_at (take m x) (drop (m + 1) x) m front in
      rw (first, rest) (sym (rw (e, ← add-one m) at (split_at x m 0 h)))

  inside-at : (y : List ℕ) → m ≤ length y → get_or (inside y) m 0 ≡ 0
  inside-at y h = get_or_at (take m y) 0 (drop m y) 0 m (length-take-le m y h)

  length-out : (x : List ℕ) → m < length x → length (out x) ≡ length x - 1
  length-out x h =
      let front = length-take-le m x (omega arith) in
      rw (length-append, front, length-drop) (omega arith)

  -- the first k octets without that one, where it is not among them, and where it is
  out-short : (k : ℕ) (x : List ℕ) → k ≤ m → m < length x → out (take k x) ≡ take k (out x)
  out-short k x h there =
      let size = length-take-le k x (omega arith) in
      let front = length-take-le m x (omega arith) in
      let all : take m (take k x) ≡ take k x = take_all m (take k x) (omega arith) in
      let none : drop (m + 1) (take k x) ≡ [] = drop_of_length-le (take k x) {i = m + 1} (omega arith) in
      let same : take k (out x) ≡ take k x = take-append-le k (take m x) (drop (m + 1) x) (omega arith) ∙ take-take k m x h in
      rw (all, none, same) (append-nil (take k x))

  out-long : (k j : ℕ) (x : List ℕ) → k ≡ m + 1 + j → m < length x → out (take k x) ≡ take (k - 1) (out x)
  out-long k j x e there =
      let front = length-take-le m x (omega arith) in
      let past = length-take-le (m + 1) x (omega arith) in
      let first : take m (take k x) ≡ take m x = take-take m k x (omega arith) in
      let rest : drop (m + 1) (take k x) ≡ take j (drop (m + 1) x) =
      rw (e, take-add (m + 1) j x) (drop_at (take (m + 1) x) (take j (drop (m + 1) x)) (m + 1) past) in
      let less : k - 1 ≡ m + j = omega arith in
      rw (first, rest, less) (sym (rw front at (take-append-add (take m x) (drop (m + 1) x) j)))

-- "Prove the placing once over the length": the octets of a prefix but the reserved one are those in front of the IPv4 address
pub front : (n : ℕ) (x : List ℕ) → reserved < length x → without_reserved (prefix_of n x) ≡ take (ipv4_at n) (without_reserved x)
unfolding without_reserved prefix_of ipv4_at
front n x h =
    by-test (λ at. without_reserved (prefix_of n x) ≡ take at (without_reserved x)) (leb (n / 8) reserved) (n / 8) (n / 8 - 1)
    (λ t. out-short reserved (n / 8) x (leb-true (n / 8) reserved t) h)
    (λ t. out-long reserved (n / 8) (n / 8 - (reserved + 1)) x (omega (arith, leb-false (n / 8) reserved t)) h)

-- what a test says of each number of a list, it says of one that is in it
pub of-each : (p : ℕ → Bool) (ms : List ℕ) (n : ℕ) → every p ms ≡ true → is_one_of ms n ≡ true → p n ≡ true
unfolding is_one_of every
of-each p [] n all h = let z : ◌≡◌ {A = ℕ} 0 1 = cc in absurd (omega arith)
of-each p (m ∷ ms) n all h = here (eqb n m) refl (of-each p ms n (and_both (p m) (every p ms) all).1)
  where
    here : (t : Bool) → eqb n m ≡ t → (is_one_of ms n ≡ true → p n ≡ true) → p n ≡ true
    here true e later = rw (eqb-true n m e) (and_both (p m) (every p ms) all).0
    here false e later = later (rw e at h)

-- no length is over 96
pub length_most : (n : ℕ) → is_one_of prefix_lengths n ≡ true → n ≤ 96
unfolding every
length_most n h = leb-true n 96 (of-each (λ m. leb m 96) prefix_lengths n refl h)

pub ipv4_at-most : (n : ℕ) → n ≤ 96 → ipv4_at n ≤ 11
unfolding ipv4_at
ipv4_at-most n h = by-test (λ at. at ≤ 11) (leb (n / 8) reserved) (n / 8) (n / 8 - 1) (λ t. omega (arith, leb-true (n / 8) reserved t)) (λ t. omega arith)

module _ (x : List ℕ) (size : length x ≡ ipv6_width) where
  pub length_without : length (without_reserved x) ≡ 15
  unfolding without_reserved
  length_without = length-out reserved x (omega arith) ∙ omega arith

  pub with-without : has_reserved_bits x ≡ false → with_reserved (without_reserved x) ≡ x
  unfolding with_reserved without_reserved has_reserved_bits
  with-without h = inside-out reserved x (omega arith) (eqb-true (get_or x reserved 0) 0 (not-false (eqb (get_or x reserved 0) 0) h))

module _ (y : List ℕ) (size : length y ≡ 15) where
  pub without-with : without_reserved (with_reserved y) ≡ y
  unfolding with_reserved without_reserved
  without-with = out-inside reserved y (omega arith)

  pub reserved-zero : has_reserved_bits (with_reserved y) ≡ false
  unfolding with_reserved has_reserved_bits
  reserved-zero = rw (inside-at reserved y (omega arith))

-- the reserved octet of a prefix: there is none, or it is that of its address
module _ (n : ℕ) (x : List ℕ) where
  pub prefix_none : n < 72 → has_reserved_bits (prefix_of n x) ≡ false
  unfolding has_reserved_bits prefix_of
  prefix_none h =
      let size = length-take (n / 8) x in
      rw (get_or-eq_default (take (n / 8) x) 0 {n = reserved} (omega arith))

  pub prefix_same : 72 ≤ n → has_reserved_bits (prefix_of n x) ≡ has_reserved_bits x
  unfolding has_reserved_bits prefix_of
  prefix_same h = rw (get_or-take (n / 8) x reserved 0 (omega arith))

-- what stands in front of the IPv4 address, and it, put into zeros
pub placed-put : (prefix : List ℕ) (n : ℕ) (ipv4 : List ℕ) → length prefix ≡ ipv6_width → ipv4_at n ≤ 11 → length ipv4 ≡ ipv4_width
    → with_reserved (put_at (put_at (replicate 15 0) 0 (take (ipv4_at n) (without_reserved prefix))) (ipv4_at n) ipv4) ≡ embedded prefix n ipv4
unfolding embedded no_suffix suffix_at
placed-put prefix n ipv4 size at four =
    let all = length_without prefix size in
    let before = length-take-le (ipv4_at n) (without_reserved prefix) (omega arith) in
    let put = both-put 15 0 (ipv4_at n) (take (ipv4_at n) (without_reserved prefix)) ipv4 (omega arith) (omega arith) in
    rw (put, four, front n prefix (omega arith))

module _ (n : ℕ) (most : n ≤ 96) where
  -- the parts of an address that an IPv4 address is put into, and the octets of its prefix among them
  parts-front : (prefix : List ℕ) → length prefix ≡ ipv6_width → length (without_reserved (prefix_of n prefix)) ≡ ipv4_at n
  parts-front prefix size =
      let at = ipv4_at-most n most in
      let all = length_without prefix size in
      rw (front n prefix (omega arith)) (length-take-le (ipv4_at n) (without_reserved prefix) (omega arith))

  parts-length : (prefix ipv4 : List ℕ) → length prefix ≡ ipv6_width → length ipv4 ≡ ipv4_width
      → length (without_reserved (prefix_of n prefix) ++ (ipv4 ++ no_suffix n)) ≡ 15
  unfolding no_suffix suffix_at
  parts-length prefix ipv4 size four =
      let at = ipv4_at-most n most in
      rw (length-append, length-append, parts-front prefix size, four, length-replicate) (omega arith)

  pub extracted-embedded : (prefix ipv4 : List ℕ) → length prefix ≡ ipv6_width → length ipv4 ≡ ipv4_width → extracted (embedded prefix n ipv4) n ≡ ipv4
  unfolding embedded extracted
  extracted-embedded prefix ipv4 size four =
      let parts = without_reserved (prefix_of n prefix) ++ (ipv4 ++ no_suffix n) in
      rw (without-with parts (parts-length prefix ipv4 size four), drop_at (without_reserved (prefix_of n prefix)) (ipv4 ++ no_suffix n) (ipv4_at n) (parts-front prefix size))
      (take_at ipv4 (no_suffix n) ipv4_width four)

  pub embedded-clear : (prefix ipv4 : List ℕ) → length prefix ≡ ipv6_width → length ipv4 ≡ ipv4_width → has_reserved_bits (embedded prefix n ipv4) ≡ false
  unfolding embedded
  embedded-clear prefix ipv4 size four = reserved-zero (without_reserved (prefix_of n prefix) ++ (ipv4 ++ no_suffix n)) (parts-length prefix ipv4 size four)

  pub embedded-extracted : (prefix ipv6 : List ℕ) → length ipv6 ≡ ipv6_width → has_reserved_bits ipv6 ≡ false → suffix_of n ipv6 ≡ no_suffix n
      → prefix_of n prefix ≡ prefix_of n ipv6 → embedded prefix n (extracted ipv6 n) ≡ ipv6
  unfolding embedded extracted suffix_of suffix_at
  embedded-extracted prefix ipv6 size clear suffix agrees =
      let parts = without_reserved ipv6 in
      let behind : take ipv4_width (drop (ipv4_at n) parts) ++ drop (ipv4_at n + ipv4_width) parts ≡ drop (ipv4_at n) parts =
      rw (← drop-drop ipv4_width (ipv4_at n) parts) (take-append-drop ipv4_width (drop (ipv4_at n) parts)) in
      rw (← suffix, agrees, front n ipv6 (omega arith), behind, take-append-drop (ipv4_at n) parts) (with-without ipv6 size clear)
