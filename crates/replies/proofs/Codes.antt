-- Laws of the tests of a server line's first octets, and of the rules by them.
use mathlib.Core.Path.{◌≡◌, refl, sym, ap, ◌∙◌}
use mathlib.Core.Bool.{Bool, true, false, ◌&&◌, ◌||◌, and-false}
use mathlib.Core.List.{List, [], ◌∷◌}
use Prim.Native.Nat.{ℕ, ◌+◌, ◌-◌, ◌*◌, ◌<◌, ◌≤◌}
use native.Mathlib.Omega.{arith}
use lib.Dec.{leb, eqb}
use lib.ListN.{length, get_or, take, drop, get_or-eq_default}
use borrow.Author.Tests.{le-leb, leb-true, leb-false, eq-eqb, ne_eqb}
use Rattle.rules.specs.Octets.{space, hyphen, oct, choose, equal, within, digit, not_digit, run}
use Rattle.rules.specs.Replies.{starts_with_code, reply_code, reply_end, line_outside, line_inside, is_open, reply_line, opening_after, numbers, passive_at, passive_reply}
use Rattle.rules.specs.declared.ReplyLine.{ReplyLine}
use Rattle.octets.proofs.Choices.{either, by-test}
use Rattle.octets.proofs.Ranges.{and_both, within-bounds}
use Rattle.std.specs.Prelude.{Option, None, Some, nat_eq}
use Rattle.std.proofs.lemmas.List.{get_or_default}
use Rattle.std.specs.Option.{option_eq, unwrap_or}
use Rattle.std.specs.Cmp.Lexicographic.{pointwise}
use Rattle.octets.proofs.Runs.{after-at}

-- a test that fewer than k octets fail: who passes it has k octets
long-by : (p : List ℕ → Bool) (k : ℕ) (c : List ℕ) (b : Bool) → leb k (length c) ≡ b → (length c < k → p c ≡ false) → p c ≡ true → k ≤ length c
long-by p k c true e short h = leb-true k (length c) e
long-by p k c false e short h =
    let s = short (leb-false k (length c) e) in
    let z : ◌≡◌ {A = Bool} true false = cc in
    let w : ◌≡◌ {A = ℕ} 0 1 = cc in
    omega arith

long : (p : List ℕ → Bool) (k : ℕ) (c : List ℕ) → (length c < k → p c ≡ false) → p c ≡ true → k ≤ length c
long p k c short h = long-by p k c (leb k (length c)) refl short h

-- whether a number that may be missing is there
pub no-choice : (b : Bool) (x : ℕ) → choose b (Some x) None ≡ None → b ≡ false
unfolding choose
no-choice true x e = let w : ◌≡◌ {A = ℕ} 0 1 = cc in absurd (omega arith)
no-choice false x e = refl

pub the-choice : (b : Bool) (x y : ℕ) → choose b (Some x) None ≡ Some y → (b ≡ true) × (y ≡ x)
unfolding choose
the-choice true x y e = (refl, cc)
the-choice false x y e = let w : ◌≡◌ {A = ℕ} 0 1 = cc in absurd (omega arith)

-- ---- a code: a digit 1 to 5, two digits

pub code-short : (c : List ℕ) → length c < 3 → starts_with_code c ≡ false
unfolding starts_with_code
code-short [] h = refl
code-short (x ∷ []) h = and-false (within 49 53 x && false)
code-short (x ∷ y ∷ []) h = and-false (within 49 53 x && digit y)
code-short (x ∷ y ∷ z ∷ c) h = absurd (omega arith)

pub code-long : (c : List ℕ) → starts_with_code c ≡ true → 3 ≤ length c
code-long c h = long starts_with_code 3 c (code-short c) h

pub code-by : (c : List ℕ) (a b d : Bool) → a ≡ within 49 53 (get_or c 0 0) → b ≡ digit (get_or c 1 0) → d ≡ digit (get_or c 2 0)
    → starts_with_code c ≡ (a && b && d)
unfolding starts_with_code
code-by c a b d p q r = rw (p, q, r)

-- the number of a code, by whether there is one
pub no-code : (c : List ℕ) → starts_with_code c ≡ false → None ≡ choose (starts_with_code c) (Some (reply_code c)) None
unfolding choose
no-code c h = rw h

pub a-code : (c : List ℕ) → starts_with_code c ≡ true
    → Some ((get_or c 0 0 - 48) * 100 + (get_or c 1 0 - 48) * 10 + (get_or c 2 0 - 48)) ≡ choose (starts_with_code c) (Some (reply_code c)) None
unfolding choose reply_code
a-code c h = rw h

-- each of its octets is a digit
pub code-each : (c : List ℕ) → starts_with_code c ≡ true → (digit (get_or c 0 0) ≡ true) × (digit (get_or c 1 0) ≡ true) × (digit (get_or c 2 0) ≡ true)
unfolding starts_with_code
code-each c h =
    let last = and_both (within 49 53 (get_or c 0 0) && digit (get_or c 1 0)) (digit (get_or c 2 0)) h in
    let first = and_both (within 49 53 (get_or c 0 0)) (digit (get_or c 1 0)) last.0 in
    let bounds = within-bounds 49 53 (get_or c 0 0) first.0 in
    let low = bounds.0 in
    let high = bounds.1 in
    (rw (le-leb 48 (get_or c 0 0) (omega arith), le-leb (get_or c 0 0) 57 (omega arith)), first.1, last.1)

-- three digits write a number below a thousand
code-most : (c : List ℕ) → starts_with_code c ≡ true → reply_code c < 1000
unfolding reply_code
code-most c h =
    let each = code-each c h in
    let a = (within-bounds 48 57 (get_or c 0 0) each.0).1 in
    let b = (within-bounds 48 57 (get_or c 1 0) each.1).1 in
    let d = (within-bounds 48 57 (get_or c 2 0) each.2).1 in
    omega arith

-- ---- what a line is outside, by the octet behind its code: a space where it has none

behind-by : (c : List ℕ) (b : Bool) → 3 ≤ length c → leb (length c) 3 ≡ b → (eqb (length c) 3 || eqb (get_or c 3 0) space) ≡ eqb (get_or c 3 space) space
behind-by c true h e =
    let short = leb-true (length c) 3 e in
    let none : get_or c 3 space ≡ space = get_or-eq_default c space short in
    let bare : length c ≡ 3 = omega arith in
    rw (none, eq-eqb (length c) 3 bare)
behind-by c false h e =
    let more = leb-false (length c) 3 e in
    let there : get_or c 3 space ≡ get_or c 3 0 = get_or_default c 3 space 0 more in
    rw (there, ne_eqb (length c) 3 (λ (z : length c ≡ 3). omega arith))

behind-there : (c : List ℕ) (b : Bool) → leb (length c) 3 ≡ b → (get_or c 3 space ≡ space → ⊥) → get_or c 3 space ≡ get_or c 3 0
behind-there c true e n = let short = leb-true (length c) 3 e in absurd (n (get_or-eq_default c space short))
behind-there c false e n = get_or_default c 3 space 0 (leb-false (length c) 3 e)

pub outside-none : (c : List ℕ) → starts_with_code c ≡ false → ReplyLine.StandsAlone ≡ line_outside c
unfolding line_outside choose
outside-none c h = rw h

module _ (c : List ℕ) (h : starts_with_code c ≡ true) where
  outside : line_outside c ≡ choose (eqb (get_or c 3 space) space) (reply_end c) (choose (eqb (get_or c 3 0) hyphen) (ReplyLine.Opens (reply_code c)) ReplyLine.StandsAlone)
  unfolding line_outside choose
  outside = rw (h, behind-by c (leb (length c) 3) (code-long c h) refl)

  pub outside-ends : get_or c 3 space ≡ space → reply_end c ≡ line_outside c
  unfolding choose
  outside-ends e = sym (outside ∙ rw (eq-eqb _ space e))

  pub outside-opens : get_or c 3 space ≡ hyphen → ReplyLine.Opens (reply_code c) ≡ line_outside c
  unfolding choose
  outside-opens e =
      let other : (get_or c 3 space ≡ space → ⊥) = λ z. omega arith in
      let there = behind-there c (leb (length c) 3) refl other in
      sym (outside ∙ rw (ne_eqb _ space other, eq-eqb _ hyphen (sym there ∙ e)))

  pub outside-alone : (get_or c 3 space ≡ space → ⊥) → (get_or c 3 space ≡ hyphen → ⊥) → ReplyLine.StandsAlone ≡ line_outside c
  unfolding choose
  outside-alone e f =
      let there = behind-there c (leb (length c) 3) refl e in
      sym (outside ∙ rw (ne_eqb _ space e, ne_eqb _ hyphen (λ z. f (there ∙ z))))

-- ---- and inside, by what the library's comparisons say of the code and of the octet behind it

same-choice : (b : Bool) (x o : ℕ) → option_eq nat_eq (choose b (Some x) None) (Some o) ≡ (b && eqb x o)
unfolding choose
same-choice true x o = refl
same-choice false x o = refl

pub same-code : (c : List ℕ) (o : ℕ) (r : Option ℕ) (e : Bool) → r ≡ choose (starts_with_code c) (Some (reply_code c)) None
    → e ≡ option_eq nat_eq r (Some o) → e ≡ (starts_with_code c && eqb (reply_code c) o)
same-code c o r e p q = q ∙ (ap (λ (k : Option ℕ). option_eq nat_eq k (Some o)) p ∙ same-choice (starts_with_code c) (reply_code c) o)

pub same-behind : (c : List ℕ) (r : Option ℕ) (e : Bool) → unwrap_or r 0 ≡ get_or c 3 0 → e ≡ option_eq nat_eq r (Some space)
    → e ≡ eqb (get_or c 3 0) space
same-behind c None e h q = q ∙ ap (λ (n : ℕ). eqb n space) h
same-behind c (Some x) e h q = q ∙ ap (λ (n : ℕ). eqb n space) h

pub inside-by : (o : ℕ) (c : List ℕ) (p d : Bool) → p ≡ (starts_with_code c && eqb (reply_code c) o) → d ≡ eqb (get_or c 3 0) space
    → line_inside o c ≡ choose (p && d) (reply_end c) ReplyLine.Belongs
unfolding line_inside
inside-by o c p d e f = rw (e, f)

-- ---- the opening code behind a line

-- it is the one before, or has three digits
pub opening-low : (o : ℕ) (c : List ℕ) (most : ℕ) → 1000 ≤ most → o < most → opening_after o (reply_line o c) < most
unfolding reply_line line_inside line_outside reply_end
opening-low o c most enough low =
    let Low : ReplyLine → Type 0 = λ r. opening_after o r < most in
    let ends : Low (reply_end c) = either Low (eqb (get_or c 0 0) 49) _ _ (omega arith) (omega arith) in
    either Low (is_open o) (line_inside o c) (line_outside c)
    (either Low (starts_with_code c && eqb (reply_code c) o && eqb (get_or c 3 0) space) _ _ ends low)
    (by-test Low (starts_with_code c) _ _
    (λ code. either Low (eqb (length c) 3 || eqb (get_or c 3 0) space) _ _ ends
    (either Low (eqb (get_or c 3 0) hyphen) _ _ (omega (arith, code-most c code)) (omega arith)))
    (λ _. omega arith))

-- ---- the code 227 and its space

same-test : (xs ys : List ℕ) → equal xs ys ≡ pointwise nat_eq xs ys
unfolding equal
same-test [] [] = refl
same-test [] (y ∷ ys) = refl
same-test (x ∷ xs) [] = refl
same-test (x ∷ xs) (y ∷ ys) = ap (λ (b : Bool). eqb x y && b) (same-test xs ys)

-- what a line gives without it, and with it by the position of the first digit after it
pub without-227 : (c : List ℕ) → pointwise nat_eq (take 4 c) (oct "227 ") ≡ false → None ≡ passive_reply c
unfolding passive_reply choose
without-227 c h = rw (same-test (take 4 c) (oct "227 "), h)

pub with-227 : (c t : List ℕ) (from : ℕ) → pointwise nat_eq (take 4 c) (oct "227 ") ≡ true → t ≡ drop 4 c → from ≡ 0 + run not_digit (drop 0 t)
    → passive_at (numbers 5 (drop from t)) ≡ passive_reply c
unfolding passive_reply choose
with-227 c t from h e q = rw (same-test (take 4 c) (oct "227 "), h, ← e, after-at not_digit t 0 from q)
