-- Octets put in a buffer, and one text put after another.
use mathlib.Core.Path.{◌≡◌, refl, sym, ap, ◌∙◌}
use mathlib.Core.Bool.{Bool, true, false, not}
use mathlib.Core.List.{List, [], ◌∷◌, ◌++◌, append_assoc}
use Prim.Native.Nat.{ℕ, ◌+◌, ◌-◌, ◌<◌, ◌≤◌}
use native.Mathlib.Nat.{add_assoc, add-zero}
use native.Mathlib.Numerals.{add-one}
use native.Mathlib.Omega.{arith}
use lib.ListN.{length, take, drop, set, get_or, length-append, length-drop, take-append-drop}
use lib.Seq.{length-take-le, take-add, take_at, drop-append-add, drop-drop, set_split}
use lib.Dec.{leb}
use borrow.Rule.Slice.PartMut.{put_mid}
use borrow.Author.Tests.{le-leb, lt-leb, leb-true, leb-false, not-true, not-false}
use Rattle.rules.specs.Octets.{choose}
use Rattle.output.specs.Buffer.{fits_at, put_at, position_after, PutInRoom}

-- what each writer ensures: the next position, and the buffer then
abbrev pub Wrote : List ℕ → ℕ → List ℕ → ℕ → List ℕ → Type 0
Wrote out at line next after = (next ≡ position_after out at line) × (after ≡ put_at out at line)

module _ (out : List ℕ) (at : ℕ) (line : List ℕ) where
  pub put-fits : at + length line ≤ length out → put_at out at line ≡ take at out ++ (line ++ drop (at + length line) out)
  unfolding put_at fits_at choose
  put-fits h = rw (le-leb (at + length line) (length out) h)

  pub after-fits : at + length line ≤ length out → position_after out at line ≡ at + length line
  unfolding position_after fits_at choose
  after-fits h = rw (le-leb (at + length line) (length out) h)

  pub no_room : length out < at + length line → Wrote out at line at out
  unfolding put_at position_after fits_at choose
  no_room h = rw (lt-leb (at + length line) (length out) h) (refl, refl)

  length-head : at + length line ≤ length out → length (take at out ++ line) ≡ at + length line
  length-head h = rw (length-append, length-take-le at out (omega arith))

  -- the part of the buffer from `at` on, as long as the line, written over with it
  pub part-put : at + length line ≤ length out → put_mid at (at + length line - at) out line ≡ put_at out at line
  part-put h =
      let size : at + length line - at ≡ length line = omega arith in
      rw (put-fits h, size, drop-drop (length line) at out)

  -- the buffer as what stands before the next position, and what follows
  pub put-split : at + length line ≤ length out → put_at out at line ≡ (take at out ++ line) ++ drop (at + length line) out
  put-split h = put-fits h ∙ sym (append_assoc (take at out) line (drop (at + length line) out))

  pub length-put : at + length line ≤ length out → length (put_at out at line) ≡ length out
  length-put h = rw (put-split h, length-append, length-head h, length-drop) (omega arith)

  pub take-put-at : at + length line ≤ length out → take (at + length line) (put_at out at line) ≡ take at out ++ line
  take-put-at h = rw (put-split h) (take_at (take at out ++ line) (drop (at + length line) out) (at + length line) (length-head h))

  pub drop-put : (k : ℕ) → at + length line ≤ length out → drop (at + length line + k) (put_at out at line) ≡ drop (at + length line + k) out
  drop-put k h = rw (put-split h, ← length-head h, drop-append-add, drop-drop)

-- b put after a is a ++ b put
pub put-after : (out : List ℕ) (at : ℕ) (a b : List ℕ) → at + length (a ++ b) ≤ length out
    → put_at (put_at out at a) (at + length a) b ≡ put_at out at (a ++ b)
put-after out at a b h =
    let sum = length-append a b in
    let first : at + length a ≤ length out = omega arith in
    let second : at + length a + length b ≤ length (put_at out at a) = omega (arith, length-put out at a first) in
    rw (put-fits (put_at out at a) (at + length a) b second, take-put-at out at a first, drop-put out at a (length b) first, put-fits out at (a ++ b) h, sum, ← add_assoc at (length a) (length b))
    (simp append_assoc)

-- the next k octets of a text put after its first i
pub put_next : (out : List ℕ) (at : ℕ) (text : List ℕ) (i k : ℕ) → i + k ≤ length text → at + length text ≤ length out
    → put_at (put_at out at (take i text)) (at + i) (take k (drop i text)) ≡ put_at out at (take (i + k) text)
put_next out at text i k there room =
    let first = length-take-le i text (omega arith) in
    let both = length-take-le (i + k) text there in
    let parts = take-add i k text in
    let fits : at + length (take i text ++ take k (drop i text)) ≤ length out = rw (← parts, both) (omega arith) in
    let after = put-after out at (take i text) (take k (drop i text)) fits in
    rw (parts, ← after, first)

-- the same of the promises of two writers
pub joined : (out : List ℕ) (at : ℕ) (a b : List ℕ) {after last : List ℕ} {next end : ℕ} → PutInRoom out at a next after
    → PutInRoom after next b end last → PutInRoom out at (a ++ b) end last
joined out at a b {after} {last} {next} {end} one two h =
    let sum = length-append a b in
    let first : at + length a ≤ length out = omega arith in
    let w = one first in
    let place : next ≡ at + length a = w.0 ∙ after-fits out at a first in
    let size : length after ≡ length out = ap length w.1 ∙ length-put out at a first in
    let second : next + length b ≤ length after = omega arith in (
      (two second).0 ∙ rw (after-fits after next b second, after-fits out at (a ++ b) h) (omega arith),
      (two second).1 ∙ rw (w.1, place) (put-after out at a b h),
    )

-- what the test of the room says of a line of n octets
module _ (out : List ℕ) (at : ℕ) (line : List ℕ) {n : ℕ} {fits : Bool} (tested : fits ≡ leb (at + n) (length out)) (size : n ≡ length line) where
  pub refused : not fits ≡ true → Wrote out at line at out
  refused t = no_room out at line (omega (arith, leb-false (at + n) (length out) (sym tested ∙ not-true fits t)))

  pub room : not fits ≡ false → at + length line ≤ length out
  room t = omega (arith, leb-true (at + n) (length out) (sym tested ∙ not-false fits t))

-- one text written is the other, which is the same
pub written : (out : List ℕ) (at : ℕ) {text given after : List ℕ} {next : ℕ} → text ≡ given → Wrote out at text next after → Wrote out at given next after
written out at e w = (w.0 ∙ ap (position_after out at) e, w.1 ∙ ap (put_at out at) e)

one_way : {A : Type 0} (b : Bool) {x y : A} → x ≡ y → y ≡ choose b x y
unfolding choose
one_way true e = sym e
one_way false e = refl

-- nothing put changes nothing, whether `at` is in the buffer or not
pub nothing_put : (out : List ℕ) (at : ℕ) → Wrote out at [] at out
unfolding put_at position_after
nothing_put out at =
    let here : at + 0 ≡ at = add-zero at in
    let all : take at out ++ drop (at + 0) out ≡ out = rw here (take-append-drop at out) in
    (one_way (fits_at out at []) here, one_way (fits_at out at []) all)

-- one octet, stored where it is put
pub one-put : (out : List ℕ) (at x : ℕ) → at < length out → set out at x ≡ put_at out at (x ∷ [])
one-put out at x h =
    set_split out at x h ∙ ap (λ (j : ℕ). take at out ++ (x ∷ drop j out)) (sym (add-one at))
    ∙ sym (put-fits out at (x ∷ []) (omega arith))

pub only-octet : (l : List ℕ) → length l ≡ 1 → l ≡ get_or l 0 0 ∷ []
only-octet [] h = absurd (omega arith)
only-octet (x ∷ []) h = refl
only-octet (x ∷ (y ∷ l)) h = absurd (omega arith)
