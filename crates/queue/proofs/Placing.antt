-- Texts put one after another in a buffer that has room for all of them.
use mathlib.Core.Path.{◌≡◌, refl, sym, ap, ◌∙◌}
use mathlib.Core.List.{List, [], ◌++◌}
use Prim.Native.Nat.{ℕ, ◌+◌, ◌≤◌}
use native.Mathlib.Omega.{arith}
use lib.ListN.{length, length-append}
use Rattle.output.specs.Buffer.{put_at}
use Rattle.output.proofs.Placing.{Wrote, after-fits, length-put, put-after, nothing_put}

-- part of a text is put from `at` on: what is left of it, from `next` on in the buffer `after`, makes the whole
pub record Remaining (out : List ℕ) (at : ℕ) (text after : List ℕ) (next : ℕ) (left : List ℕ) : Type 0 where
  pub room : next + length left ≤ length after
  pub end : next + length left ≡ at + length text
  pub whole : put_at after next left ≡ put_at out at text
  pub size : length after ≡ length out

module _ (out : List ℕ) (at : ℕ) (text : List ℕ) where
  pub at-start : at + length text ≤ length out → Remaining out at text out at text
  at-start h = record { room = h; end = refl; whole = refl; size = refl }

  pub next-part : (after : List ℕ) (next : ℕ) (left line rest : List ℕ) {last : List ℕ} {then : ℕ}
      → Remaining out at text after next left → left ≡ line ++ rest → Wrote after next line then last
      → Remaining out at text last then rest
  next-part after next left line rest {last} {then} r e w =
      let sum : length left ≡ length line + length rest = ap (λ (l : List ℕ). length l) e ∙ length-append line rest in
      let room = r.room in
      let end = r.end in
      let size = r.size in
      let fits : next + length line ≤ length after = omega arith in
      let all : next + length (line ++ rest) ≤ length after = omega (arith, length-append line rest) in
      let place : then ≡ next + length line = w.0 ∙ after-fits after next line fits in
      let same : length last ≡ length after = ap (λ (l : List ℕ). length l) w.1 ∙ length-put after next line fits in
      record {
        room = omega arith;
        end = omega arith;
        whole = rw (w.1, place) (put-after after next line rest all) ∙ ap (put_at after next) (sym e) ∙ r.whole;
        size = same ∙ size;
      }

  pub at-end : (after : List ℕ) (next : ℕ) (left : List ℕ) → at + length text ≤ length out → Remaining out at text after next left → left ≡ []
      → Wrote out at text next after
  at-end after next left h r e =
      let none : length left ≡ 0 = ap (λ (l : List ℕ). length l) e in
      let end = r.end in
      let place : next ≡ at + length text = omega arith in (
        place ∙ sym (after-fits out at text h),
        (nothing_put after next).1 ∙ ap (put_at after next) (sym e) ∙ r.whole,
      )
