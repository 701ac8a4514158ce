-- Two texts put into zeros: one at the front, and one so many octets behind it.
use mathlib.Core.Path.{◌≡◌, sym, ap, ◌∙◌}
use mathlib.Core.List.{List, ◌++◌, append_assoc, append-nil}
use Prim.Native.Nat.{ℕ, ◌+◌, ◌-◌, ◌≤◌}
use native.Mathlib.Omega.{arith}
use lib.ListN.{length, take, drop, replicate, length-append, length-drop, length-replicate, replicate-append-replicate}
use lib.Seq.{length-take-le, take_at, take-append-add, drop_at, drop-append-add}
use Rattle.output.specs.Buffer.{put_at}
use Rattle.output.proofs.Placing.{put-fits}
use Rattle.output.proofs.Front.{front-put}

abbrev zeros : ℕ → List ℕ
zeros n = replicate n 0

-- n zeros are k and the others
module _ (k n : ℕ) (h : k ≤ n) where
  parted : zeros k ++ zeros (n - k) ≡ zeros n
  parted =
      let all : k + (n - k) ≡ n = omega arith in
      replicate-append-replicate k (n - k) 0 ∙ ap zeros all

  take-zeros : take k (zeros n) ≡ zeros k
  take-zeros = ap (take k) (sym parted) ∙ take_at (zeros k) (zeros (n - k)) k (length-replicate k 0)

  drop-zeros : drop k (zeros n) ≡ zeros (n - k)
  drop-zeros = ap (drop k) (sym parted) ∙ drop_at (zeros k) (zeros (n - k)) k (length-replicate k 0)

pub both-put : (n gap at : ℕ) (a b : List ℕ) → length a + gap ≡ at → at + length b ≤ n
    → put_at (put_at (zeros n) 0 a) at b ≡ a ++ (zeros gap ++ (b ++ zeros (n - (at + length b))))
both-put n gap at a b place room =
    let size = length-replicate {A = ℕ} n 0 in
    let m = n - length a in
    let first : put_at (zeros n) 0 a ≡ a ++ zeros m =
    front-put (zeros n) a (omega arith) ∙ ap (λ (l : List ℕ). a ++ l) (drop-zeros (length a) n (omega arith)) in
    let fits : at + length b ≤ length (a ++ zeros m) = rw (length-append, length-replicate) (omega arith) in
    let front : take at (a ++ zeros m) ≡ a ++ zeros gap =
    rw (← place, take-append-add) (ap (λ (l : List ℕ). a ++ l) (take-zeros gap m (omega arith))) in
    let far : at + length b ≡ length a + (gap + length b) = omega arith in
    let less : m - (gap + length b) ≡ n - (at + length b) = omega arith in
    let behind : drop (at + length b) (a ++ zeros m) ≡ zeros (n - (at + length b)) =
    rw (far, drop-append-add) (drop-zeros (gap + length b) m (omega arith) ∙ ap zeros (less ∙ ap (λ (k : ℕ). n - k) far)) in
    rw (first, put-fits (a ++ zeros m) at b fits, front, behind) (append_assoc a (zeros gap) (b ++ zeros (n - (at + length b))))

-- the first m octets of a list, and those from k on so many octets behind them, where they fill the zeros
pub ends-put : (n gap at m k : ℕ) (x : List ℕ) → m + gap ≡ at → m ≤ length x → at + (length x - k) ≡ n
    → put_at (put_at (zeros n) 0 (take m x)) at (drop k x) ≡ take m x ++ (zeros gap ++ drop k x)
ends-put n gap at m k x place front all =
    let before = length-take-le m x front in
    let left : length (drop k x) ≡ length x - k = length-drop k x in
    let none : n - (at + length (drop k x)) ≡ 0 = omega arith in
    both-put n gap at (take m x) (drop k x) (omega arith) (omega arith)
    ∙ rw none (ap (λ (l : List ℕ). take m x ++ (zeros gap ++ l)) (append-nil (drop k x)))
