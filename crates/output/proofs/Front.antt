-- A text put at the front of a buffer.
use mathlib.Core.Path.{◌≡◌, ap, ◌∙◌}
use mathlib.Core.List.{List, ◌++◌, append-nil}
use Prim.Native.Nat.{ℕ, ◌≤◌}
use native.Mathlib.Nat.{zero-add}
use native.Mathlib.Omega.{arith}
use lib.ListN.{length, drop, replicate, length-replicate, drop_of_length-le}
use borrow.Author.Tests.{le-leb}
use Rattle.rules.specs.Octets.{choose}
use Rattle.output.specs.Buffer.{fits_at, put_at}

module _ (out text : List ℕ) (room : length text ≤ length out) where
  pub front-put : put_at out 0 text ≡ text ++ drop (length text) out
  unfolding put_at fits_at choose
  front-put = rw (zero-add (length text), le-leb (length text) (length out) room)

-- a text as long as the buffer takes the place of all of it
pub fills : (out text : List ℕ) → length text ≡ length out → put_at out 0 text ≡ text
fills out text same =
    front-put out text (omega arith) ∙ (ap (λ (rest : List ℕ). text ++ rest) (drop_of_length-le out {i = length text} (omega arith)) ∙ append-nil text)

-- an array made of zeros and a text of its length is that text
pub filled : (n : ℕ) (text : List ℕ) → length text ≡ n → put_at (replicate n 0) 0 text ≡ text
filled n text same = fills (replicate n 0) text (omega (arith, length-replicate {A = ℕ} n 0))
