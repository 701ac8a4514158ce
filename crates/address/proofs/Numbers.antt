-- A number that was read is within its bounds.
use mathlib.Core.Path.{◌≡◌, refl}
use mathlib.Core.Bool.{Bool, true, false, ◌&&◌}
use mathlib.Core.List.{List, [], ◌∷◌}
use Rattle.std.specs.Prelude.{None, Some}
use Prim.Native.Nat.{ℕ, ◌≤◌}
use native.Mathlib.Omega.{arith}
use lib.ListN.{length}
use Rattle.rules.specs.Octets.{choose, within, every, digit, value, number}
use Rattle.rules.specs.Address.{octet_number}
use Rattle.octets.proofs.Ranges.{and_both, within-bounds}

chosen : (t : Bool) (w v : ℕ) → choose t (Some w) None ≡ Some v → (t ≡ true) × (w ≡ v)
unfolding choose
chosen true w v e = (refl, cc)
chosen false w v e = cc

pub number-le : (n lo hi : ℕ) (s : List ℕ) (v : ℕ) → number n lo hi s ≡ Some v → v ≤ hi
unfolding number
number-le n lo hi s v e =
    let c = chosen (within 1 n (length s) && every digit s && within lo hi (value s)) (value s) v e in
    let m : value s ≤ hi = (within-bounds lo hi (value s) (and_both (within 1 n (length s) && every digit s) (within lo hi (value s)) c.0).1).1 in
    let q : value s ≡ v = c.1 in
    omega arith

pub octet-some : (s : List ℕ) (v : ℕ) → number 3 0 255 s ≡ Some v → octet_number s ≡ Some (v ∷ [])
unfolding octet_number
octet-some s v e = rw e

pub octet-none : (s : List ℕ) → number 3 0 255 s ≡ None → octet_number s ≡ None
unfolding octet_number
octet-none s e = rw e
