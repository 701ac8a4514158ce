-- Laws of the numbers of a 227 line, at a position of the line.
use mathlib.Core.Path.{◌≡◌, refl, sym, ap}
use mathlib.Core.Bool.{Bool, true, false, ◌&&◌}
use mathlib.Core.List.{List, [], ◌∷◌}
use Rattle.std.specs.Prelude.{Option, None, Some, option_map}
use Prim.Native.Nat.{ℕ, zero, suc, ◌+◌, ◌-◌, ◌≤◌}
use native.Mathlib.Omega.{arith}
use lib.ListN.{length, take, drop}
use lib.Seq.{drop-drop}
use Rattle.rules.specs.Octets.{choose, digit, every, within, run, value, number}
use Rattle.rules.specs.Address.{both, octet_number}
use Rattle.rules.specs.Replies.{after_comma, numbers}
use Rattle.octets.proofs.Ranges.{and_both, within-bounds}
use Rattle.octets.proofs.Runs.{front_at, after-at}
use Rattle.replies.specs.Numbers.{number_at}

-- ---- a number that is read is at most its upper limit

limit : (b : Bool) (x hi n : ℕ) → (b ≡ true → x ≤ hi) → Some n ≡ choose b (Some x) None → n ≤ hi
unfolding choose
limit true x hi n f h = let e : n ≡ x = cc in omega (arith, f refl)
limit false x hi n f h = let w : ◌≡◌ {A = ℕ} 0 1 = cc in absurd (omega arith)

pub number-limit : (most lo hi : ℕ) (xs : List ℕ) (n : ℕ) → Some n ≡ number most lo hi xs → n ≤ hi
unfolding number
number-limit most lo hi xs n h =
    let short = within 1 most (length xs) && every digit xs in
    limit (short && within lo hi (value xs)) (value xs) hi n
    (λ t. (within-bounds lo hi (value xs) (and_both short (within lo hi (value xs)) t).1).1) h

-- ---- what is read at a position

pub told_at : (s : List ℕ) (at end : ℕ) (o : Option ℕ) → end ≡ at + run digit (drop at s) → o ≡ number 3 0 255 (take (end - at) (drop at s))
    → option_map (λ n. (n, end)) o ≡ number_at s at
unfolding number_at
told_at s at end o e h = rw (h, front_at digit s at end e, e)

same : {a b : ℕ × ℕ} → Some a ≡ Some b → a ≡ b
same {a} {b} e = cc

read-value : (end : ℕ) (o : Option ℕ) (p : ℕ × ℕ) → option_map (λ m. (m, end)) o ≡ Some p → (o ≡ Some p.0) × (p.1 ≡ end)
read-value end None p h = let w : ◌≡◌ {A = ℕ} 0 1 = cc in absurd (omega arith)
read-value end (Some m) p h = (ap (option_map (λ (q : ℕ × ℕ). q.0)) h, sym (ap (λ (q : ℕ × ℕ). q.1) (same h)))

read-nothing : (end : ℕ) (o : Option ℕ) → ◌≡◌ {A = Option (ℕ × ℕ)} (option_map (λ m. (m, end)) o) None → o ≡ None
read-nothing end None h = refl
read-nothing end (Some m) h = let w : ◌≡◌ {A = ℕ} 0 1 = cc in absurd (omega arith)

-- nothing is read: there are no numbers, however many are asked for
pub none-at : (s : List ℕ) (at k : ℕ) → number_at s at ≡ None → numbers k (drop at s) ≡ None
unfolding number_at numbers octet_number both
none-at s at zero h = rw (read-nothing _ _ h)
none-at s at (suc k) h = rw (read-nothing _ _ h)

-- a number is read: it is the last one, or more follow
pub last-at : (s : List ℕ) (at n e : ℕ) → number_at s at ≡ Some (n, e) → numbers 0 (drop at s) ≡ Some (n ∷ [])
unfolding number_at numbers octet_number
last-at s at n e h = rw (read-value _ _ (n, e) h).0

pub more-at : (s : List ℕ) (at n e k : ℕ) → number_at s at ≡ Some (n, e) → numbers (suc k) (drop at s) ≡ both (Some (n ∷ [])) (after_comma (drop e s) (numbers k (drop (e + 1) s)))
unfolding number_at numbers octet_number
more-at s at n e k h =
    let v = read-value _ _ (n, e) h in
    rw (v.0, after-at digit s at e v.1, drop-drop)
