-- Counts in 32 bits that wrap, and their difference.
use Rattle.std.specs.Prelude.{None, Some}
use Rattle.std.proofs.Common.{◌≡◌, ℕ, zero, suc, ◌+◌, ◌-◌, ◌%◌, ◌^◌, ◌<◌, ◌≤◌, Bool, true, false, ltb, sym, refl, ap, ◌∙◌, mod-eq_of_lt, arith, ltb-false, ltb-true}
use native.Mathlib.Nat.{add-mod-mod, add-mod_right}
use Rattle.rules.specs.Answers.{Side, client, server, wrapped, offset_of}
use Rattle.records.specs.declared.Counts.{Counts}
use Rattle.records.specs.declared.Session.{Session}
use Rattle.counts.specs.Counts.{counted, taken_for, offset}

-- what is added may be wrapped first
pub wrapped_sum : (a n : ℕ) {m r : ℕ} → m ≡ wrapped n → r ≡ (a + m) % 2 ^ 32 → r ≡ wrapped (a + n)
unfolding wrapped
wrapped_sum a n p q = q ∙ rw p (add-mod-mod a n (2 ^ 32))

-- the counts after a call, from what is added to each
pub counts-by : (up down : Counts) (d : Side) (n to_server to_client : ℕ) {here there : ℕ} {u v : Counts} → here ≡ taken_for client d n
    → there ≡ taken_for server d n → u ≡ counted up here to_server → v ≡ counted down there to_client
    → (u ≡ counted up (taken_for client d n) to_server) × (v ≡ counted down (taken_for server d n) to_client)
counts-by up down d n to_server to_client p q u v =
    (u ∙ ap (λ (m : ℕ). counted up m to_server) p, v ∙ ap (λ (m : ℕ). counted down m to_client) q)

turns : (m r t w : ℕ) → r < m → t < m → w ≡ (r + t) % m → (b : Bool) → ltb (r + t) m ≡ b → r ≡ (w + (m - t)) % m
turns m r t w hr ht e true k =
    let small = ltb-true (r + t) m k in
    let w-is : w ≡ r + t = e ∙ mod-eq_of_lt small in
    let sum : w + (m - t) ≡ r + m = omega arith in
    rw (sum, add-mod_right r m) (sym (mod-eq_of_lt hr))
turns m r t w hr ht e false k =
    let big = ltb-false (r + t) m k in
    let over : r + t ≡ (r + t - m) + m = omega arith in
    let rest : r + t - m < m = omega arith in
    let w-is : w ≡ r + t - m = e ∙ ap (λ (x : ℕ). x % m) over ∙ add-mod_right (r + t - m) m ∙ mod-eq_of_lt rest in
    let sum : w + (m - t) ≡ r = omega arith in
    rw sum (sym (mod-eq_of_lt hr))

-- the number that, with taken added, wraps back to written
pub difference : (r written taken : ℕ) → r < 2 ^ 32 → (r + taken) % 2 ^ 32 ≡ written → r ≡ offset_of written taken
unfolding wrapped offset_of
difference r written taken h e =
    let t = taken % 2 ^ 32 in
    let same : written ≡ (r + t) % 2 ^ 32 = sym e ∙ sym (add-mod-mod r taken (2 ^ 32)) in
    let small : written % 2 ^ 32 ≡ written = omega arith in
    rw small (turns (2 ^ 32) r t written h (omega arith) same (ltb (r + t) (2 ^ 32)) refl)

-- numbers of 32 bits need no wrapping before they are subtracted
pub unwrapped : (written taken : ℕ) → written < 2 ^ 32 → taken < 2 ^ 32 → (written + (2 ^ 32 - taken)) % 2 ^ 32 ≡ offset_of written taken
unfolding wrapped offset_of
unwrapped written taken w t = rw (mod-eq_of_lt w, mod-eq_of_lt t)

pub other-direction : (s : Session) (d : ℕ) → 2 ≤ d → None ≡ offset s d
unfolding offset
other-direction s zero h = absurd (omega arith)
other-direction s (suc zero) h = absurd (omega arith)
other-direction s (suc (suc d)) h = refl

zero_of : (s : Session) (d : ℕ) → d < 2 → (d ≡ 1 → ⊥) → offset s d ≡ Some (offset_of s.up.written s.up.taken)
unfolding offset
zero_of s zero h n = refl
zero_of s (suc zero) h n = absurd (n refl)
zero_of s (suc (suc d)) h n = absurd (omega arith)

-- the difference of the counts that the direction has
module _ (s : Session) (d : ℕ) {k : Counts} (written : k.written < 2 ^ 32) (taken : k.taken < 2 ^ 32) where
  of : (m : Counts) → k ≡ m → (k.written + (2 ^ 32 - k.taken)) % 2 ^ 32 ≡ offset_of m.written m.taken
  of m p = rw (← p) (unwrapped k.written k.taken written taken)

  pub server-offset : d ≡ 1 → k ≡ s.down → Some ((k.written + (2 ^ 32 - k.taken)) % 2 ^ 32) ≡ offset s d
  unfolding offset
  server-offset e p = rw e (ap Some (of s.down p))

  pub client-offset : d < 2 → (d ≡ 1 → ⊥) → k ≡ s.up → Some ((k.written + (2 ^ 32 - k.taken)) % 2 ^ 32) ≡ offset s d
  client-offset h n p = rw (zero_of s d h n) (ap Some (of s.up p))
