-- The flags of a setup, read by shifts and masks, and what a setup is by them.
use mathlib.Core.Path.{◌≡◌, sym, ap, ◌∙◌}
use mathlib.Core.Bool.{Bool, true, false, ◌&&◌, not}
use Prim.Native.Nat.{ℕ, ◌/◌, ◌^◌}
use native.Mathlib.Nat.{div-one}
use native.Mathlib.Omega.{arith}
use lib.Bits.{bit_and, and_mask}
use lib.Dec.{eqb, leb}
use borrow.Author.Tests.{le-leb, lt-leb}
use Rattle.rules.specs.Octets.{choose}
use Rattle.rules.specs.Setup.{bit, setup_switches, bad_flags, setup_answer}
use Rattle.rules.specs.declared.Answer.{Answer}
use Rattle.rules.specs.declared.Setup.{Setup}
use Rattle.setups.specs.declared.Prepared.{Prepared}
use Rattle.records.specs.declared.Session.{Session}
use Rattle.setups.specs.Setups.{start_session, start_control, refused_setup, fresh_session, prepared}

abbrev pub shifted : ℕ → ℕ → Bool
shifted i n = eqb (bit_and (n / 2 ^ i) 1) 1

pub flag : (i n : ℕ) → shifted i n ≡ bit i n
flag i n = ap (λ (m : ℕ). eqb m 1) (and_mask (n / 2 ^ i) 1)

-- the lowest one needs no shift
pub low-flag : (n : ℕ) → eqb (bit_and n 1) 1 ≡ bit 0 n
low-flag n = ap (λ (m : ℕ). eqb (bit_and m 1) 1) (sym (div-one n)) ∙ flag 0 n

-- a bit from 4 on is set, or none is
pub undefined : (n : ℕ) → (n / 2 ^ 4 ≡ 0 → ⊥) → leb (2 ^ 4) n ≡ true
undefined n h = le-leb 16 n (omega arith)

pub defined : (n : ℕ) → n / 2 ^ 4 ≡ 0 → leb (2 ^ 4) n ≡ false
defined n h = lt-leb 16 n (omega arith)

module _ (su : Setup) {n : ℕ} (flags : n ≡ su.flags) where
  refused-flags : bad_flags n ≡ true → refused_setup ≡ prepared su
  unfolding prepared setup_answer choose
  refused-flags h = rw (← flags, h)

  pub undefined-flag : (n / 2 ^ 4 ≡ 0 → ⊥) → refused_setup ≡ prepared su
  unfolding bad_flags
  undefined-flag h = refused-flags (rw (undefined n h))

  pub unsupported : n / 2 ^ 4 ≡ 0 → shifted 2 n ≡ true → not (shifted 1 n) ≡ true
      → refused_setup ≡ prepared su
  unfolding bad_flags
  unsupported h on not-supported = refused-flags (rw (defined n h, ← flag 2 n, on, ← flag 1 n, not-supported))

  -- the flags are good, whichever of the two tests said so
  pub fresh : n / 2 ^ 4 ≡ 0 → (shifted 2 n && not (shifted 1 n)) ≡ false → {s : Session}
      → s ≡ start_session true (record { client = su.client; mapped = su.mapped; server = su.server; supported = shifted 1 n; strict = shifted 3 n }) (start_control (record { epsv = eqb (bit_and n 1) 1; eprt = shifted 2 n }) 1)
      → ◌≡◌ {A = Prepared} (record { answer = Answer.Done; session = s }) (prepared su)
  unfolding prepared setup_answer choose bad_flags fresh_session setup_switches
  fresh h good e = rw (e, ← flags, defined n h, ← flag 3 n, ← flag 2 n, ← flag 1 n, good, ← low-flag n)
