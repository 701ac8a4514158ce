-- What is true of a file that is not refused, and of each of its entries.
use mathlib.Core.Path.{◌≡◌, refl}
use mathlib.Core.Bool.{Bool, true, false, ◌&&◌, not}
use mathlib.Core.List.{List}
use Prim.Native.Nat.{ℕ, zero, suc, ◌+◌, ◌*◌, ◌<◌, ◌≤◌}
use native.Mathlib.Omega.{arith}
use lib.Dec.{eqb, leb, ltb}
use lib.ListN.{length, drop}
use lib.Seq.{drop-drop}
use borrow.Author.Tests.{leb-true, eqb-true, not-false}
use Rattle.std.specs.Prelude.{Result, Ok, Err}
use Rattle.rules.specs.Octets.{choose, within}
use Rattle.rules.specs.Setup.{setup_size}
use Rattle.octets.proofs.Ranges.{and_both}
use Rattle.files.specs.declared.FileFault.{FileFault}
use Rattle.files.specs.declared.FileFault.TheVariants.{WrongLength}
use Rattle.files.specs.Contents.{Entry, entry_of, entries, count, table_end, table_of, is_setup, good_length, good_entry, no_setups, good_table, bodies_length, verdict}

-- ---- an entry that is right by itself

-- "each 0 to 1,024 .. each length 0 .. 25 octets", by request 4 of document 02
pub record Right (e : Entry) : Type 0 where
  pub most : e.length ≤ 1024
  pub setup : 4 ≤ e.kind → e.length ≡ setup_size

by_kind : (k n : ℕ) (a b : Bool) → leb k 1 ≡ a → leb k 3 ≡ b → choose a (leb n 1024) (choose b (eqb n 0) (is_setup k && eqb n setup_size)) ≡ true
    → (n ≤ 1024) × (4 ≤ k → n ≡ setup_size)
unfolding choose
by_kind k n true b p q h = (leb-true n 1024 h, λ (t : 4 ≤ k). absurd (omega (arith, leb-true k 1 p)))
by_kind k n false true p q h = let z = eqb-true n 0 h in (omega arith, λ (t : 4 ≤ k). absurd (omega (arith, leb-true k 3 q)))
by_kind k n false false p q h = let z = eqb-true n setup_size (and_both (is_setup k) (eqb n setup_size) h).1 in (omega arith, λ (t : 4 ≤ k). z)

pub right : (e : Entry) → good_entry e ≡ true → Right e
unfolding good_entry good_length
right e h =
    let w = by_kind e.kind e.length (leb e.kind 1) (leb e.kind 3) refl refl (and_both (eqb e.zero 0) _ h).1 in
    record { most = w.0; setup = w.1 }

-- ---- each entry of a table

split : (a : Bool) (e : Entry) (es : List Entry) → a && good_entry e && no_setups es ≡ true → (good_entry e ≡ true) × (no_setups es ≡ true)
split a e es h = let w = and_both (a && good_entry e) (no_setups es) h in ((and_both a (good_entry e) w.0).1, w.1)

none-wrong : (n : ℕ) (t : List ℕ) (i : ℕ) → no_setups (entries n t) ≡ true → i < n → good_entry (entry_of (drop (4 * i) t)) ≡ true
unfolding entries no_setups
none-wrong zero t i h less = absurd (omega arith)
none-wrong (suc n) t zero h less = (split (not (is_setup (entry_of t).kind)) (entry_of t) (entries n (drop 4 t)) h).0
none-wrong (suc n) t (suc i) h less =
    let more : 4 * suc i ≡ 4 + 4 * i = omega arith in
    rw (more, ← drop-drop (4 * i) 4 t)
    (none-wrong n (drop 4 t) i (split (not (is_setup (entry_of t).kind)) (entry_of t) (entries n (drop 4 t)) h).1 (omega arith))

each-good : (n : ℕ) (t : List ℕ) (i : ℕ) → good_table (entries n t) ≡ true → i < n → good_entry (entry_of (drop (4 * i) t)) ≡ true
unfolding entries good_table
each-good zero t i h less = absurd (omega arith)
each-good (suc n) t zero h less = (split (is_setup (entry_of t).kind) (entry_of t) (entries n (drop 4 t)) h).0
each-good (suc n) t (suc i) h less =
    let more : 4 * suc i ≡ 4 + 4 * i = omega arith in
    rw (more, ← drop-drop (4 * i) 4 t)
    (none-wrong n (drop 4 t) i (split (is_setup (entry_of t).kind) (entry_of t) (entries n (drop 4 t)) h).1 (omega arith))

-- ---- a file

pub record Accepted (file : List ℕ) : Type 0 where
  pub some : 1 ≤ count file
  pub few : count file ≤ 48
  pub table : good_table (table_of file) ≡ true
  pub total : length file ≡ table_end file + bodies_length (table_of file)

-- a test that would have led elsewhere is false
past : (b : Bool) {x y : Result Unit FileFault} → (x ≡ Ok tt → ⊥) → choose b x y ≡ Ok tt → (b ≡ false) × (y ≡ Ok tt)
unfolding choose
past true h e = absurd (h e)
past false h e = (refl, e)

whole : (b : Bool) → choose {A = Result Unit FileFault} b (Ok tt) (Err WrongLength) ≡ Ok tt → b ≡ true
unfolding choose
whole true e = refl
whole false e = cc

no-fault : {fault : FileFault} → ◌≡◌ {A = Result Unit FileFault} (Err fault) (Ok tt) → ⊥
no-fault e = let z : ◌≡◌ {A = ℕ} 0 1 = cc in omega arith

pub accepted : (file : List ℕ) → verdict file ≡ Ok tt → Accepted file
unfolding verdict
accepted file e =
    let a = past (ltb (length file) 2) no-fault e in
    let b = past (not (within 1 48 (count file))) no-fault a.1 in
    let c = past (ltb (length file) (table_end file)) no-fault b.1 in
    let d = past (not (good_table (table_of file))) no-fault c.1 in
    let n = and_both (leb 1 (count file)) (leb (count file) 48) (not-false _ b.0) in
    record {
      some = leb-true 1 (count file) n.0;
      few = leb-true (count file) 48 n.1;
      table = not-false _ d.0;
      total = eqb-true (length file) _ (whole _ d.1);
    }

-- the entry of a number, which stands within the file
module _ (file : List ℕ) (a : Accepted file) (i : ℕ) (less : i < count file) where
  pub entry-right : Right (entry_of (drop (2 + 4 * i) file))
  unfolding table_of
  entry-right = right _ (rw (← drop-drop (4 * i) 2 file) (each-good (count file) (drop 2 file) i a.table less))

  pub entry-within : 2 + 4 * i + 4 ≤ length file
  unfolding table_end
  entry-within = omega (arith, a.total)
