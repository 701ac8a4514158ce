-- Laws of the table of a session file: its entries one by one, and what decides of the file.
use mathlib.Core.Path.{◌≡◌, sym, ap, ◌∙◌}
use mathlib.Core.Bool.{true, false, not, and-false}
use mathlib.Core.List.{List, [], ◌∷◌}
use Prim.Native.Nat.{ℕ, zero, suc, ◌+◌, ◌-◌, ◌*◌, ◌<◌, ◌≤◌}
use native.Mathlib.Nat.{add_assoc, add-zero}
use native.Mathlib.Omega.{arith}
use lib.Dec.{eqb, leb}
use lib.ListN.{length, get_or, drop, get_or-eq_default}
use lib.Seq.{get_or-drop, drop-drop}
use borrow.Author.Tests.{le-leb, lt-leb, lt-ltb, le-ltb, eq-eqb, ne_eqb}
use Rattle.std.specs.Prelude.{Result, Ok, Err}
use Rattle.rules.specs.Octets.{choose, within}
use Rattle.rules.specs.Setup.{setup_size}
use Rattle.octets.proofs.Ranges.{is_within}
use Rattle.files.specs.declared.FileFault.{FileFault}
use Rattle.files.specs.declared.FileFault.TheVariants.{WrongLength, WrongTable}
use Rattle.files.specs.Contents.{Entry, pair_at, entry_of, entries, count, table_end, table_of, good_length, good_entry, no_setups, good_table, bodies_length, verdict}

-- ---- a pair of octets

pub past_end : (file : List ℕ) (at : ℕ) → length file ≤ at → 0 ≡ pair_at file at
unfolding pair_at
past_end file at h = rw (get_or-eq_default file 0 {n = at} h, get_or-eq_default file 0 {n = at + 1} (omega arith))

pub high-low : (file : List ℕ) (at : ℕ) {high low : ℕ} → high ≡ get_or file at 0 → low ≡ get_or file (at + 1) 0 → high * 256 + low ≡ pair_at file at
unfolding pair_at
high-low file at h l = rw (h, l)

-- ---- one entry

-- an entry of the table at a position, by the octets of the file
pub entry_at : (file : List ℕ) (at : ℕ) → entry_of (drop at file) ≡ record { kind = get_or file at 0; zero = get_or file (at + 1) 0; length = pair_at file (at + 2) }
unfolding entry_of pair_at
entry_at file at = rw (get_or-drop at file 0 0, get_or-drop at file 1 0, get_or-drop at file 2 0, get_or-drop at file 3 0, add-zero at, add_assoc at 2 1)

pub kind_at : (file : List ℕ) (at : ℕ) → (entry_of (drop at file)).kind ≡ get_or file at 0
kind_at file at = ap (λ (e : Entry). e.kind) (entry_at file at)

pub length_at : (file : List ℕ) (at : ℕ) → (entry_of (drop at file)).length ≡ pair_at file (at + 2)
length_at file at = ap (λ (e : Entry). e.length) (entry_at file at)

-- the first of n entries that stand at a position, and the others
pub entries_next : (file : List ℕ) (at n : ℕ) → 0 < n → entries n (drop at file) ≡ entry_of (drop at file) ∷ entries (n - 1) (drop (at + 4) file)
unfolding entries
entries_next file at zero h = absurd (omega arith)
entries_next file at (suc n) h = let k : suc n - 1 ≡ n = omega arith in rw (drop-drop 4 at file, k)

-- the entry at a position is right by itself
module _ (file : List ℕ) (at : ℕ) where
  pub zero-wrong : (get_or file (at + 1) 0 ≡ 0 → ⊥) → good_entry (entry_of (drop at file)) ≡ false
  unfolding good_entry
  zero-wrong h = rw (entry_at file at, ne_eqb (get_or file (at + 1) 0) 0 h)

  module _ (n : ℕ) (size : n ≡ pair_at file (at + 2)) (z : get_or file (at + 1) 0 ≡ 0) where
    -- its kind and length decide
    zero_right : good_entry (entry_of (drop at file)) ≡ good_length (get_or file at 0) n
    unfolding good_entry
    zero_right = rw (entry_at file at, eq-eqb (get_or file (at + 1) 0) 0 z, size)

    pub good-arrival : get_or file at 0 ≤ 1 → good_entry (entry_of (drop at file)) ≡ leb n 1024
    unfolding good_length choose
    good-arrival h = zero_right ∙ rw (le-leb (get_or file at 0) 1 h)

    pub good-setup : get_or file at 0 ≡ 4 → good_entry (entry_of (drop at file)) ≡ eqb n setup_size
    unfolding good_length choose
    good-setup k = zero_right ∙ rw k

    module _ (h : 1 < get_or file at 0) where
      pub good-end : get_or file at 0 ≤ 3 → good_entry (entry_of (drop at file)) ≡ eqb n 0
      unfolding good_length choose
      good-end k = zero_right ∙ rw (lt-leb (get_or file at 0) 1 h, le-leb (get_or file at 0) 3 k)

      pub no_kind : 3 < get_or file at 0 → (get_or file at 0 ≡ 4 → ⊥) → good_entry (entry_of (drop at file)) ≡ false
      unfolding good_length choose
      no_kind k l = zero_right ∙ rw (lt-leb (get_or file at 0) 1 h, lt-leb (get_or file at 0) 3 k, ne_eqb (get_or file at 0) 4 l)

-- ---- the entries after the first

-- what decides of a file of so many octets, the entries being left that make no part of the total yet
unfoldable pub judged : ℕ → ℕ → List Entry → Result Unit FileFault
judged size total es =
    choose (not (no_setups es)) (Err WrongTable)
    (choose (eqb size (total + bodies_length es)) (Ok tt) (Err WrongLength))

module _ (size total : ℕ) where
  pub judged-whole : size ≡ total → judged size total [] ≡ Ok tt
  unfolding judged no_setups bodies_length choose
  judged-whole h = rw (eq-eqb size (total + 0) (omega arith))

  pub judged-other : (size ≡ total → ⊥) → judged size total [] ≡ Err WrongLength
  unfolding judged no_setups bodies_length choose
  judged-other h = rw (ne_eqb size (total + 0) (λ (t : size ≡ total + 0). h (omega arith)))

  module _ (e : Entry) (es : List Entry) where
    pub second-setup : e.kind ≡ 4 → judged size total (e ∷ es) ≡ Err WrongTable
    unfolding judged no_setups choose
    second-setup h = rw h

    pub wrong-entry : good_entry e ≡ false → judged size total (e ∷ es) ≡ Err WrongTable
    unfolding judged no_setups choose
    wrong-entry h = rw (h, and-false)

    pub right-entry : (e.kind ≡ 4 → ⊥) → good_entry e ≡ true → judged size total (e ∷ es) ≡ judged size (total + e.length) es
    unfolding judged no_setups bodies_length
    right-entry k h = rw (ne_eqb e.kind 4 k, h, add_assoc total e.length (bodies_length es))

-- the entries being those that are left of the table, from a position of the file on
module _ (file : List ℕ) (size total at left : ℕ) where
  module _ (more : 0 < left) where
    pub setup-again : get_or file at 0 ≡ 4 → judged size total (entries left (drop at file)) ≡ Err WrongTable
    setup-again h = rw (entries_next file at left more) (second-setup size total _ _ (kind_at file at ∙ h))

    pub entry-wrong : good_entry (entry_of (drop at file)) ≡ false → judged size total (entries left (drop at file)) ≡ Err WrongTable
    entry-wrong h = rw (entries_next file at left more) (wrong-entry size total _ _ h)

    pub entry-right : (m : ℕ) → m ≡ pair_at file (at + 2) → (get_or file at 0 ≡ 4 → ⊥) → good_entry (entry_of (drop at file)) ≡ true
        → judged size total (entries left (drop at file)) ≡ judged size (total + m) (entries (left - 1) (drop (at + 4) file))
    entry-right m l k h =
        rw (entries_next file at left more, l, ← length_at file at) (right-entry size total _ _ (λ (t : (entry_of (drop at file)).kind ≡ 4). k (sym (kind_at file at) ∙ t)) h)

  none_left : left ≤ 0 → entries left (drop at file) ≡ []
  unfolding entries
  none_left h = let z : left ≡ 0 = omega arith in rw z

  pub total_right : left ≤ 0 → size ≡ total → judged size total (entries left (drop at file)) ≡ Ok tt
  total_right h k = rw (none_left h) (judged-whole size total k)

  pub total-wrong : left ≤ 0 → (size ≡ total → ⊥) → judged size total (entries left (drop at file)) ≡ Err WrongLength
  total-wrong h k = rw (none_left h) (judged-other size total k)

-- ---- the file

pub no-count : (file : List ℕ) → length file < 2 → verdict file ≡ Err WrongLength
unfolding verdict choose
no-count file h = rw (lt-ltb (length file) 2 h)

module _ (file : List ℕ) (n : ℕ) (two : 2 ≤ length file) (pair : n ≡ pair_at file 0) where
  counts : count file ≡ n
  unfolding count
  counts = sym pair

  ends : table_end file ≡ 2 + 4 * n
  unfolding table_end
  ends = rw counts

  pub wrong-count : within 1 48 n ≡ false → verdict file ≡ Err WrongTable
  unfolding verdict choose
  wrong-count h = rw (le-ltb (length file) 2 two, counts, h)

  module _ (low : 1 ≤ n) (high : n ≤ 48) where
    pub table-cut : length file < 2 + 4 * n → verdict file ≡ Err WrongLength
    unfolding verdict choose
    table-cut h = rw (le-ltb (length file) 2 two, counts, is_within 1 48 n low high, ends, lt-ltb (length file) (2 + 4 * n) h)

    module _ (present : 2 + 4 * n ≤ length file) where
      listed : table_of file ≡ entry_of (drop 2 file) ∷ entries (n - 1) (drop 6 file)
      unfolding table_of
      listed = rw counts (entries_next file 2 n (omega arith))

      -- then the entries and the total decide
      table-present : verdict file ≡ choose (not (good_table (entry_of (drop 2 file) ∷ entries (n - 1) (drop 6 file)))) (Err WrongTable)
          (choose (eqb (length file) (2 + 4 * n + bodies_length (entry_of (drop 2 file) ∷ entries (n - 1) (drop 6 file)))) (Ok tt) (Err WrongLength))
      unfolding verdict choose
      table-present = rw (le-ltb (length file) 2 two, counts, is_within 1 48 n low high, ends, le-ltb (length file) (2 + 4 * n) present, listed)

      pub no-setup : (get_or file 2 0 ≡ 4 → ⊥) → verdict file ≡ Err WrongTable
      unfolding good_table choose
      no-setup h = table-present ∙ rw (kind_at file 2, ne_eqb (get_or file 2 0) 4 h)

      pub wrong-setup : good_entry (entry_of (drop 2 file)) ≡ false → verdict file ≡ Err WrongTable
      unfolding good_table choose
      wrong-setup h = table-present ∙ rw (h, and-false)

      pub after-setup : (m : ℕ) → m ≡ pair_at file 4 → get_or file 2 0 ≡ 4 → good_entry (entry_of (drop 2 file)) ≡ true
          → verdict file ≡ judged (length file) (2 + 4 * n + m) (entries (n - 1) (drop 6 file))
      unfolding good_table bodies_length judged
      after-setup m l k h = table-present ∙ rw (h, kind_at file 2, k, length_at file 2, l, add_assoc (2 + 4 * n) (pair_at file 4))
