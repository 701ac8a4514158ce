-- A file longer than any session file is refused as its first octets are: one octet more than the largest has settles it.
use mathlib.Core.Path.{◌≡◌, refl, sym, ap, ◌∙◌}
use mathlib.Core.Bool.{Bool, true, false, not, ◌&&◌}
use mathlib.Core.List.{List, [], ◌∷◌}
use Prim.Native.Nat.{ℕ, zero, suc, ◌+◌, ◌*◌, ◌<◌, ◌≤◌}
use native.Mathlib.Omega.{arith}
use lib.Dec.{eqb, leb, ltb}
use lib.ListN.{length, take, drop}
use lib.Seq.{drop-drop, get_or-take, length-take-le}
use borrow.Author.Tests.{leb-true, eqb-true, ne_eqb, le-ltb}
use Rattle.rules.specs.Octets.{choose, within}
use Rattle.rules.specs.Setup.{setup_size}
use Rattle.octets.proofs.Ranges.{and_both}
use Rattle.files.specs.Contents.{Entry, pair_at, entry_of, entries, count, table_end, table_of, is_setup, good_entry, no_setups, good_table, bodies_length, longest_file, verdict, LongerSame}
use Rattle.files.proofs.Tables.{entry_at}
use Rattle.files.proofs.Accepted.{right}

-- ---- a table that is right says no more than the largest file has

others-most : (es : List Entry) (n : ℕ) → no_setups es ≡ true → length es ≤ n → bodies_length es ≤ n * 1024
unfolding no_setups bodies_length
others-most [] n h m = omega arith
others-most (e ∷ es) zero h m = absurd (omega arith)
others-most (e ∷ es) (suc n) h m =
    let w = and_both (not (is_setup e.kind) && good_entry e) (no_setups es) h in
    let one = (right e (and_both (not (is_setup e.kind)) (good_entry e) w.0).1).most in
    let rest = others-most es n w.1 (omega arith) in
    omega arith

table-most : (es : List Entry) → good_table es ≡ true → length es ≤ 48 → bodies_length es ≤ setup_size + 47 * 1024
unfolding good_table bodies_length
table-most [] h m = omega arith
table-most (e ∷ es) h m =
    let w = and_both (is_setup e.kind && good_entry e) (no_setups es) h in
    let first = and_both (is_setup e.kind) (good_entry e) w.0 in
    let four = eqb-true e.kind 4 first.0 in
    let one = (right e first.1).setup (omega arith) in
    let rest = others-most es 47 w.1 (omega arith) in
    omega arith

entries-size : (n : ℕ) (t : List ℕ) → length (entries n t) ≡ n
unfolding entries
entries-size zero t = refl
entries-size (suc n) t = ap suc (entries-size n (drop 4 t))

-- ---- the first k octets of a file tell the same table

module _ (file : List ℕ) (k : ℕ) where
  pair_same : (at : ℕ) → at + 1 < k → pair_at (take k file) at ≡ pair_at file at
  unfolding pair_at
  pair_same at h = rw (get_or-take k file at 0 (omega arith), get_or-take k file (at + 1) 0 h)

  entry-same : (at : ℕ) → at + 4 ≤ k → entry_of (drop at (take k file)) ≡ entry_of (drop at file)
  entry-same at h =
      entry_at (take k file) at
      ∙ (rw (get_or-take k file at 0 (omega arith), get_or-take k file (at + 1) 0 (omega arith), pair_same (at + 2) (omega arith)) (sym (entry_at file at)))

  entries-same : (n at : ℕ) → at + 4 * n ≤ k → entries n (drop at (take k file)) ≡ entries n (drop at file)
  unfolding entries
  entries-same zero at h = refl
  entries-same (suc n) at h =
      let rest = entries-same n (at + 4) (omega arith) in
      λ i. entry-same at (omega arith) i ∷ ((λ j. entries n (drop-drop 4 at (take k file) j)) ∙ (rest ∙ (λ j. entries n (sym (drop-drop 4 at file) j)))) i

-- ---- the file and its first octets

module _ (file : List ℕ) (long : longest_file < length file) where
  abbrev cut : List ℕ
  cut = take (longest_file + 1) file

  cut-size : length cut ≡ longest_file + 1
  cut-size = length-take-le (longest_file + 1) file (omega arith)

  count_same : count cut ≡ count file
  unfolding count longest_file
  count_same = pair_same file (longest_file + 1) 0 (omega arith)

  table_same : count file ≤ 48 → table_of cut ≡ table_of file
  unfolding table_of longest_file
  table_same few =
      ap (λ (n : ℕ). entries n (drop 2 cut)) count_same ∙ entries-same file (longest_file + 1) (count file) 2 (omega arith)

  -- no right table says so many octets
  never-whole : (n : ℕ) → longest_file < n → count file ≤ 48 → good_table (table_of file) ≡ true
      → eqb n (table_end file + bodies_length (table_of file)) ≡ false
  unfolding table_of table_end longest_file
  never-whole n more few good =
      let most = table-most (table_of file) good (omega (arith, entries-size (count file) (drop 2 file))) in
      ne_eqb n _ (λ e. omega arith)

  large : 194 ≤ longest_file
  unfolding longest_file
  large = omega arith

  -- two octets are present, and so is the table
  present : (n : ℕ) → longest_file < n → ltb n 2 ≡ false
  present n more = let enough = large in le-ltb n 2 (omega arith)

  table-present : (n : ℕ) → longest_file < n → count file ≤ 48 → ltb n (2 + 4 * count file) ≡ false
  table-present n more few = let enough = large in le-ltb n (2 + 4 * count file) (omega arith)

  by-table : count file ≤ 48 → within 1 48 (count file) ≡ true → (g : Bool) → good_table (table_of file) ≡ g → verdict cut ≡ verdict file
  unfolding verdict choose table_end
  by-table few range false e =
      let more : longest_file < longest_file + 1 = omega arith in
      rw (cut-size, count_same, table_same few, range, e, present (longest_file + 1) more, present (length file) long, table-present (longest_file + 1) more few, table-present (length file) long few)
  by-table few range true e =
      let more : longest_file < longest_file + 1 = omega arith in
      rw (
        cut-size,
        count_same,
        table_same few,
        range,
        e,
        present (longest_file + 1) more,
        present (length file) long,
        table-present (longest_file + 1) more few,
        table-present (length file) long few,
        never-whole (longest_file + 1) more few e,
        never-whole (length file) long few e,
      )

  by_count : (r : Bool) → within 1 48 (count file) ≡ r → verdict cut ≡ verdict file
  unfolding verdict choose
  by_count false e =
      let more : longest_file < longest_file + 1 = omega arith in
      rw (cut-size, count_same, e, present (longest_file + 1) more, present (length file) long)
  by_count true e =
      let few = leb-true (count file) 48 (and_both (leb 1 (count file)) (leb (count file) 48) e).1 in
      by-table few e (good_table (table_of file)) refl

  same : verdict cut ≡ verdict file
  same = by_count (within 1 48 (count file)) refl

pub longer-same : LongerSame
longer-same file long = same file long
