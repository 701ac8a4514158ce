-- "A table of contents first, then the bodies."
use Rattle.std.specs.Prelude.{◌≡◌, Result, Ok, Err, Bool, true, false, ◌&&◌, not, List, [], ◌∷◌, ℕ, zero, suc, ◌+◌, ◌*◌, ◌<◌, eqb, leb, ltb, length, get_or, take, drop}
use Rattle.rules.specs.Octets.{choose, within}
use Rattle.rules.specs.Setup.{setup_size}
use Rattle.files.specs.declared.FileFault.{FileFault}
use Rattle.files.specs.declared.FileFault.TheVariants.{WrongLength, WrongTable}

-- "high octet first": the number of the two octets at a position
unfoldable pub pair_at : List ℕ → ℕ → ℕ
pair_at s i = get_or s i 0 * 256 + get_or s (i + 1) 0

-- "Per entry four octets: kind, zero, length (high first)"
pub record Entry : Type 0 where
  pub kind : ℕ
  pub zero : ℕ
  pub length : ℕ

-- the entry at the front of a table
unfoldable pub entry_of : List ℕ → Entry
entry_of t = record { kind = get_or t 0 0; zero = get_or t 1 0; length = pair_at t 2 }

-- the first n entries of a table
unfoldable pub entries : ℕ → List ℕ → List Entry
entries zero t = []
entries (suc n) t = entry_of t ∷ entries n (drop 4 t)

-- "Two octets: entry count, 1 to 48"
unfoldable pub count : List ℕ → ℕ
count file = pair_at file 0

-- where the bodies begin
unfoldable pub table_end : List ℕ → ℕ
table_end file = 2 + 4 * count file

-- a file's "table of contents": as many entries as the count says
unfoldable pub table_of : List ℕ → List Entry
table_of file = entries (count file) (drop 2 file)

-- "Kinds: .. 4 setup"
abbrev pub is_setup : ℕ → Bool
is_setup kind = eqb kind 4

-- "0 client .., 1 server .. (each 0 to 1,024), 2 .., 3 .. (each length 0), 4 setup (..)", which request 4 makes 25 octets
unfoldable pub good_length : ℕ → ℕ → Bool
good_length kind n =
    choose (leb kind 1) (leb n 1024)
    (choose (leb kind 3) (eqb n 0)
    (is_setup kind && eqb n setup_size))

-- not "kind, .. zero octet or length wrong"
unfoldable pub good_entry : Entry → Bool
good_entry e = eqb e.zero 0 && good_length e.kind e.length

-- entries behind the first: each is good, and none is a setup
unfoldable pub no_setups : List Entry → Bool
no_setups [] = true
no_setups (e ∷ es) = not (is_setup e.kind) && good_entry e && no_setups es

-- "setup (.., first entry and only there)"
unfoldable pub good_table : List Entry → Bool
good_table [] = false
good_table (e ∷ es) = is_setup e.kind && good_entry e && no_setups es

-- "Bodies follow without gaps"
unfoldable pub bodies_length : List Entry → ℕ
bodies_length [] = 0
bodies_length (e ∷ es) = e.length + bodies_length es

-- the largest session file: the count, 48 entries of the table, a setup and 47 bodies of 1,024
unfoldable pub longest_file : ℕ
longest_file = 2 + 4 * 48 + setup_size + 47 * 1024

-- "Order: two octets present, count, table present, entries, total"
unfoldable pub verdict : List ℕ → Result Unit FileFault
verdict file =
    choose (ltb (length file) 2) (Err WrongLength)
    (choose (not (within 1 48 (count file))) (Err WrongTable)
    (choose (ltb (length file) (table_end file)) (Err WrongLength)
    (choose (not (good_table (table_of file))) (Err WrongTable)
    (choose (eqb (length file) (table_end file + bodies_length (table_of file))) (Ok tt) (Err WrongLength)))))

-- a file longer than any session file is refused as its first octets are, one more than the largest has
abbrev pub LongerSame : Type 0
LongerSame = (file : List ℕ) → longest_file < length file → verdict (take (longest_file + 1) file) ≡ verdict file

-- "`REFUSED 7` (file length not what the table says, table cut) or `REFUSED 8` (count, kind, order, zero octet or length wrong)"
unfoldable pub verdict_number : Result Unit FileFault → ℕ
verdict_number (Ok done) = 0
verdict_number (Err WrongLength) = 7
verdict_number (Err WrongTable) = 8

-- this page's definitions, for a proof that computes with them
unfoldable pub contents-opened : Unit {0}
unfolding verdict_number pair_at entry_of entries count table_end table_of good_length good_entry no_setups good_table bodies_length longest_file verdict
contents-opened = tt
