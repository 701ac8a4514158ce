-- Laws of the fields of the report, and of the room that is left after texts.
use mathlib.Core.Path.{◌≡◌, refl, sym}
use mathlib.Core.Bool.{Bool, true, false}
use mathlib.Core.List.{List, [], ◌∷◌, ◌++◌, append_assoc}
use Prim.Native.Nat.{ℕ, ◌+◌, ◌-◌, ◌/◌, ◌%◌, ◌<◌, ◌≤◌}
use native.Mathlib.Numerals.{add-one}
use native.Mathlib.Omega.{arith}
use lib.Dec.{leb}
use lib.ListN.{length, get_or, drop, length-append, drop_of_length-le}
use lib.Seq.{drop-cons}
use borrow.Author.Tests.{le-leb, lt-leb, leb-true, leb-false}
use Rattle.rules.specs.Octets.{oct, lf, choose, decimal}
use Rattle.std.specs.Prelude.{Option, Some, None, SomeIff, is_some}
use Rattle.fields.specs.Report.{Done, hex_glyph, stands_as_itself, shown, shown_all, field, entry_line, header_line, refused_line}
use Rattle.fields.specs.Parts.{room_after, done_of}

-- ---- an octet

module _ (x : ℕ) where
  pub as-itself : stands_as_itself x ≡ true → shown x ≡ x ∷ []
  unfolding shown choose
  as-itself h = rw h

  pub as-hex : stands_as_itself x ≡ false → shown x ≡ 92 ∷ hex_glyph (x / 16) ∷ hex_glyph (x % 16) ∷ []
  unfolding shown choose
  as-hex h = rw h

-- ---- a field

pub field-empty : (s : List ℕ) → length s ≡ 0 → field s ≡ oct "-"
unfolding field choose
field-empty [] h = refl
field-empty (x ∷ s) h = absurd (omega arith)

pub field-shown : (s : List ℕ) → (length s ≡ 0 → ⊥) → field s ≡ shown_all s
unfolding field choose
field-shown [] h = absurd (h refl)
field-shown (x ∷ s) h = refl

pub shown-next : (s : List ℕ) (i : ℕ) → i < length s → shown_all (drop i s) ≡ shown (get_or s i 0) ++ shown_all (drop (i + 1) s)
unfolding shown_all
shown-next s i h = rw (add-one, drop-cons s i 0 h)

pub shown-end : (s : List ℕ) (i : ℕ) → length s ≤ i → shown_all (drop i s) ≡ []
unfolding shown_all
shown-end s i h = rw (drop_of_length-le s h)

-- ---- the room

module _ (room n : ℕ) where
  pub room-full : room < n → room_after room n ≡ None
  unfolding room_after choose
  room-full h = rw (lt-leb n room h)

  pub room-left : n ≤ room → room_after room n ≡ Some (room - n)
  unfolding room_after choose
  room-left h = rw (le-leb n room h)

  -- what an answer says of the room
  by-left : (b : Bool) → leb n room ≡ b → {left : ℕ} → choose b (Some (room - n)) None ≡ Some left → (n ≤ room) × (left ≡ room - n)
  unfolding choose
  by-left true t e = (leb-true n room t, cc)
  by-left false t e = let z : ◌≡◌ {A = ℕ} 0 1 = cc in absurd (omega arith)

  pub has_left : {left : ℕ} → room_after room n ≡ Some left → (n ≤ room) × (left ≡ room - n)
  unfolding room_after
  has_left e = by-left (leb n room) refl e

  no-left : (b : Bool) → leb n room ≡ b → choose b (Some (room - n)) None ≡ None → leb n room ≡ false
  unfolding choose
  no-left true t e = let z : ◌≡◌ {A = ℕ} 0 1 = cc in absurd (omega arith)
  no-left false t e = t

  pub has-none : room_after room n ≡ None → room < n
  unfolding room_after
  has-none e = omega (arith, leb-false n room (no-left (leb n room) refl e))

  chosen : (x : ℕ) (b : Bool) → is_some (choose b (Some x) None) ≡ b
  unfolding choose
  chosen x true = refl
  chosen x false = refl

  pub is_some-room : is_some (room_after room n) ≡ leb n room
  unfolding room_after
  is_some-room = chosen _ (leb n room)

  -- what a subtraction that may fail gives
  pub subtracted : (o : Option ℕ) → SomeIff o (n ≤ room) (room - n) → o ≡ room_after room n
  subtracted None h = sym (room-full (omega (arith, h)))
  subtracted (Some x) h = rw h.1 (sym (room-left h.0))

-- a text of n octets and one of m after it
pub room-step : (room n m : ℕ) → n ≤ room → room_after room (n + m) ≡ room_after (room - n) m
unfolding room_after
room-step room n m h =
    let same : leb (n + m) room ≡ leb m (room - n) = shift (leb m (room - n)) refl in
    let rest : room - (n + m) ≡ room - n - m = omega arith in
    rw (same, rest)
  where
    shift : (b : Bool) → leb m (room - n) ≡ b → leb (n + m) room ≡ b
    shift true t = le-leb (n + m) room (omega (arith, leb-true m (room - n) t))
    shift false t = lt-leb (n + m) room (omega (arith, leb-false m (room - n) t))

-- a loop over the octets of a field that stands at i
module _ (s : List ℕ) (left i : ℕ) where
  module _ (n : ℕ) (h : i < length s) (size : n ≡ length (shown (get_or s i 0))) where
    split : length (shown_all (drop i s)) ≡ n + length (shown_all (drop (i + 1) s))
    split = rw (shown-next s i h, length-append, size)

    pub shown-full : left < n → room_after left (length (shown_all (drop i s))) ≡ None
    shown-full k = rw split (room-full left _ (omega arith))

    pub shown-taken : n ≤ left → room_after left (length (shown_all (drop i s))) ≡ room_after (left - n) (length (shown_all (drop (i + 1) s)))
    shown-taken k = rw split (room-step left n _ k)

  pub shown-done : length s ≤ i → room_after left (length (shown_all (drop i s))) ≡ Some left
  shown-done h = let all : left - 0 ≡ left = omega arith in rw (shown-end s i h, room-left left 0 (omega arith), all)

-- ---- lines of a text and a number

number-line : (text : List ℕ) (n : ℕ) → length (text ++ (decimal n ++ (lf ∷ []))) ≡ length text + 1 + length (decimal n)
number-line text n = simp length-append (omega arith)

pub header-length : (n : ℕ) → length (header_line n) ≡ 14 + length (decimal n)
header-length = number-line (oct "FTP64 REPORT ")

pub refused-length : (n : ℕ) → length (refused_line n) ≡ 9 + length (decimal n)
unfolding refused_line
refused-length = number-line (oct "REFUSED ")

-- ---- the line of an entry

-- the line does not show the record
pub line-of-parts : (n : ℕ) (d : Done) → entry_line n (done_of d.taken d.number d.to_server d.to_client) ≡ entry_line n d
unfolding entry_line done_of
line-of-parts n d = refl

-- the line by the parts that its writer puts one after another
pub line-parts : (n taken number : ℕ) (to_server to_client : List ℕ)
    → (decimal n ++ oct " ") ++ ((decimal taken ++ oct " ") ++ ((decimal number ++ oct " ") ++ ((field to_server ++ oct " ") ++ (field to_client ++ oct "\n"))))
    ≡ entry_line n (done_of taken number to_server to_client)
unfolding entry_line done_of
line-parts n taken number to_server to_client = simp append_assoc

pub line-length : (n taken number : ℕ) (to_server to_client : List ℕ)
    → length (entry_line n (done_of taken number to_server to_client))
    ≡ length (decimal n) + length (decimal taken) + length (decimal number) + 5 + length (field to_server) + length (field to_client)
line-length n taken number to_server to_client = rw (← line-parts n taken number to_server to_client) (simp length-append (omega arith))

-- what the room says of the line
module _ (size at n taken number : ℕ) (to_server to_client : List ℕ) where
  pub line_refused : size < at + (length (decimal n) + length (decimal taken) + length (decimal number) + 5 + length (field to_server) + length (field to_client))
      → false ≡ leb (at + length (entry_line n (done_of taken number to_server to_client))) size
  line_refused h = rw (line-length n taken number to_server to_client) (sym (lt-leb _ size h))

  pub line-has-room : at + (length (decimal n) + length (decimal taken) + length (decimal number) + 5 + length (field to_server) + length (field to_client)) ≤ size
      → true ≡ leb (at + length (entry_line n (done_of taken number to_server to_client))) size
  line-has-room h = rw (line-length n taken number to_server to_client) (sym (le-leb _ size h))

  pub line-by-rest : (left : ℕ) → at + (length (decimal n) + length (decimal taken) + length (decimal number) + 5 + length (field to_server)) + left ≡ size
      → leb (length (field to_client)) left ≡ leb (at + length (entry_line n (done_of taken number to_server to_client))) size
  line-by-rest left whole = by-test (leb (length (field to_client)) left) refl
    where
      by-test : (b : Bool) → leb (length (field to_client)) left ≡ b → b ≡ leb (at + length (entry_line n (done_of taken number to_server to_client))) size
      by-test true t = line-has-room (omega (arith, leb-true (length (field to_client)) left t))
      by-test false t = line_refused (omega (arith, leb-false (length (field to_client)) left t))
