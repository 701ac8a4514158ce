-- The record as octets at fixed positions, for a host that keeps it in memory of its own: the table in docs/RECORD.md.
use Rattle.std.specs.Prelude.{◌≡◌, ℕ, zero, suc, ◌+◌, ◌-◌, ◌*◌, ◌/◌, ◌%◌, ◌^◌, ◌<◌, Bool, true, false, ◌&&◌, leb, List, [], ◌∷◌, ◌++◌, length, take, drop, replicate, ◌==◌, nat_le, slice_index}
use Rattle.rules.specs.Octets.{choose, every}
use Rattle.rules.specs.Lines.{most_held}
use Rattle.rules.specs.Answers.{most_owed}
use Rattle.rules.specs.Setup.{ipv6_width, ipv4_width}
use Rattle.rules.specs.declared.Fixed.{Fixed}
use Rattle.rules.specs.declared.Telnet.{Telnet}
use Rattle.records.specs.Layout.{number_width, live_at, supported_at, strict_at, epsv_at, eprt_at, client_place_at, server_place_at, client_telnet_at, server_telnet_at, opening_at, owed_at, client_held_at, server_held_at, up_taken_at, down_taken_at, up_removed_at, down_removed_at, client_at, mapped_at, server_at, kinds_at, command_at, reply_at, image_size, bits_size, places_size, telnets_size}
use Rattle.places.specs.declared.Place.{Place}
use Rattle.places.specs.Places.{at}
use Rattle.records.specs.declared.Control.{Control}
use Rattle.records.specs.declared.Counts.{Counts}
use Rattle.records.specs.declared.Session.{Session}
use Rattle.setups.specs.Setups.{dead_session}
use Rattle.records.specs.Sound.{sound}

-- ---- values as octets

-- yes is 1, no is 0
unfoldable pub mark_of : Bool → ℕ
mark_of false = 0
mark_of true = 1

-- a place in one octet
abbrev pub place_number : Place → ℕ
place_number Place.Holding = 0
place_number Place.Flowing = 1
place_number Place.Passing = 2
place_number Place.Ended = 3

-- a Telnet state in one octet
abbrev pub telnet_number : Telnet → ℕ
telnet_number Telnet.Clear = 0
telnet_number Telnet.Iac = 1
telnet_number Telnet.Will = 2
telnet_number Telnet.Wont = 3
telnet_number Telnet.Do = 4
telnet_number Telnet.Dont = 5
telnet_number Telnet.Within = 6
telnet_number Telnet.WithinIac = 7

-- a number of 32 bits in four octets, low octet first
unfoldable pub four_octets : ℕ → List ℕ
four_octets n = n % 256 ∷ n / 256 % 256 ∷ n / 65536 % 256 ∷ n / 16777216 % 256 ∷ []

-- a count in 32 bits; a larger one, which number 4 refuses, is the largest, which it refuses too
unfoldable pub capped : ℕ → ℕ
capped n = choose (nat_le n (2 ^ 32 - 1)) n (2 ^ 32 - 1)

-- ---- the image of a record

-- the marks of a control, which calls can change
abbrev pub marks_in : Control → List ℕ
marks_in c =
    mark_of c.switches.epsv ∷ mark_of c.switches.eprt
    ∷ place_number c.client.place ∷ place_number c.server.place
    ∷ telnet_number c.up.telnet ∷ telnet_number c.down.telnet ∷ []

-- behind three that stay from the setup on
abbrev pub marks_from : Bool → Bool → Bool → Control → List ℕ
marks_from live supported strict c = mark_of live ∷ mark_of supported ∷ mark_of strict ∷ marks_in c

-- all marks of a record
unfoldable pub marks_of : Session → List ℕ
marks_of s = marks_from s.live s.fixed.supported s.fixed.strict s.control

-- the opening code, the replies owed, the octets held of both lines, what is counted, and the octets removed
abbrev pub numbers_by : Control → ℕ → ℕ → ℕ → Counts → Counts → List ℕ
numbers_by c owed command reply up down =
    four_octets c.opening
    ++ (four_octets owed
    ++ (four_octets command
    ++ (four_octets reply
    ++ (four_octets up.taken
    ++ (four_octets up.written
    ++ (four_octets down.taken
    ++ (four_octets down.written
    ++ (four_octets c.up.removed
    ++ four_octets c.down.removed))))))))

-- the same, each count of the control in 32 bits
abbrev pub numbers_from : Control → Counts → Counts → List ℕ
numbers_from c up down = numbers_by c (capped c.owed) (capped c.client.held) (capped c.server.held) up down

-- all numbers of a record
unfoldable pub numbers_of : Session → List ℕ
numbers_of s = numbers_from s.control s.up s.down

-- the addresses, the kinds and both lines
unfoldable pub arrays_of : Session → List ℕ
arrays_of s = s.fixed.client ++ (s.fixed.mapped ++ (s.fixed.server ++ (s.kinds ++ (s.command ++ s.reply))))

-- the whole image: marks, numbers, arrays
unfoldable pub image_of : Session → List ℕ
image_of s = marks_of s ++ (numbers_of s ++ arrays_of s)

-- ---- the record of an image

-- a mark that says yes
abbrev pub is_set : List ℕ → ℕ → Bool
is_set image i = slice_index image i == 1

-- the place of a number
unfoldable pub place_of : ℕ → Place
place_of zero = Place.Holding
place_of (suc zero) = Place.Flowing
place_of (suc (suc zero)) = Place.Passing
place_of (suc (suc (suc n))) = Place.Ended

-- the Telnet state of a number
unfoldable pub telnet_of : ℕ → Telnet
telnet_of zero = Telnet.Clear
telnet_of (suc zero) = Telnet.Iac
telnet_of (suc (suc zero)) = Telnet.Will
telnet_of (suc (suc (suc zero))) = Telnet.Wont
telnet_of (suc (suc (suc (suc zero)))) = Telnet.Do
telnet_of (suc (suc (suc (suc (suc zero))))) = Telnet.Dont
telnet_of (suc (suc (suc (suc (suc (suc zero)))))) = Telnet.Within
telnet_of (suc (suc (suc (suc (suc (suc (suc n))))))) = Telnet.WithinIac

-- the number in the four octets at a position, low octet first
unfoldable pub count_at : List ℕ → ℕ → ℕ
count_at image i =
    slice_index image i + slice_index image (i + 1) * 256 + slice_index image (i + 2) * 65536 + slice_index image (i + 3) * 16777216

-- the n octets at a position
abbrev pub part : List ℕ → ℕ → ℕ → List ℕ
part image i n = take n (drop i image)

-- octets taken, and behind them octets written
unfoldable pub counts_at : List ℕ → ℕ → Counts
counts_at image i = record { taken = count_at image i; written = count_at image (i + number_width) }

-- the fields that calls can change, but for the arrays
unfoldable pub control_in : List ℕ → Control
control_in image =
    record {
      switches = record { epsv = is_set image epsv_at; eprt = is_set image eprt_at };
      client = at (place_of (slice_index image client_place_at)) (count_at image client_held_at);
      server = at (place_of (slice_index image server_place_at)) (count_at image server_held_at);
      owed = count_at image owed_at;
      opening = count_at image opening_at;
      up = record { telnet = telnet_of (slice_index image client_telnet_at); removed = count_at image up_removed_at };
      down = record { telnet = telnet_of (slice_index image server_telnet_at); removed = count_at image down_removed_at };
    }

-- what the setup fixed
abbrev pub fixed_in : List ℕ → Fixed
fixed_in image =
    record {
      client = part image client_at ipv6_width;
      mapped = part image mapped_at ipv4_width;
      server = part image server_at ipv4_width;
      supported = is_set image supported_at;
      strict = is_set image strict_at;
    }

-- all fields
unfoldable pub fields_in : List ℕ → Session
fields_in image =
    record {
      live = is_set image live_at;
      fixed = fixed_in image;
      control = control_in image;
      command = part image command_at most_held;
      reply = part image reply_at most_held;
      kinds = part image kinds_at most_owed;
      up = counts_at image up_taken_at;
      down = counts_at image down_taken_at;
    }

-- no octet is larger
unfoldable pub at_most : ℕ → List ℕ → Bool
at_most most octets = every (λ n. leb n most) octets

-- there are octets enough, and each mark has a value of its field
unfoldable pub is_image : List ℕ → Bool
is_image image =
    nat_le image_size (length image) && at_most 1 (part image live_at bits_size) && at_most 3 (part image client_place_at places_size)
    && at_most 7 (part image client_telnet_at telnets_size)

-- what is no image is the record of a refused setup, which number 4 refuses
unfoldable pub session_of : List ℕ → Session
session_of image = choose (is_image image) (fields_in image) dead_session

-- ---- an image is read back

-- what the types of a record's arrays say of their lengths
pub record Sized (s : Session) : Type 0 where
  pub client : length s.fixed.client ≡ ipv6_width
  pub mapped : length s.fixed.mapped ≡ ipv4_width
  pub server : length s.fixed.server ≡ ipv4_width
  pub kinds : length s.kinds ≡ most_owed
  pub command : length s.command ≡ most_held
  pub reply : length s.reply ≡ most_held

-- what those of its control's numbers say
pub record Numbered (c : Control) : Type 0 where
  pub opening : c.opening < 2 ^ 32
  pub up : c.up.removed < 2 ^ 32
  pub down : c.down.removed < 2 ^ 32

-- and those of its counters
pub record Wrapped (c : Counts) : Type 0 where
  pub taken : c.taken < 2 ^ 32
  pub written : c.written < 2 ^ 32

-- a record that number 4 does not refuse comes back from its image, whatever octets follow it
abbrev pub ReadBack : Type 0
ReadBack =
    (s : Session) (rest : List ℕ) → Sized s → Numbered s.control → Wrapped s.up → Wrapped s.down → sound s ≡ true
    → session_of (image_of s ++ rest) ≡ s

-- so does that of a refused setup
abbrev pub DeadBack : Type 0
DeadBack = (rest : List ℕ) → session_of (image_of dead_session ++ rest) ≡ dead_session

-- "With 5 the record is not live and otherwise all zero"
abbrev pub DeadZero : Type 0
DeadZero = image_of dead_session ≡ replicate image_size 0

-- an image that is read and written is the same octets
abbrev pub WrittenSame : Type 0
WrittenSame =
    (image : List ℕ) → is_image image ≡ true → ((i : ℕ) → slice_index image i < 256) → image_of (session_of image) ≡ take image_size image
