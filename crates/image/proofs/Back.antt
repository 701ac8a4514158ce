-- A record is read back from its image.
use Rattle.std.proofs.Common.{◌≡◌, ℕ, ◌+◌, ◌-◌, ◌*◌, ◌/◌, ◌%◌, ◌^◌, ◌<◌, Bool, true, false, eqb, leb, List, [], ◌++◌, length, take, drop, refl, append_assoc, arith, length-append, take_at, drop_at, le-leb}
use lib.ListN.{length-replicate}
use Rattle.rules.specs.Octets.{choose, every}
use Rattle.rules.specs.Lines.{judged, most_held}
use Rattle.rules.specs.Answers.{most_owed}
use Rattle.rules.specs.Setup.{ipv6_width, ipv4_width}
use Rattle.rules.specs.declared.Telnet.{Telnet}
use Rattle.records.specs.Layout.{live_at, supported_at, strict_at, client_place_at, client_telnet_at, up_taken_at, down_taken_at, client_at, mapped_at, server_at, kinds_at, command_at, reply_at, image_size, lent_mapped, lent_server_address, lent_kinds, lent_command, lent_reply, bits_size, places_size, telnets_size}
use Rattle.places.specs.declared.Place.{Place}
use Rattle.records.specs.declared.Session.{Session}
use Rattle.setups.specs.Setups.{dead_session}
use Rattle.records.proofs.Refusals.{sound-countable}
use Rattle.image.specs.Image.{
  mark_of,
  place_number,
  telnet_number,
  four_octets,
  capped,
  marks_of,
  numbers_of,
  arrays_of,
  image_of,
  place_of,
  telnet_of,
  count_at,
  is_set,
  part,
  counts_at,
  control_in,
  fields_in,
  at_most,
  is_image,
  session_of,
  Sized,
  Numbered,
  Wrapped,
  ReadBack,
  DeadBack,
  DeadZero,
}
use Rattle.image.proofs.Writing.{image-length}

-- ---- one value

bit-most : (b : Bool) → leb (mark_of b) 1 ≡ true
unfolding mark_of
bit-most false = refl
bit-most true = refl

bit-set : (b : Bool) → eqb (mark_of b) 1 ≡ b
unfolding mark_of
bit-set false = refl
bit-set true = refl

place-most : (p : Place) → leb (place_number p) 3 ≡ true
place-most Place.Holding = refl
place-most Place.Flowing = refl
place-most Place.Passing = refl
place-most Place.Ended = refl

place-back : (p : Place) → place_of (place_number p) ≡ p
unfolding place_of
place-back Place.Holding = refl
place-back Place.Flowing = refl
place-back Place.Passing = refl
place-back Place.Ended = refl

telnet-most : (t : Telnet) → leb (telnet_number t) 7 ≡ true
telnet-most Telnet.Clear = refl
telnet-most Telnet.Iac = refl
telnet-most Telnet.Will = refl
telnet-most Telnet.Wont = refl
telnet-most Telnet.Do = refl
telnet-most Telnet.Dont = refl
telnet-most Telnet.Within = refl
telnet-most Telnet.WithinIac = refl

telnet-back : (t : Telnet) → telnet_of (telnet_number t) ≡ t
unfolding telnet_of
telnet-back Telnet.Clear = refl
telnet-back Telnet.Iac = refl
telnet-back Telnet.Will = refl
telnet-back Telnet.Wont = refl
telnet-back Telnet.Do = refl
telnet-back Telnet.Dont = refl
telnet-back Telnet.Within = refl
telnet-back Telnet.WithinIac = refl

four-back : (n : ℕ) → n < 2 ^ 32
    → n % 256 + n / 256 % 256 * 256 + n / 65536 % 256 * 65536 + n / 16777216 % 256 * 16777216 ≡ n
four-back n h = let fourth : n / 16777216 % 256 ≡ n / 16777216 = omega arith in omega (arith, fourth)

pub capped_same : (n : ℕ) → n < 2 ^ 32 → capped n ≡ n
unfolding capped choose
capped_same n h = rw (le-leb n (2 ^ 32 - 1) (omega arith))

capped-back : (n : ℕ) → n < 2 ^ 32
    → capped n % 256 + capped n / 256 % 256 * 256 + capped n / 65536 % 256 * 65536 + capped n / 16777216 % 256 * 16777216 ≡ n
capped-back n h = rw (capped_same n h) (four-back n h)

-- the part of n octets behind i others
middle : (a x b : List ℕ) (i n : ℕ) → length a ≡ i → length x ≡ n → take n (drop i (a ++ (x ++ b))) ≡ x
middle a x b i n e f = rw (drop_at a (x ++ b) i e) (take_at x b n f)

-- ---- the whole image, and octets behind it

module _ (s : Session) (rest : List ℕ) (h : Sized s) where
  abbrev image : List ℕ
  image = image_of s ++ rest

  enough : leb image_size (length image) ≡ true
  enough = le-leb image_size (length image) (rw length-append (omega (arith, image-length s h)))

  marks : at_most 1 (part image live_at bits_size) ≡ true
  unfolding image_of marks_of at_most every
  marks = rw (bit-most s.live, bit-most s.fixed.supported, bit-most s.fixed.strict, bit-most s.control.switches.epsv, bit-most s.control.switches.eprt)

  places : at_most 3 (part image client_place_at places_size) ≡ true
  unfolding image_of marks_of at_most every
  places = rw (place-most s.control.client.place, place-most s.control.server.place)

  telnets : at_most 7 (part image client_telnet_at telnets_size) ≡ true
  unfolding image_of marks_of at_most every
  telnets = rw (telnet-most s.control.up.telnet, telnet-most s.control.down.telnet)

  pub image-is : is_image image ≡ true
  unfolding is_image
  image-is = rw (enough, marks, places, telnets)

  -- ---- the arrays, behind marks and numbers

  array : (a x b : List ℕ) (i n : ℕ) → arrays_of s ++ rest ≡ a ++ (x ++ b) → length a ≡ i → length x ≡ n
      → take n (drop i (arrays_of s ++ rest)) ≡ x
  array a x b i n split e f = rw split (middle a x b i n e f)

  client-back : part image client_at ipv6_width ≡ s.fixed.client
  unfolding image_of marks_of numbers_of four_octets arrays_of
  client-back = array [] s.fixed.client (s.fixed.mapped ++ (s.fixed.server ++ (s.kinds ++ (s.command ++ (s.reply ++ rest))))) 0 ipv6_width (simp append_assoc) refl h.client

  mapped-back : part image mapped_at ipv4_width ≡ s.fixed.mapped
  unfolding image_of marks_of numbers_of four_octets arrays_of
  mapped-back = array s.fixed.client s.fixed.mapped (s.fixed.server ++ (s.kinds ++ (s.command ++ (s.reply ++ rest)))) lent_mapped ipv4_width (simp append_assoc) h.client h.mapped

  server-back : part image server_at ipv4_width ≡ s.fixed.server
  unfolding image_of marks_of numbers_of four_octets arrays_of
  server-back =
      array (s.fixed.client ++ s.fixed.mapped) s.fixed.server (s.kinds ++ (s.command ++ (s.reply ++ rest))) lent_server_address ipv4_width (simp append_assoc) (rw length-append (omega (arith, h.client, h.mapped)))
      h.server

  kinds-back : part image kinds_at most_owed ≡ s.kinds
  unfolding image_of marks_of numbers_of four_octets arrays_of
  kinds-back =
      array (s.fixed.client ++ (s.fixed.mapped ++ s.fixed.server)) s.kinds (s.command ++ (s.reply ++ rest)) lent_kinds most_owed (simp append_assoc) (simp length-append (omega (arith, h.client, h.mapped, h.server)))
      h.kinds

  command-back : part image command_at most_held ≡ s.command
  unfolding image_of marks_of numbers_of four_octets arrays_of
  command-back =
      array (s.fixed.client ++ (s.fixed.mapped ++ (s.fixed.server ++ s.kinds))) s.command (s.reply ++ rest) lent_command most_held (simp append_assoc) (simp length-append (omega (arith, h.client, h.mapped, h.server, h.kinds)))
      h.command

  reply-back : part image reply_at most_held ≡ s.reply
  unfolding image_of marks_of numbers_of four_octets arrays_of
  reply-back =
      array (s.fixed.client ++ (s.fixed.mapped ++ (s.fixed.server ++ (s.kinds ++ s.command)))) s.reply rest lent_reply most_held (simp append_assoc)
      (simp length-append (omega (arith, h.client, h.mapped, h.server, h.kinds, h.command)))
      h.reply

  -- ---- the marks and the numbers

  -- numbers and counts that fit in 32 bits
  module _ (numbers : Numbered s.control) (owed : s.control.owed < 2 ^ 32) (command : s.control.client.held < 2 ^ 32) (reply : s.control.server.held < 2 ^ 32) where
    control-back : control_in image ≡ s.control
    unfolding control_in count_at image_of marks_of numbers_of four_octets
    control-back =
        let c = s.control in
        rw (bit-set c.switches.epsv, bit-set c.switches.eprt, place-back c.client.place, place-back c.server.place, telnet-back c.up.telnet, telnet-back c.down.telnet, four-back c.opening numbers.opening, capped-back c.owed owed, capped-back c.client.held command, capped-back c.server.held reply, four-back c.up.removed numbers.up, four-back c.down.removed numbers.down)

    up-back : Wrapped s.up → counts_at image up_taken_at ≡ s.up
    unfolding counts_at count_at image_of marks_of numbers_of four_octets
    up-back w = rw (four-back s.up.taken w.taken, four-back s.up.written w.written)

    down-back : Wrapped s.down → counts_at image down_taken_at ≡ s.down
    unfolding counts_at count_at image_of marks_of numbers_of four_octets
    down-back w = rw (four-back s.down.taken w.taken, four-back s.down.written w.written)

    live_back : is_set image live_at ≡ s.live
    unfolding image_of marks_of
    live_back = bit-set s.live

    supported-back : is_set image supported_at ≡ s.fixed.supported
    unfolding image_of marks_of
    supported-back = bit-set s.fixed.supported

    strict-back : is_set image strict_at ≡ s.fixed.strict
    unfolding image_of marks_of
    strict-back = bit-set s.fixed.strict

    pub fields_back : Wrapped s.up → Wrapped s.down → session_of image ≡ s
    unfolding session_of choose fields_in
    fields_back u d =
        rw (image-is, live_back, supported-back, strict-back, client-back, mapped-back, server-back, kinds-back, command-back, reply-back, control-back, up-back u, down-back d)

pub read_back : ReadBack
read_back s rest h numbers up down ok =
    let k = sound-countable s ok in
    fields_back s rest h numbers (omega (arith, k.owed)) (omega (arith, k.command)) (omega (arith, k.reply)) up down

pub dead-sized : Sized dead_session
unfolding dead_session judged
dead-sized =
    record {
      client = length-replicate {A = ℕ} ipv6_width 0;
      mapped = length-replicate {A = ℕ} ipv4_width 0;
      server = length-replicate {A = ℕ} ipv4_width 0;
      kinds = length-replicate {A = ℕ} most_owed 0;
      command = length-replicate {A = ℕ} most_held 0;
      reply = length-replicate {A = ℕ} most_held 0;
    }

pub dead-back : DeadBack
unfolding dead_session
dead-back rest =
    let none : Wrapped dead_session.up = record { taken = omega arith; written = omega arith } in
    let zeros : Numbered dead_session.control = record { opening = omega arith; up = omega arith; down = omega arith } in
    fields_back dead_session rest dead-sized zeros (omega arith) (omega arith) (omega arith) none none

pub dead-zero : DeadZero
unfolding dead_session judged image_of marks_of numbers_of arrays_of four_octets capped choose mark_of
dead-zero = refl
