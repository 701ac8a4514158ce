-- An image that is read and written again is the same octets.
use Rattle.std.proofs.Common.{◌≡◌, ℕ, zero, suc, ◌+◌, ◌-◌, ◌*◌, ◌/◌, ◌%◌, ◌^◌, ◌<◌, ◌≤◌, true, ◌&&◌, eqb, leb, List, [], ◌∷◌, ◌++◌, length, get_or, take, drop, sym, refl, ap, ◌∙◌, arith, length-take-le, drop-cons, take-take, drop-drop, take-add, leb-true}
use Rattle.rules.specs.Octets.{choose, every}
use Rattle.rules.specs.Answers.{wrapped, most_owed}
use Rattle.rules.specs.Lines.{most_held}
use Rattle.rules.specs.Setup.{ipv6_width, ipv4_width}
use Rattle.records.specs.Layout.{number_width, live_at, supported_at, strict_at, epsv_at, client_place_at, client_telnet_at, opening_at, owed_at, client_held_at, server_held_at, up_taken_at, up_written_at, down_taken_at, down_written_at, up_removed_at, down_removed_at, client_at, mapped_at, server_at, kinds_at, command_at, image_size, lent_size, lines_size, bits_size, places_size, telnets_size, marks_size, numbers_size}
use Rattle.octets.proofs.Ranges.{and_both}
use Rattle.output.specs.Buffer.{put_at}
use Rattle.image.specs.Image.{
  mark_of,
  place_number,
  telnet_number,
  four_octets,
  capped,
  marks_of,
  numbers_of,
  arrays_of,
  image_of,
  place_of,
  telnet_of,
  count_at,
  is_set,
  part,
  counts_at,
  control_in,
  fields_in,
  at_most,
  is_image,
  session_of,
  WrittenSame,
}
use Rattle.image.proofs.Patch.{unchanged}
use Rattle.image.proofs.Back.{capped_same}

-- ---- one value

octet-bit : (n : ℕ) → leb n 1 ≡ true → mark_of (eqb n 1) ≡ n
unfolding mark_of
octet-bit zero e = refl
octet-bit (suc zero) e = refl
octet-bit (suc (suc n)) e = absurd (omega (arith, leb-true (suc (suc n)) 1 e))

octet-place : (n : ℕ) → leb n 3 ≡ true → place_number (place_of n) ≡ n
unfolding place_of
octet-place zero e = refl
octet-place (suc zero) e = refl
octet-place (suc (suc zero)) e = refl
octet-place (suc (suc (suc zero))) e = refl
octet-place (suc (suc (suc (suc n)))) e = absurd (omega (arith, leb-true (suc (suc (suc (suc n)))) 3 e))

octet-telnet : (n : ℕ) → leb n 7 ≡ true → telnet_number (telnet_of n) ≡ n
unfolding telnet_of
octet-telnet zero e = refl
octet-telnet (suc zero) e = refl
octet-telnet (suc (suc zero)) e = refl
octet-telnet (suc (suc (suc zero))) e = refl
octet-telnet (suc (suc (suc (suc zero)))) e = refl
octet-telnet (suc (suc (suc (suc (suc zero))))) e = refl
octet-telnet (suc (suc (suc (suc (suc (suc zero)))))) e = refl
octet-telnet (suc (suc (suc (suc (suc (suc (suc zero))))))) e = refl
octet-telnet (suc (suc (suc (suc (suc (suc (suc (suc n)))))))) e = absurd (omega (arith, leb-true (suc (suc (suc (suc (suc (suc (suc (suc n)))))))) 7 e))

four-list : (n : ℕ) {a b c d : ℕ} → n % 256 ≡ a → n / 256 % 256 ≡ b → n / 65536 % 256 ≡ c → n / 16777216 % 256 ≡ d
    → four_octets n ≡ a ∷ b ∷ c ∷ d ∷ []
unfolding four_octets
four-list n p q r s = rw (p, q, r, s)

four_same : (a b c d n : ℕ) → a < 256 → b < 256 → c < 256 → d < 256 → n ≡ a + b * 256 + c * 65536 + d * 16777216
    → four_octets n ≡ a ∷ b ∷ c ∷ d ∷ []
four_same a b c d n ha hb hc hd e = four-list n (omega arith) (omega arith) (omega arith) (omega arith)

-- ---- the marks

-- the tests of the marks
record Marked (image : List ℕ) : Type 0 where
  bits : at_most 1 (part image live_at bits_size) ≡ true
  places : at_most 3 (part image client_place_at places_size) ≡ true
  telnets : at_most 7 (part image client_telnet_at telnets_size) ≡ true

marks-same : (image : List ℕ) → marks_size ≤ length image → Marked image → marks_of (fields_in image) ≡ part image live_at marks_size
unfolding at_most every marks_of fields_in control_in
marks-same (a ∷ b ∷ c ∷ d ∷ e ∷ f ∷ g ∷ j ∷ k ∷ rest) h m =
    let m1 = and_both (leb a 1) (leb b 1 && (leb c 1 && (leb d 1 && (leb e 1 && true)))) m.bits in
    let m2 = and_both (leb b 1) (leb c 1 && (leb d 1 && (leb e 1 && true))) m1.1 in
    let m3 = and_both (leb c 1) (leb d 1 && (leb e 1 && true)) m2.1 in
    let m4 = and_both (leb d 1) (leb e 1 && true) m3.1 in
    let m5 = and_both (leb e 1) true m4.1 in
    let p1 = and_both (leb f 3) (leb g 3 && true) m.places in
    let p2 = and_both (leb g 3) true p1.1 in
    let t1 = and_both (leb j 7) (leb k 7 && true) m.telnets in
    let t2 = and_both (leb k 7) true t1.1 in
    rw (octet-bit a m1.0, octet-bit b m2.0, octet-bit c m3.0, octet-bit d m4.0, octet-bit e m5.0, octet-place f p1.0, octet-place g p2.0, octet-telnet j t1.0, octet-telnet k t2.0)
marks-same [] h m = absurd (omega arith)
marks-same (_ ∷ []) h m = absurd (omega arith)
marks-same (_ ∷ _ ∷ []) h m = absurd (omega arith)
marks-same (_ ∷ _ ∷ _ ∷ []) h m = absurd (omega arith)
marks-same (_ ∷ _ ∷ _ ∷ _ ∷ []) h m = absurd (omega arith)
marks-same (_ ∷ _ ∷ _ ∷ _ ∷ _ ∷ []) h m = absurd (omega arith)
marks-same (_ ∷ _ ∷ _ ∷ _ ∷ _ ∷ _ ∷ []) h m = absurd (omega arith)
marks-same (_ ∷ _ ∷ _ ∷ _ ∷ _ ∷ _ ∷ _ ∷ []) h m = absurd (omega arith)
marks-same (_ ∷ _ ∷ _ ∷ _ ∷ _ ∷ _ ∷ _ ∷ _ ∷ []) h m = absurd (omega arith)

-- ---- the numbers and the arrays

-- two parts, one behind the other
adjoined : (image : List ℕ) (i n m : ℕ) → part image i n ++ part image (i + n) m ≡ part image i (n + m)
adjoined image i n m = rw (take-add n m (drop i image), drop-drop n i image)

module _ (image : List ℕ) (long : image_size ≤ length image) (octets : (i : ℕ) → get_or image i 0 < 256) where
  part-four : (i : ℕ) → suc (suc (suc i)) < length image
      → part image i number_width ≡ get_or image i 0 ∷ get_or image (suc i) 0 ∷ get_or image (suc (suc i)) 0 ∷ get_or image (suc (suc (suc i))) 0 ∷ []
  part-four i h =
      rw (drop-cons image i 0 (omega arith), drop-cons image (suc i) 0 (omega arith), drop-cons image (suc (suc i)) 0 (omega arith), drop-cons image (suc (suc (suc i))) 0 h)

  number-value : (i : ℕ)
      → count_at image i
      ≡ get_or image i 0 + get_or image (suc i) 0 * 256 + get_or image (suc (suc i)) 0 * 65536 + get_or image (suc (suc (suc i))) 0 * 16777216
  unfolding count_at
  number-value i =
      let one : i + 1 ≡ suc i = omega arith in
      let two : i + 2 ≡ suc (suc i) = omega arith in
      let three : i + 3 ≡ suc (suc (suc i)) = omega arith in
      rw (one, two, three)

  number_same : (i : ℕ) → suc (suc (suc i)) < length image → four_octets (count_at image i) ≡ part image i number_width
  number_same i h =
      four_same _ _ _ _ (count_at image i) (octets i) (octets (suc i)) (octets (suc (suc i))) (octets (suc (suc (suc i)))) (number-value i) ∙ sym (part-four i h)

  pub number-low : (i : ℕ) → count_at image i < 2 ^ 32
  number-low i = omega (arith, number-value i, octets i, octets (suc i), octets (suc (suc i)), octets (suc (suc (suc i))))

  count_same : (i : ℕ) → suc (suc (suc i)) < length image → four_octets (capped (count_at image i)) ≡ part image i number_width
  count_same i h = ap four_octets (capped_same (count_at image i) (number-low i)) ∙ number_same i h

  numbers-same : numbers_of (fields_in image) ≡ part image opening_at numbers_size
  unfolding numbers_of fields_in control_in counts_at
  numbers-same =
      rw (number_same opening_at (omega arith), count_same owed_at (omega arith), count_same client_held_at (omega arith), count_same server_held_at (omega arith), number_same up_taken_at (omega arith), number_same up_written_at (omega arith), number_same down_taken_at (omega arith), number_same down_written_at (omega arith), number_same up_removed_at (omega arith), number_same down_removed_at (omega arith))
      (rw (adjoined image up_removed_at number_width number_width, adjoined image down_written_at number_width (client_at - up_removed_at), adjoined image down_taken_at number_width (client_at - down_written_at), adjoined image up_written_at number_width (client_at - down_taken_at), adjoined image up_taken_at number_width (client_at - up_written_at), adjoined image server_held_at number_width (client_at - up_taken_at), adjoined image client_held_at number_width (client_at - server_held_at), adjoined image owed_at number_width (client_at - client_held_at), adjoined image opening_at number_width (client_at - owed_at)))

  arrays-same : arrays_of (fields_in image) ≡ part image client_at lent_size
  unfolding arrays_of fields_in
  arrays-same = rw (adjoined image command_at most_held most_held, adjoined image kinds_at most_owed lines_size, adjoined image server_at ipv4_width (image_size - kinds_at), adjoined image mapped_at ipv4_width (image_size - server_at), adjoined image client_at ipv6_width (image_size - mapped_at))

  image-same : Marked image → image_of (fields_in image) ≡ take image_size image
  unfolding image_of
  image-same m = rw (marks-same image (omega arith) m, numbers-same, arrays-same, adjoined image opening_at numbers_size lent_size) (adjoined image live_at marks_size (image_size - opening_at))

-- the tests of an image
tests : (image : List ℕ) → is_image image ≡ true → (image_size ≤ length image) × Marked image
unfolding is_image
tests image ok =
    let long = leb image_size (length image) in
    let bits = at_most 1 (part image live_at bits_size) in
    let places = at_most 3 (part image client_place_at places_size) in
    let t = and_both (long && bits && places) (at_most 7 (part image client_telnet_at telnets_size)) ok in
    let p = and_both (long && bits) places t.0 in
    let b = and_both long bits p.0 in
    (leb-true image_size (length image) b.0, record { bits = b.1; places = p.1; telnets = t.1 })

pub image-long : (image : List ℕ) → is_image image ≡ true → image_size ≤ length image
image-long image ok = (tests image ok).0

-- the three marks that no call changes
pub fixed-marks : (image : List ℕ) → is_image image ≡ true → mark_of (is_set image live_at) ∷ mark_of (is_set image supported_at) ∷ mark_of (is_set image strict_at) ∷ [] ≡ take epsv_at image
unfolding marks_of fields_in
fixed-marks image ok =
    let t = tests image ok in
    ap (take epsv_at) (marks-same image (omega arith) t.1) ∙ take-take epsv_at marks_size image (omega arith)

module _ (image : List ℕ) (ok : is_image image ≡ true) (octets : (i : ℕ) → get_or image i 0 < 256) where
  fields-same : image_of (fields_in image) ≡ take image_size image
  fields-same = let t = tests image ok in image-same image t.0 octets t.1

  pub fields-size : length (image_of (fields_in image)) ≡ image_size
  fields-size = ap length fields-same ∙ length-take-le image_size image (image-long image ok)

  -- so it lies in memory already
  pub lies : put_at image 0 (image_of (fields_in image)) ≡ image
  lies =
      let long = image-long image ok in
      unchanged image (image_of (fields_in image)) (omega (arith, fields-size)) (fields-same ∙ ap (λ (n : ℕ). take n image) (sym fields-size))

  pub record-lies : put_at image 0 (image_of (session_of image)) ≡ image
  unfolding session_of choose
  record-lies = rw ok lies

  -- a count to which nothing is added
  pub count_kept : (i : ℕ) → wrapped (count_at image i + 0) ≡ count_at image i
  unfolding wrapped
  count_kept i = omega (arith, number-low image (image-long image ok) octets i)

pub written_same : WrittenSame
unfolding session_of choose
written_same image ok octets = rw ok (fields-same image ok octets)
