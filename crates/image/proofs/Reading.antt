-- A part of an image copied into an array, and the places that have the same number.
use Rattle.std.specs.Prelude.{Option, Some}
use Rattle.std.proofs.Common.{◌≡◌, ℕ, zero, suc, ◌+◌, ◌<◌, ◌≤◌, Bool, true, false, not, ◌&&◌, leb, List, length, get_or, drop, replicate, sym, refl, ap, ◌∙◌, arith, length-drop, length-take-le, le-leb, leb-true}
use borrow.Author.Tests.{lt-leb, not-true, not-false}
use Rattle.rules.specs.Octets.{choose}
use Rattle.rules.specs.Answers.{sound_record, most_owed}
use Rattle.rules.specs.declared.Answer.{Answer}
use Rattle.rules.specs.declared.Telnet.{Telnet}
use Rattle.rules.specs.Lines.{most_held}
use Rattle.rules.specs.Setup.{ipv6_width, ipv4_width}
use Rattle.records.specs.Layout.{live_at, supported_at, strict_at, epsv_at, eprt_at, client_place_at, server_place_at, client_telnet_at, server_telnet_at, opening_at, owed_at, client_held_at, server_held_at, up_taken_at, down_taken_at, up_removed_at, down_removed_at, client_at, mapped_at, server_at, kinds_at, command_at, reply_at, image_size, bits_size, places_size, telnets_size}
use Rattle.octets.proofs.Ranges.{and_both}
use Rattle.places.specs.declared.Place.{Place}
use Rattle.places.specs.Places.{at}
use Rattle.output.specs.Buffer.{put_at}
use Rattle.output.proofs.Front.{filled}
use Rattle.records.specs.declared.Control.{Control}
use Rattle.records.specs.declared.Counts.{Counts}
use Rattle.records.specs.declared.Session.{Session}
use Rattle.records.specs.Sound.{sound, refusal_on, refusal_of}
use Rattle.records.proofs.Refusals.{unsound}
use Rattle.setups.specs.Setups.{dead_session}
use Rattle.image.specs.Image.{place_of, telnet_of, is_set, part, count_at, counts_at, control_in, fields_in, at_most, is_image, session_of}

pub place_other : (n : ℕ) → (n ≡ 0 → ⊥) → (n ≡ 1 → ⊥) → (n ≡ 2 → ⊥) → Place.Ended ≡ place_of n
unfolding place_of
place_other zero a b c = absurd (a refl)
place_other (suc zero) a b c = absurd (b refl)
place_other (suc (suc zero)) a b c = absurd (c refl)
place_other (suc (suc (suc n))) a b c = refl

pub telnet-other : (n : ℕ) → (n ≡ 0 → ⊥) → (n ≡ 1 → ⊥) → (n ≡ 2 → ⊥) → (n ≡ 3 → ⊥) → (n ≡ 4 → ⊥) → (n ≡ 5 → ⊥) → (n ≡ 6 → ⊥)
    → Telnet.WithinIac ≡ telnet_of n
unfolding telnet_of
telnet-other zero a b c d e f g = absurd (a refl)
telnet-other (suc zero) a b c d e f g = absurd (b refl)
telnet-other (suc (suc zero)) a b c d e f g = absurd (c refl)
telnet-other (suc (suc (suc zero))) a b c d e f g = absurd (d refl)
telnet-other (suc (suc (suc (suc zero)))) a b c d e f g = absurd (e refl)
telnet-other (suc (suc (suc (suc (suc zero))))) a b c d e f g = absurd (f refl)
telnet-other (suc (suc (suc (suc (suc (suc zero)))))) a b c d e f g = absurd (g refl)
telnet-other (suc (suc (suc (suc (suc (suc (suc n))))))) a b c d e f g = refl

-- a part of an image that was copied
pub copied : (image : List ℕ) (i n : ℕ) → i + n ≤ length image → {r : List ℕ} → r ≡ put_at (replicate n 0) 0 (part image i n)
    → r ≡ part image i n
copied image i n there e =
    let left : n ≤ length (drop i image) = rw length-drop (omega arith) in
    e ∙ filled n (part image i n) (length-take-le n (drop i image) left)

-- a control of the values that were read
pub control-read : (image : List ℕ) {client server : Place} {up down : Telnet} {command reply said answered owed opening : ℕ}
    → client ≡ place_of (get_or image client_place_at 0) → command ≡ count_at image client_held_at → server ≡ place_of (get_or image server_place_at 0)
    → reply ≡ count_at image server_held_at → up ≡ telnet_of (get_or image client_telnet_at 0) → said ≡ count_at image up_removed_at
    → down ≡ telnet_of (get_or image server_telnet_at 0) → answered ≡ count_at image down_removed_at → owed ≡ count_at image owed_at → opening ≡ count_at image opening_at
    → ◌≡◌ {A = Control}
    (record {
      switches = record { epsv = is_set image epsv_at; eprt = is_set image eprt_at };
      client = at client command;
      server = at server reply;
      owed = owed;
      opening = opening;
      up = record { telnet = up; removed = said };
      down = record { telnet = down; removed = answered };
    })
    (control_in image)
unfolding control_in
control-read image a b c d e f g h j k = rw (a, b, c, d, e, f, g, h, j, k)

-- a record of the parts that were read
pub fields_read : (image : List ℕ) {client mapped server kinds command reply : List ℕ} {control : Control} {up down : Counts}
    → client ≡ part image client_at ipv6_width → mapped ≡ part image mapped_at ipv4_width → server ≡ part image server_at ipv4_width → kinds ≡ part image kinds_at most_owed → command ≡ part image command_at most_held
    → reply ≡ part image reply_at most_held → control ≡ control_in image → up ≡ counts_at image up_taken_at → down ≡ counts_at image down_taken_at
    → ◌≡◌ {A = Session}
    (record {
      live = is_set image live_at;
      fixed = record { client = client; mapped = mapped; server = server; supported = is_set image supported_at; strict = is_set image strict_at };
      control = control;
      command = command;
      reply = reply;
      kinds = kinds;
      up = up;
      down = down;
    })
    (fields_in image)
unfolding fields_in
fields_read image a b c d e f g h i = rw (a, b, c, d, e, f, g, h, i)

-- ---- what is an image, and what is not

module _ (image : List ℕ) where
  pub too_short : length image < image_size → false ≡ is_image image
  unfolding is_image
  too_short h = rw (lt-leb image_size (length image) h)

  pub no-mark : image_size ≤ length image → {b : Bool} → b ≡ at_most 1 (part image live_at bits_size) → not b ≡ true → false ≡ is_image image
  unfolding is_image
  no-mark h {b} e t = rw (le-leb image_size (length image) h, sym e ∙ not-true b t)

  -- the first two tests hold
  module _ (h : image_size ≤ length image) {a : Bool} (e : a ≡ at_most 1 (part image live_at bits_size)) (t : not a ≡ false) where
    pub no_place : {b : Bool} → b ≡ at_most 3 (part image client_place_at places_size) → not b ≡ true → false ≡ is_image image
    unfolding is_image
    no_place {b} f u = rw (le-leb image_size (length image) h, sym e ∙ not-false a t, sym f ∙ not-true b u)

    -- the Telnet states decide where the places are some
    pub by-telnets : {b c : Bool} → b ≡ at_most 3 (part image client_place_at places_size) → not b ≡ false
        → c ≡ at_most 7 (part image client_telnet_at telnets_size) → c ≡ is_image image
    unfolding is_image
    by-telnets {b} f u g = rw (le-leb image_size (length image) h, sym e ∙ not-false a t, sym f ∙ not-false b u) g

  pub image-size : {b : Bool} → b ≡ is_image image → not b ≡ false → image_size ≤ length image
  unfolding is_image
  image-size {b} e t =
      let long = leb image_size (length image) in
      let marked = at_most 1 (part image live_at bits_size) in
      let placed = at_most 3 (part image client_place_at places_size) in
      leb-true image_size (length image) (and_both long marked (and_both (long && marked) placed (and_both (long && marked && placed) _ (sym e ∙ not-false b t)).0).0).0

  pub no-image : {b : Bool} → b ≡ is_image image → not b ≡ true → dead_session ≡ session_of image
  unfolding session_of choose
  no-image {b} e t = rw (sym e ∙ not-true b t)

  pub is-image : {b : Bool} → b ≡ is_image image → not b ≡ false → fields_in image ≡ session_of image
  unfolding session_of choose
  is-image {b} e t = rw (sym e ∙ not-false b t)

-- ---- what refuses a call on the record of an image

dead-refused : (d : ℕ) → d < 2 → Some Answer.BadRecord ≡ refusal_of dead_session d
unfolding refusal_of sound sound_record dead_session
dead-refused d h = unsound d _ _ h {s' = false} refl refl

module _ (image : List ℕ) (d : ℕ) {b : Bool} (e : b ≡ is_image image) where
  pub refused-no-image : not b ≡ true → d < 2 → Some Answer.BadRecord ≡ refusal_of (session_of image) d
  refused-no-image t h = dead-refused d h ∙ ap (λ (s : Session). refusal_of s d) (no-image image e t)

  pub refused-image : not b ≡ false → {r : Option Answer} → r ≡ refusal_of (fields_in image) d → r ≡ refusal_of (session_of image) d
  refused-image t r = r ∙ ap (λ (s : Session). refusal_of s d) (is-image image e t)

pub refused-by-parts : (image : List ℕ) (d : ℕ) {control : Control} → control ≡ control_in image → {kinds : List ℕ} → kinds ≡ part image kinds_at most_owed
    → {r : Option Answer} → r ≡ refusal_on (is_set image live_at) control kinds d → r ≡ refusal_of (fields_in image) d
unfolding refusal_of sound fields_in
refused-by-parts image d p q r = r ∙ rw (p, q)
