-- An arrival on an image, from what the functions that it calls return.
use Rattle.std.proofs.Common.{◌≡◌, ℕ, ◌+◌, ◌≤◌, Bool, true, false, not, leb, List, [], ◌∷◌, ◌++◌, length, take, drop, sym, refl, ap, ◌∙◌, subst, append_assoc, arith, length-drop, take-append-drop, length-take-le, take_all, take-take, drop-drop}
use mathlib.Core.Bool.{false≢true}
use Rattle.std.specs.Prelude.{Option, None, Some}
use lib.Seq.{take-append-le}
use borrow.Author.Tests.{not-false}
use borrow.Rule.Slice.PartMut.{put_mid, post_of, same_len_mid}
use Rattle.rules.specs.Octets.{choose}
use Rattle.rules.specs.Answers.{Side, client, server, side_of, answer_number, sound_record, refusal, stop, most_owed}
use Rattle.rules.specs.declared.Answer.{Answer}
use Rattle.rules.specs.Lines.{most_held}
use Rattle.records.specs.Layout.{live_at, supported_at, strict_at, epsv_at, up_taken_at, down_taken_at, client_at, mapped_at, server_at, kinds_at, command_at, reply_at, image_size, lent_mapped, lent_server_address, lent_kinds, lent_command, lent_reply, lent_size}
use Rattle.output.specs.Buffer.{put_at}
use Rattle.records.specs.declared.Control.{Control}
use Rattle.records.specs.declared.Counts.{Counts}
use Rattle.records.specs.declared.Session.{Session}
use Rattle.records.specs.Sound.{sound, refusal_of, Counted}
use Rattle.records.proofs.Refusals.{refusal-cases, countable}
use Rattle.rules.specs.declared.Fixed.{Fixed}
use Rattle.rules.specs.Setup.{ipv6_width, ipv4_width}
use Rattle.arrivals.specs.declared.Taken.{Taken}
use Rattle.steps.specs.Steps.{State, octet_step}
use Rattle.steps.specs.Takes.{Took, takes, unless_stopped, stop_of, took_in, command_in, reply_in, state_from, addresses_lent, fixed_lent, kinds_lent, lines_lent, state_lent, core_lent, Given}
use Rattle.steps.proofs.Lent.{from_front, fixed_same}
use Rattle.arrivals.proofs.Going.{took-all}
use Rattle.records.proofs.Limits.{counts-holdable}
use Rattle.session.specs.declared.Called.{Called}
use Rattle.setups.specs.Setups.{dead_session}
use Rattle.counts.specs.Counts.{counted, taken_for}
use Rattle.session.specs.Calls.{Outcome, state_of, session_after, refused, unless_refused, arrived, end_called}
use Rattle.session.proofs.Outcomes.{Promised, arrives}
use Rattle.image.specs.declared.arrival.Told.{Told}
use Rattle.image.specs.Image.{mark_of, marks_in, marks_from, numbers_from, marks_of, numbers_of, arrays_of, image_of, is_set, part, counts_at, control_in, fields_in, is_image, session_of}
use Rattle.image.specs.Lent.{arrived_on, ended_on, image_after, server_after, client_after, Tells}
use Rattle.image.proofs.Patch.{patched, rest_put}
use Rattle.image.proofs.Writing.{front_length}
use Rattle.image.proofs.Again.{fixed-marks}
use Rattle.image.proofs.Reading.{image-size, no-image, is-image}

-- ---- an arrival that is not refused answers less than 3

stopped-below : (full room : Bool) (s : State) (r : Took) → leb 3 (answer_number r.answer) ≡ false
    → leb 3 (answer_number (unless_stopped (stop full room) s r).answer) ≡ false
unfolding unless_stopped stop choose
stopped-below true room s r h = refl
stopped-below false true s r h = h
stopped-below false false s r h = refl

pub takes-below : (f : Fixed) (d : Side) (s : State) (l : List ℕ) (m n : ℕ) → leb 3 (answer_number (takes f d s l m n).answer) ≡ false
unfolding takes stop_of
takes-below f d s [] m n = refl
takes-below f d s (x ∷ xs) m n = stopped-below _ _ s _ (takes-below f d (octet_step f d s x).state xs _ _)

-- ---- the arrays as they lie in an image

-- a part of a part
inside : (l : List ℕ) (n b m : ℕ) → n ≤ length l → b + m ≤ n → take m (drop b (take n l)) ≡ take m (drop b l)
inside l n b m h g =
    let size = length-take-le n l h in
    from_front b m (take n l) (omega arith) ∙ (ap (drop b) (take-take (b + m) n l g) ∙ sym (from_front b m l (omega arith)))

module _ (image : List ℕ) (room : image_size ≤ length image) where
  abbrev pub lent : List ℕ
  lent = part image client_at lent_size

  abbrev rest : List ℕ
  rest = drop client_at image

  long : lent_size ≤ length rest
  long = omega (arith, length-drop client_at image)

  pub lent-size : length lent ≡ lent_size
  lent-size = length-take-le lent_size rest long

  lies : (b m : ℕ) → b + m ≤ lent_size → take m (drop b lent) ≡ part image (client_at + b) m
  lies b m h = inside rest lent_size b m long h ∙ ap (take m) (drop-drop b client_at image)

  pub client-lies : take ipv6_width lent ≡ part image client_at ipv6_width
  client-lies = lies 0 ipv6_width (omega arith)

  pub mapped-lies : take ipv4_width (drop lent_mapped lent) ≡ part image mapped_at ipv4_width
  mapped-lies = lies lent_mapped ipv4_width (omega arith)

  pub server-lies : take ipv4_width (drop lent_server_address lent) ≡ part image server_at ipv4_width
  server-lies = lies lent_server_address ipv4_width (omega arith)

  pub fixed-lies : (supported strict : Bool)
      → fixed_lent supported strict lent ≡ record { client = part image client_at ipv6_width; mapped = part image mapped_at ipv4_width; server = part image server_at ipv4_width; supported = supported; strict = strict }
  fixed-lies supported strict = λ i. record { client = client-lies i; mapped = mapped-lies i; server = server-lies i; supported = supported; strict = strict }

  pub state-lies : (c : Control) → state_lent c lent ≡ state_from c (part image command_at most_held) (part image reply_at most_held) (part image kinds_at most_owed)
  state-lies c =
      let command = lies lent_command most_held (omega arith) in
      let whole = take_all most_held (drop lent_reply lent) (omega (arith, length-drop lent_reply lent, lent-size)) in
      let reply = drop-drop most_held lent_command lent ∙ (sym whole ∙ lies lent_reply most_held (omega arith)) in
      let kinds = lies lent_kinds most_owed (omega arith) in
      λ i. state_from c (command i) (reply i) (kinds i)

-- octets of the number that are lent, as the arrays of a record
pub arrays-lent : (l : List ℕ)
    → take ipv6_width l ++ (take ipv4_width (drop lent_mapped l) ++ (take ipv4_width (drop lent_server_address l) ++ (kinds_lent l ++ (command_in (lines_lent l) ++ reply_in (lines_lent l))))) ≡ l
arrays-lent l =
    ap (λ (r : List ℕ). take ipv6_width l ++ (take ipv4_width (drop lent_mapped l) ++ (take ipv4_width (drop lent_server_address l) ++ (kinds_lent l ++ r)))) (take-append-drop most_held (lines_lent l))
    ∙ (ap (λ (r : List ℕ). take ipv6_width l ++ (take ipv4_width (drop lent_mapped l) ++ (take ipv4_width (drop lent_server_address l) ++ r)))
    (ap (λ (r : List ℕ). kinds_lent l ++ r) (sym (drop-drop most_owed lent_kinds l)) ∙ take-append-drop most_owed (drop lent_kinds l))
    ∙ (ap (λ (r : List ℕ). take ipv6_width l ++ (take ipv4_width (drop lent_mapped l) ++ r))
    (ap (λ (r : List ℕ). take ipv4_width (drop lent_server_address l) ++ r) (sym (drop-drop ipv4_width lent_server_address l)) ∙ take-append-drop ipv4_width (drop lent_server_address l))
    ∙ (ap (λ (r : List ℕ). take ipv6_width l ++ r)
    (ap (λ (r : List ℕ). take ipv4_width (drop lent_mapped l) ++ r) (sym (drop-drop ipv4_width lent_mapped l)) ∙ take-append-drop ipv4_width (drop lent_mapped l))
    ∙ take-append-drop lent_mapped l)))

-- ---- what an arrival leaves

-- of an outcome o: what is told, the image and the two buffers
abbrev pub Left : Outcome → Told → List ℕ → List ℕ → List ℕ → List ℕ → List ℕ → List ℕ → Type 0
Left o r image image' out out' other other' =
    (Tells r o.called × (image' ≡ image_after image o.called)) × ((out' ≡ server_after o out) × (other' ≡ client_after o other))

module _ (image octets out other : List ℕ) (d : ℕ) (side : Side) (same : side ≡ side_of d) (room : image_size ≤ length image)
    (free : refusal_of (fields_in image) d ≡ None) where
  abbrev s : Session
  s = fields_in image

  abbrev whole : Took
  whole = takes s.fixed side (state_of s) octets (length out) (length other)

  pub lent-all : (supported strict : Bool) (c : Control) → supported ≡ is_set image supported_at → strict ≡ is_set image strict_at → c ≡ control_in image
      → took_in supported strict side c (lent image room) octets (length out) (length other) ≡ whole
  unfolding fields_in
  lent-all supported strict c es et ec =
      let k = countable s d free in
      (λ i. took_in (es i) (et i) side (ec i) (lent image room) octets (length out) (length other))
      ∙ (took-all s.fixed.supported s.fixed.strict side s.control (lent image room) octets (length out) (length other)
      (counts-holdable s.control k.owed k.command k.reply) (lent-size image room)
      ∙ (λ i. takes (fixed-lies image room s.fixed.supported s.fixed.strict i) side (state-lies image room s.control i) octets (length out) (length other)))

  -- t is what `take` returned, and arrays what was lent then
  module _ (took : Took) (all : took ≡ whole) (t : Taken) (arrays out' other' : List ℕ)
      (given : Given took out other t.answer t.taken (core_lent t.control arrays out' other' t.written))
      (addresses : addresses_lent arrays ≡ addresses_lent (lent image room)) (size : length arrays ≡ lent_size) where
    abbrev next : Session
    next = session_after s side t.taken t.written.server t.written.client (state_lent t.control arrays)

    abbrev called : Called
    called = record { answer = t.answer; taken = t.taken; written = t.written; session = next }

    abbrev o : Outcome
    o = arrived s d octets (length out) (length other)

    promised : Promised o called out other out' other'
    promised = arrives s d octets out other side same free all given.0.0 given.0.1 given.1 refl

    below : leb 3 (answer_number o.called.answer) ≡ false
    below =
        ap (λ (k : Called). leb 3 (answer_number k.answer)) (sym promised.0)
        ∙ (ap (λ (a : Answer). leb 3 (answer_number a)) (given.0.0 ∙ ap (λ (x : Took). x.answer) all)
        ∙ takes-below s.fixed side (state_of s) octets (length out) (length other))

    -- what is written back makes the image of the next record
    module _ (ok : is_image image ≡ true) (up down up' down' : Counts) (eu : up ≡ counts_at image up_taken_at) (ed : down ≡ counts_at image down_taken_at)
        (eu' : up' ≡ counted up (taken_for client side t.taken) t.written.server)
        (ed' : down' ≡ counted down (taken_for server side t.taken) t.written.client) where
      abbrev fixed : List ℕ
      fixed = mark_of (is_set image live_at) ∷ mark_of (is_set image supported_at) ∷ mark_of (is_set image strict_at) ∷ []

      abbrev marks : List ℕ
      marks = marks_from (is_set image live_at) (is_set image supported_at) (is_set image strict_at) t.control

      abbrev numbers : List ℕ
      numbers = numbers_from t.control up' down'

      next-image : (marks ++ numbers) ++ arrays ≡ image_of next
      unfolding image_of marks_of numbers_of arrays_of session_after fields_in
      next-image =
          let u : up' ≡ counted (counts_at image up_taken_at) (taken_for client side t.taken) t.written.server =
          eu' ∙ ap (λ (k : Counts). counted k (taken_for client side t.taken) t.written.server) eu in
          let v : down' ≡ counted (counts_at image down_taken_at) (taken_for server side t.taken) t.written.client =
          ed' ∙ ap (λ (k : Counts). counted k (taken_for server side t.taken) t.written.client) ed in
          let kept = fixed_same arrays size (lent image room) (lent-size image room) addresses true true ∙ fixed-lies image room true true in
          let same : arrays ≡ part image client_at ipv6_width ++ (part image mapped_at ipv4_width ++ (part image server_at ipv4_width ++ (kinds_lent arrays ++ (command_in (lines_lent arrays) ++ reply_in (lines_lent arrays))))) =
          sym (arrays-lent arrays) ∙ (λ i. (kept i).client ++ ((kept i).mapped ++ ((kept i).server ++ (kinds_lent arrays ++ (command_in (lines_lent arrays) ++ reply_in (lines_lent arrays)))))) in
          append_assoc marks numbers arrays
          ∙ (λ i. marks ++ (numbers_from t.control (u i) (v i) ++ same i))

      -- the three marks that stay lie before what is written
      all-marks : put_at (put_mid client_at lent_size image arrays) epsv_at (marks_in t.control ++ numbers) ≡ put_at (put_mid client_at lent_size image arrays) 0 (marks ++ numbers)
      all-marks =
          let head = length-take-le client_at image (omega arith) in
          let front = front_length (is_set image live_at) (is_set image supported_at) (is_set image strict_at) t.control up' down' in
          let long = same_len_mid client_at lent_size image arrays (size ∙ sym (lent-size image room)) in
          let stay = fixed-marks image ok
          ∙ sym (take-append-le epsv_at (take client_at image) (arrays ++ post_of client_at lent_size image) (omega arith) ∙ take-take epsv_at client_at image (omega arith)) in
          rest_put (put_mid client_at lent_size image arrays) fixed (marks_in t.control ++ numbers) (omega arith) stay

      pub left : (image' : List ℕ) → image' ≡ put_at (put_mid client_at lent_size image arrays) epsv_at (marks_in t.control ++ numbers)
          → Left o (record { answer = t.answer; taken = t.taken; written = t.written }) image image' out out' other other'
      unfolding server_after client_after image_after choose
      left image' e =
          let p = promised.0 in
          let front = front_length (is_set image live_at) (is_set image supported_at) (is_set image strict_at) t.control up' down' in
          let back = e ∙ (all-marks ∙ (patched image arrays (marks ++ numbers) room size front ∙ ap (put_at image 0) next-image)) in (
            (
              record { answer = ap (λ (k : Called). k.answer) p; taken = ap (λ (k : Called). k.taken) p; written = ap (λ (k : Called). k.written) p },
              back ∙ (ap (λ (k : Called). put_at image 0 (image_of k.session)) p ∙ sym (rw below)),
            ),
            promised.1,
          )

-- ---- a refusal

-- "With 3, 4 and 6 nothing is written and the record comes back equal"
refused-below : (d : ℕ) (sound ended : Bool) (a : Answer) → refusal d sound ended ≡ Some a → leb 3 (answer_number a) ≡ true
refused-below d sound ended a =
    refusal-cases (λ (o : Option Answer). o ≡ Some a → leb 3 (answer_number a) ≡ true) d sound ended
    (λ t q. ap told (sym q)) (λ t u q. ap told (sym q)) (λ t u v q. ap told (sym q)) (λ t u v q. cc)
  where
    told : Option Answer → Bool
    told None = false
    told (Some b) = leb 3 (answer_number b)

-- what code tells of it
abbrev pub ToldOnly : Told → Answer → Type 0
ToldOnly r a = r ≡ record { answer = a; taken = 0; written = record { server = 0; client = 0 } }

module _ (image out other : List ℕ) (d : ℕ) {q : Option Answer} {a : Answer} {r : Told} (p : q ≡ refusal_of (session_of image) d) (e : q ≡ Some a)
    (told : ToldOnly r a) where
  -- the call w is refused before it is made
  turned-away : (w : Outcome) → Left (unless_refused (refusal_of (session_of image) d) (session_of image) w) r image image out out other other
  unfolding unless_refused refused image_after server_after client_after choose refusal_of
  turned-away w =
      let by = sym p ∙ e in
      rw (by, told) ((record { answer = refl; taken = refl; written = refl }, rw (refused-below d _ _ a by)), (refl, refl))

  pub arrival-refused : (octets : List ℕ) → Left (arrived_on image d octets out other) r image image out out other other
  unfolding arrived_on arrived
  arrival-refused octets = turned-away _

  pub end_refused : Left (ended_on image d out other) r image image out out other other
  unfolding ended_on end_called
  end_refused = turned-away _

-- ---- memory whose record refuses nothing is an image

dead-refuses : (d : ℕ) → refusal_of dead_session d ≡ None → false ≡ true
unfolding refusal_of sound sound_record dead_session
dead-refuses d =
    refusal-cases (λ (o : Option Answer). o ≡ None → false ≡ true) d false _ (λ t q. cc) (λ t u q. cc) (λ t u v q. u) (λ t u v q. u)

module _ (image : List ℕ) (d : ℕ) (free : refusal_of (session_of image) d ≡ None) where
  by-test : (b : Bool) → b ≡ is_image image → not b ≡ false
  by-test true e = refl
  by-test false e = absurd (false≢true (dead-refuses d (ap (λ (s : Session). refusal_of s d) (no-image image e refl) ∙ free)))

  pub free-image : is_image image ≡ true
  free-image = not-false (is_image image) (by-test (is_image image) refl)

  pub free-size : image_size ≤ length image
  free-size = image-size image {b = is_image image} refl (by-test (is_image image) refl)

  pub free-fields : fields_in image ≡ session_of image
  free-fields = is-image image {b = is_image image} refl (by-test (is_image image) refl)

  -- and its counts are some that the arrays can hold
  pub free-counts : {c : Control} → c ≡ control_in image → Counted c
  unfolding fields_in
  free-counts e =
      let k = countable (fields_in image) d (subst (λ (s : Session). refusal_of s d ≡ None) (sym free-fields) free) in
      subst Counted (sym e) (record { owed = k.owed; command = k.command; reply = k.reply })
