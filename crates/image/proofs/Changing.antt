-- Fields of an image changed where they lie.
use Rattle.std.proofs.Common.{◌≡◌, ℕ, ◌+◌, ◌%◌, ◌^◌, ◌<◌, ◌≤◌, true, List, [], ◌∷◌, ◌++◌, length, get_or, take, drop, set, sym, ap, ◌∙◌, append_assoc, arith, length-append, length-set}
use lib.Seq.{take-append-le, drop-append-le}
use Rattle.rules.specs.Octets.{choose}
use Rattle.rules.specs.Answers.{Side, client, server, wrapped}
use Rattle.records.specs.Layout.{opening_at, server_held_at, up_taken_at, up_written_at, down_taken_at, down_written_at, image_size}
use Rattle.output.specs.Buffer.{put_at}
use Rattle.output.proofs.Placing.{put-fits, length-put, one-put}
use Rattle.output.proofs.Front.{front-put}
use Rattle.session.specs.Calls.{end_step, session_after}
use Rattle.image.specs.Image.{four_octets, capped, marks_of, numbers_of, arrays_of, image_of, count_at, counts_at, control_in, fields_in, is_image}
use Rattle.image.specs.Lent.{ended_with, place_at, telnet_at, held_at, written_at}
use Rattle.image.proofs.Again.{image-long, fields-size, lies, count_kept}

-- ---- a text with a part changed

-- x takes the place of as many octets at i
abbrev over : List ℕ → ℕ → List ℕ → List ℕ
over t i x = take i t ++ (x ++ drop (i + length x) t)

over-length : (t : List ℕ) (i : ℕ) (x : List ℕ) → i + length x ≤ length t → length (over t i x) ≡ length t
over-length t i x h = ap length (sym (put-fits t i x h)) ∙ length-put t i x h

-- a text at the front of memory changes with the memory
over-front : (l t : List ℕ) (i : ℕ) (x : List ℕ) → length t ≤ length l → i + length x ≤ length t
    → put_at (put_at l 0 t) i x ≡ put_at l 0 (over t i x)
over-front l t i x room there =
    let rest = drop (length t) l in
    let size = over-length t i x there in
    let long = length-append t rest in
    ap (λ (m : List ℕ). put_at m i x) (front-put l t room)
    ∙ (put-fits (t ++ rest) i x (omega arith)
    ∙ (rw (take-append-le i t rest (omega arith), drop-append-le (i + length x) t rest there)
    (simp append_assoc)
    ∙ (ap (λ (n : ℕ). over t i x ++ drop n l) (sym size) ∙ sym (front-put l (over t i x) (omega arith)))))

-- memory l' is l with a text as long as an image at its front
record Fronted (l l' t : List ℕ) : Type 0 where
  here : l' ≡ put_at l 0 t
  size : length t ≡ image_size

stored : (l : List ℕ) → image_size ≤ length l → {l' t : List ℕ} → Fronted l l' t → (i : ℕ) (x : List ℕ) → i + length x ≤ image_size
    → Fronted l (put_at l' i x) (over t i x)
stored l room {l'} {t} f i x there =
    let size = f.size in
    record {
      here = ap (λ (m : List ℕ). put_at m i x) f.here ∙ over-front l t i x (omega arith) (omega arith);
      size = over-length t i x (omega arith) ∙ size;
    }

-- ---- the four fields that an end changes

-- they lie among the marks and numbers
pub fields-low : (d : Side) → (place_at d < opening_at) × (telnet_at d < opening_at) × (held_at d ≤ server_held_at) × (written_at d ≤ down_written_at)
fields-low client = (omega arith, omega arith, omega arith, omega arith)
fields-low server = (omega arith, omega arith, omega arith, omega arith)

module _ (image : List ℕ) (ok : is_image image ≡ true) (octets : (i : ℕ) → get_or image i 0 < 256) where
  -- in the image of its record
  end-over : (d : Side) (n : ℕ)
      → over (over (over (over (image_of (fields_in image)) (place_at d) (3 ∷ [])) (telnet_at d) (0 ∷ [])) (held_at d) (four_octets 0)) (written_at d) (four_octets (wrapped (count_at image (written_at d) + n)))
      ≡ image_of (ended_with (fields_in image) d n)
  unfolding image_of marks_of numbers_of arrays_of four_octets capped choose fields_in control_in counts_at session_after end_step
  end-over client n = rw (count_kept image ok octets up_taken_at, count_kept image ok octets down_taken_at, count_kept image ok octets down_written_at)
  end-over server n = rw (count_kept image ok octets up_taken_at, count_kept image ok octets up_written_at, count_kept image ok octets down_taken_at)

  -- and in memory, where the code stores them
  pub end-stored : (d : Side) (n : ℕ) {place mark count sum before more : ℕ} {counted summed : List ℕ} → place ≡ place_at d → mark ≡ telnet_at d
      → count ≡ held_at d → sum ≡ written_at d → before ≡ count_at image sum → more ≡ (before + n) % 2 ^ 32
      → counted ≡ put_at (set (set image place 3) mark 0) count (four_octets 0) → summed ≡ put_at counted sum (four_octets more)
      → summed ≡ put_at image 0 (image_of (ended_with (fields_in image) d n))
  unfolding wrapped four_octets
  end-stored d n {place} {mark} ep et ec es eb em put put' =
      let long = image-long image ok in
      let low = fields-low d in
      let ended = one-put image place 3 (omega arith) ∙ ap (λ (p : ℕ). put_at image p (3 ∷ [])) ep in
      let clear = one-put (set image place 3) mark 0 (omega (arith, length-set image place 3)) ∙ (λ i. put_at (ended i) (et i) (0 ∷ [])) in
      let number = em ∙ ap (λ (b : ℕ). wrapped (b + n)) (eb ∙ ap (count_at image) es) in
      let first : Fronted image image (image_of (fields_in image)) = record { here = sym (lies image ok octets); size = fields-size image ok octets } in
      let placed = stored image long first (place_at d) (3 ∷ []) (omega arith) in
      let marked = stored image long placed (telnet_at d) (0 ∷ []) (omega arith) in
      let emptied = stored image long marked (held_at d) (four_octets 0) (omega arith) in
      let done = stored image long emptied (written_at d) (four_octets (wrapped (count_at image (written_at d) + n))) (omega arith) in
      put'
      ∙ ((λ i. put_at ((put ∙ (λ j. put_at (clear j) (ec j) (four_octets 0))) i) (es i) (four_octets (number i)))
      ∙ (done.here ∙ ap (put_at image 0) (end-over d n)))
