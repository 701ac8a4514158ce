-- An end on an image, from what the functions that it calls return.
use Rattle.std.proofs.Common.{◌≡◌, ℕ, ◌+◌, ◌-◌, ◌*◌, ◌^◌, ◌<◌, ◌≤◌, true, List, length, get_or, take, drop, sym, refl, ap, ◌∙◌, subst, arith, length-drop, length-take-le, take-take}
use Rattle.std.specs.Prelude.{None}
use Rattle.rules.specs.Octets.{choose}
use Rattle.rules.specs.Answers.{Side, client, server}
use Rattle.rules.specs.declared.Answer.{Answer}
use Rattle.rules.specs.Lines.{most_held, passed}
use Rattle.records.specs.Layout.{reply_at}
use Rattle.octets.proofs.Passed.{passed-most}
use Rattle.output.specs.Buffer.{put_at}
use Rattle.output.proofs.Placing.{Wrote}
use Rattle.records.specs.declared.Control.{Control}
use Rattle.records.specs.declared.Session.{Session}
use Rattle.records.specs.Sound.{direction_of, refusal_of, Counted}
use Rattle.records.specs.Controls.{unfinished_of}
use Rattle.steps.specs.declared.Written.{Written}
use Rattle.steps.specs.Steps.{held_of}
use Rattle.session.specs.declared.Called.{Called}
use Rattle.counts.specs.Counts.{written_from}
use Rattle.session.specs.Calls.{Outcome, state_of, session_after, refused, end_step, held_end, buffer_after, end_called}
use Rattle.session.proofs.Outcomes.{no_room, let-go, passed_on, untouched, client-ends, server-ends}
use Rattle.image.specs.declared.arrival.Told.{Told}
use Rattle.image.specs.Image.{image_of, part, control_in, fields_in, is_image, session_of}
use Rattle.image.specs.Lent.{ended_with, line_at, image_after, server_after, client_after, Tells}
use Rattle.image.proofs.Again.{image-long, lies}
use Rattle.image.proofs.Arrivals.{Left, ToldOnly, free-fields}

-- ---- the sides

-- a side's octets are held in no more than its line
few : (d : Side) {c : Control} → Counted c → (direction_of d c).held ≤ most_held
few client k = k.command
few server k = k.reply

-- where a line lies is in an image
pub line_low : (d : Side) {at : ℕ} → at ≡ line_at d → at ≤ reply_at
line_low client e = omega arith
line_low server e = omega arith

pub held_low : (image : List ℕ) (d : Side) {h : ℕ} → Counted (control_in image) → h ≡ (direction_of d (control_in image)).held → h ≤ most_held
held_low image d k e = let low = few d k in omega arith

-- ---- what an end leaves

-- of an outcome o on the side d: what is told, the image and the side's buffer
abbrev pub LeftOne : Side → Outcome → Told → List ℕ → List ℕ → List ℕ → List ℕ → Type 0
LeftOne d o r image image' out out' =
    (Tells r o.called × (image' ≡ image_after image o.called)) × (out' ≡ buffer_after d o out)

-- h octets are held from `at` on, and b has come of a Telnet command
module _ (image out : List ℕ) (ok : is_image image ≡ true) (d : Side) {h at : ℕ} (eh : h ≡ (direction_of d (control_in image)).held)
    (k : Counted (control_in image)) (ea : at ≡ line_at d) where
  abbrev s : Session
  s = fields_in image

  -- the held octets as the code reads them
  abbrev read : List ℕ
  read = part image at (at + h - at)

  held-part : (e : Side) → take (direction_of e (control_in image)).held (part image (line_at e) most_held) ≡ held_of e (state_of s)
  unfolding fields_in
  held-part client = refl
  held-part server = refl

  read_is : read ≡ held_of d (state_of s)
  read_is =
      let size : at + h - at ≡ (direction_of d (control_in image)).held = omega (arith, eh) in
      (λ i. take (size i) (drop (ea i) image)) ∙ (sym (take-take _ most_held (drop (line_at d) image) (few d k)) ∙ held-part d)

  passed_is : passed read ≡ passed (held_of d (state_of s))
  passed_is = ap passed read_is

  -- they give at most twice as many
  pub passed-few : length (passed read) ≤ 2 * most_held
  passed-few =
      let low = held_low image d k eh in
      let first = line_low d ea in
      let long = image-long image ok in
      omega (arith, passed-most read, length-take-le (at + h - at) (drop at image) (omega (arith, length-drop at image)))

  module _ {b : List ℕ} (eb : b ≡ unfinished_of d (control_in image)) {m n : ℕ} (em : m ≡ length (passed read)) (en : n ≡ length b) where
    unfinished-is : b ≡ unfinished_of d s.control
    unfolding fields_in
    unfinished-is = eb

    -- where they have no room
    pub no-room-left : ((i : ℕ) → get_or image i 0 < 256) → length out < m + n → {r : Told} → ToldOnly r Answer.NoRoom
        → LeftOne d (held_end s d (length out)) r image image out out
    unfolding refused image_after choose
    no-room-left octets less {r} e =
        let left = no_room s d out passed_is unfinished-is em en less refl in (
          subst (λ (x : Called). Tells r x × (image ≡ image_after image x)) left.0
              (rw e (record { answer = refl; taken = refl; written = refl }), sym (lies image ok octets)),
          left.1,
        )

    -- where they have room, and were put behind each other
    module _ (fit : m + n ≤ length out) {next w : ℕ} {after out' : List ℕ} (one : Wrote out 0 (passed read) next after) (two : Wrote after next b w out') where
      pub few-put : n ≤ 2 → w < 2 ^ 32
      few-put little = omega (arith, passed-few, let-go s d out passed_is unfinished-is em en fit one two)

      pub ended-left : {image' : List ℕ} {told : Written} → told ≡ written_from d w → image' ≡ put_at image 0 (image_of (ended_with s d w))
          → LeftOne d (held_end s d (length out)) (record { answer = Answer.Done; taken = 0; written = told }) image image' out out'
      unfolding image_after choose
      ended-left {image'} {told} ew put =
          let then : Written → Session = λ x. session_after s d 0 x.server x.client (end_step d (state_of s)).state in
          let left = passed_on s d out passed_is unfinished-is em en fit one two ew refl in (
            subst (λ (x : Called). Tells (record { answer = Answer.Done; taken = 0; written = told }) x × (image' ≡ image_after image x)) left.0
                (record { answer = refl; taken = refl; written = refl }, put ∙ ap (λ (x : Written). put_at image 0 (image_of (then x))) (sym ew)),
            left.1,
          )

-- ---- an end of a direction by its number

module _ (image out other : List ℕ) (d : ℕ) (free : refusal_of (session_of image) d ≡ None) where
  abbrev fields : Session
  fields = fields_in image

  same : fields ≡ session_of image
  same = free-fields image d free

  -- the record's end is that of the fields
  of_fields : {o : Outcome} → end_called fields d (length out) (length other) ≡ o → o ≡ end_called (session_of image) d (length out) (length other)
  of_fields e = sym e ∙ ap (λ (x : Session). end_called x d (length out) (length other)) same

  fields_free : refusal_of fields d ≡ None
  fields_free = subst (λ (x : Session). refusal_of x d ≡ None) (sym same) free

  module _ {r : Told} {image' changed : List ℕ} where
    pub client-left : d ≡ 0 → LeftOne client (held_end fields client (length out)) r image image' out changed
        → Left (end_called (session_of image) d (length out) (length other)) r image image' out changed other other
    unfolding held_end server_after client_after
    client-left z p =
        subst (λ (o : Outcome). Left o r image image' out changed other other) (of_fields (client-ends fields d out other fields_free z))
        (p.0, (p.1, (untouched fields _ other).0))

    pub server-left : (d ≡ 0 → ⊥) → LeftOne server (held_end fields server (length other)) r image image' other changed
        → Left (end_called (session_of image) d (length out) (length other)) r image image' out out other changed
    unfolding held_end server_after client_after
    server-left z p =
        subst (λ (o : Outcome). Left o r image image' out out other changed) (of_fields (server-ends fields d out other fields_free z))
        (p.0, ((untouched fields _ out).1, p.1))
