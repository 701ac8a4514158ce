-- The calls of a host in C, from what the session and the image promise.
use Rattle.std.specs.Prelude.{Option, None}
use mathlib.Core.Path.{◌≡◌, refl, ap, sym, ◌∙◌}
use mathlib.Core.Bool.{Bool, true, false}
use mathlib.Core.List.{List}
use Prim.Native.Nat.{ℕ, zero, suc, ◌≤◌, ◌<◌}
use native.Mathlib.Omega.{arith}
use lib.Dec.{leb, lit≤}
use lib.ListN.{length}
use borrow.Author.Tests.{le-leb, lt-leb, leb-true}
use Rattle.rules.specs.Octets.{choose}
use Rattle.rules.specs.Answers.{answer_number, refusal}
use Rattle.rules.specs.declared.Answer.{Answer}
use Rattle.records.specs.Layout.{image_size}
use Rattle.output.specs.Buffer.{put_at}
use Rattle.session.specs.declared.Called.{Called}
use Rattle.setups.specs.declared.Prepared.{Prepared}
use Rattle.records.specs.declared.Session.{Session}
use Rattle.records.specs.Sound.{refusal_of}
use Rattle.counts.specs.Counts.{offset}
use Rattle.session.specs.Calls.{Outcome, refused, unless_refused, arrived, end_called}
use Rattle.image.specs.Image.{image_of, session_of}
use Rattle.image.specs.declared.arrival.Told.{Told}
use Rattle.image.specs.Lent.{arrived_on, ended_on, image_after, server_after, client_after}
use Rattle.image.proofs.Arrivals.{Left}
use Rattle.fashlemor.specs.Host.{setup_number, counts_from, counts_of, narrow, offset_number, offset_after}

-- ---- setup

module _ (image : List ℕ) (p : Prepared) {n : ℕ} where
  pub no_room : length image < image_size → n ≡ answer_number Answer.BadSetup → n ≡ setup_number image p
  unfolding setup_number choose
  no_room h e = rw (lt-leb image_size (length image) h) e

  pub room : image_size ≤ length image → n ≡ answer_number p.answer → n ≡ setup_number image p
  unfolding setup_number choose
  room h e = rw (le-leb image_size (length image) h) e

-- the same of the setup that was asked for
pub setup-told : (image : List ℕ) {p q : Prepared} {n : ℕ} {image' : List ℕ} → p ≡ q → n ≡ setup_number image p → image' ≡ put_at image 0 (image_of p.session)
    → (n ≡ setup_number image q) × (image' ≡ put_at image 0 (image_of q.session))
setup-told image e number put =
    (number ∙ ap (setup_number image) e, put ∙ ap (λ (x : Prepared). put_at image 0 (image_of x.session)) e)

-- ---- the image after a call

module _ (image : List ℕ) (k : Called) {n : ℕ} (number : n ≡ answer_number k.answer) where
  pub kept : 3 ≤ n → image ≡ image_after image k
  unfolding image_after choose
  kept h = rw (le-leb 3 (answer_number k.answer) (omega arith))

  pub written_back : n < 3 → put_at image 0 (image_of k.session) ≡ image_after image k
  unfolding image_after choose
  written_back h = rw (lt-leb 3 (answer_number k.answer) (omega arith))

-- ---- a direction wider than an octet

-- a number for a direction, large or small
pub narrow-large : (d : ℕ) → 2 ≤ d → 2 ≡ narrow d
unfolding narrow choose
narrow-large d h = rw (le-leb 2 d h)

pub narrow-small : (d : ℕ) → d < 2 → d ≡ narrow d
unfolding narrow choose
narrow-small d h = rw (lt-leb 2 d h)

-- where all directions that there are not are alike, narrowing changes nothing
module _ {A : Type 0} (f : ℕ → A) (unknown : A) (alike : (d : ℕ) → 2 ≤ d → f d ≡ unknown) where
  narrow-same : (d : ℕ) {n : ℕ} → n ≡ narrow d → f n ≡ f d
  unfolding narrow choose
  narrow-same d e = ap f e ∙ by-test (leb 2 d) refl
    where
      by-test : (b : Bool) → leb 2 d ≡ b → f (choose b 2 d) ≡ f d
      by-test true e = alike 2 (lit≤ tt) ∙ sym (alike d (leb-true 2 d e))
      by-test false e = refl

-- they are, for an arrival, an end and an offset
module _ (image : List ℕ) where
  pub narrow-arrived : (d : ℕ) (octets out back : List ℕ) {n : ℕ} → n ≡ narrow d → arrived_on image n octets out back ≡ arrived_on image d octets out back
  unfolding arrived_on arrived unless_refused refusal_of refusal choose
  narrow-arrived d octets out back e = narrow-same (λ n. arrived_on image n octets out back) (refused Answer.UnknownDirection (session_of image)) alike d e
    where
      alike : (n : ℕ) → 2 ≤ n → arrived_on image n octets out back ≡ refused Answer.UnknownDirection (session_of image)
      alike n h = rw (le-leb 2 n h)

  pub narrow-ended : (d : ℕ) (out back : List ℕ) {n : ℕ} → n ≡ narrow d → ended_on image n out back ≡ ended_on image d out back
  unfolding ended_on end_called unless_refused refusal_of refusal choose
  narrow-ended d out back e = narrow-same (λ n. ended_on image n out back) (refused Answer.UnknownDirection (session_of image)) alike d e
    where
      alike : (n : ℕ) → 2 ≤ n → ended_on image n out back ≡ refused Answer.UnknownDirection (session_of image)
      alike n h = rw (le-leb 2 n h)

narrow-offset : (s : Session) (d : ℕ) {n : ℕ} → n ≡ narrow d → offset s n ≡ offset s d
unfolding offset
narrow-offset s d e = narrow-same (offset s) None alike d e
  where
    alike : (n : ℕ) → 2 ≤ n → offset s n ≡ None
    alike zero h = absurd (omega arith)
    alike (suc zero) h = absurd (omega arith)
    alike (suc (suc n)) h = refl

-- ---- an arrival or an end

-- what C is told, from what a call on the narrowed direction left
pub all_told : (image out back : List ℕ) {o p : Outcome} → o ≡ p → (r : Told) {n : ℕ} {counts image' out' back' : List ℕ}
    → Left o r image image' out out' back back' → n ≡ answer_number r.answer → counts ≡ counts_from r.taken r.written
    → ((n ≡ answer_number p.called.answer) × (counts ≡ counts_of p.called))
    × ((image' ≡ image_after image p.called) × ((out' ≡ server_after p out) × (back' ≡ client_after p back)))
unfolding counts_of
all_told image out back same r ((t, memory), buffers) number counted =
    rw (← same) ((number ∙ ap answer_number t.answer, counted ∙ (λ i. counts_from (t.taken i) (t.written i))), (memory, buffers))

-- ---- offset

pub offset-told : (image : List ℕ) (direction old : ℕ) {s : Session} {narrowed : ℕ} {x y : Option ℕ} {n out : ℕ} → s ≡ session_of image
    → narrowed ≡ narrow direction → x ≡ offset s narrowed → x ≡ y → n ≡ offset_number y → out ≡ offset_after y old
    → (n ≡ offset_number (offset (session_of image) direction)) × (out ≡ offset_after (offset (session_of image) direction) old)
offset-told image direction old {narrowed = narrowed} {y = y} e w p q number after =
    let same : y ≡ offset (session_of image) direction = sym q ∙ (p ∙ (ap (λ (r : Session). offset r narrowed) e ∙ narrow-offset (session_of image) direction w)) in
    (number ∙ ap offset_number same, after ∙ ap (λ (z : Option ℕ). offset_after z old) same)
