-- What refuses a call: 3, 4 and 6 as tests and in words.
use mathlib.Core.Path.{◌≡◌, refl, sym, ap, ◌∙◌}
use mathlib.Core.Bool.{Bool, true, false, ◌&&◌, true≢false}
use mathlib.Core.List.{List, [], ◌∷◌}
use mathlib.Core.Logic.{◌↔◌, ◌≢◌, inl, inr}
use Rattle.std.specs.Prelude.{Option, None, Some}
use Prim.Native.Nat.{ℕ, zero, suc, ◌≤◌, ◌<◌}
use native.Mathlib.Omega.{arith}
use lib.Dec.{leb}
use lib.ListN.{take, get_or}
use borrow.Author.Tests.{leb-true, leb-false, le-leb, eqb-true, eq-eqb}
use Rattle.rules.specs.Octets.{choose, every}
use Rattle.rules.specs.Answers.{side_of, most_owed, sound_held, sound_record}
use Rattle.rules.specs.Lines.{most_held}
use Rattle.rules.specs.declared.Answer.{Answer}
use Rattle.rules.specs.declared.Layer.{Layer}
use Rattle.places.specs.declared.Place.{Place}
use Rattle.places.specs.declared.Direction.{Direction}
use Rattle.queue.specs.Kinds.{is_listed}
use Rattle.octets.proofs.Ranges.{and_both}
use Rattle.records.specs.declared.Session.{Session}
use Rattle.places.specs.Places.{is_holding, is_ended}
use Rattle.records.specs.Controls.{with_layers}
use Rattle.records.specs.Sound.{sound_direction, sound, direction_of, refusal_of}
use Rattle.records.proofs.Refusals.{refusal-cases, place-holding}
use Rattle.answers.specs.Table.{Unknown, Known, SoundDirection, Sound, HasEnded}

-- ---- number 4 in words

pub not-holding : (p : Place) → is_holding p ≡ false → p ≢ Place.Holding
not-holding p e q = true≢false (sym (ap is_holding q) ∙ e)

direction-words : (d : Direction) (b : Bool) → is_holding d.place ≡ b → (sound_held b d.held ≡ true) ↔ SoundDirection d
unfolding sound_held choose
direction-words d true p = (
  (λ e. record { most = leb-true d.held most_held e; none = λ q. absurd (q (place-holding d.place p)) }),
  (λ w. le-leb d.held most_held w.most),
)
direction-words d false p = (
  (λ e. let z : d.held ≡ 0 = eqb-true d.held 0 e in record { most = omega arith; none = λ q. z }),
  (λ w. eq-eqb d.held 0 (w.none (not-holding d.place p))),
)

pub listed-each : (n : ℕ) (l : List ℕ) → every is_listed (take n l) ≡ true → (i : ℕ) → i < n → get_or l i 0 ≤ 8
unfolding every is_listed
listed-each zero l e i h = absurd (omega arith)
listed-each (suc n) [] e i h = omega arith
listed-each (suc n) (x ∷ l) e zero h = leb-true x 8 (and_both (is_listed x) (every is_listed (take n l)) e).0
listed-each (suc n) (x ∷ l) e (suc i) h = listed-each n l (and_both (is_listed x) (every is_listed (take n l)) e).1 i (omega arith)

pub each-listed : (n : ℕ) (l : List ℕ) → ((i : ℕ) → i < n → get_or l i 0 ≤ 8) → every is_listed (take n l) ≡ true
unfolding every is_listed
each-listed zero l f = refl
each-listed (suc n) [] f = refl
each-listed (suc n) (x ∷ l) f = rw (le-leb x 8 (f 0 (omega arith))) (each-listed n l (λ i h. f (suc i) (omega arith)))

pub sound-words : (s : Session) → (sound s ≡ true) ↔ Sound s
unfolding sound sound_record sound_direction
sound-words s =
    let c = s.control in
    let client_words = direction-words c.client (is_holding c.client.place) refl in
    let server_words = direction-words c.server (is_holding c.server.place) refl in
    let listed : Bool = every is_listed (take c.owed s.kinds) in
    let client_held : Bool = sound_held (is_holding c.client.place) c.client.held in
    let server_held : Bool = sound_held (is_holding c.server.place) c.server.held in
    let first : Bool = s.live && leb c.owed most_owed in (
      (λ e.
          let held = and_both (first && listed && client_held) server_held e in
          let kinds = and_both (first && listed) client_held held.0 in
          let start = and_both first listed kinds.0 in
          let count = and_both s.live (leb c.owed most_owed) start.0 in
          record {
            live = count.0;
            owed = leb-true c.owed most_owed count.1;
            listed = listed-each c.owed s.kinds start.1;
            client = client_words.0 kinds.1;
            server = server_words.0 held.1;
          }),
      (λ w. all-five w.live (le-leb c.owed most_owed w.owed) (each-listed c.owed s.kinds w.listed) (client_words.1 w.client) (server_words.1 w.server)),
    )
  where
    all-five : {a b c d e : Bool} → a ≡ true → b ≡ true → c ≡ true → d ≡ true → e ≡ true → a && b && c && d && e ≡ true
    all-five p q r t u = rw (p, q, r, t, u)

-- 4 does not look at the Telnet layers: a command that is unfinished, wherever its direction stands, is no reason for it
pub any-layers : (s : Session) (up down : Layer)
    → sound (record { live = s.live; fixed = s.fixed; control = with_layers s.control up down; command = s.command; reply = s.reply; kinds = s.kinds; up = s.up; down = s.down }) ≡ sound s
unfolding sound
any-layers s up down = refl

-- ---- the direction

unknown-words : (d : ℕ) → (2 ≤ d) ↔ Unknown d
unknown-words d = ((λ h. ((λ e. omega arith), (λ e. omega arith))), (λ w. at_least d w))
  where
    at_least : (n : ℕ) → Unknown n → 2 ≤ n
    at_least zero w = absurd (w.0 refl)
    at_least (suc zero) w = absurd (w.1 refl)
    at_least (suc (suc n)) w = omega arith

pub known-words : (d : ℕ) → (d < 2) ↔ Known d
known-words d = ((λ h. below d h), less d)
  where
    below : (n : ℕ) → n < 2 → Known n
    below zero h = inl refl
    below (suc zero) h = inr refl
    below (suc (suc n)) h = absurd (omega arith)

    less : (n : ℕ) → Known n → n < 2
    less n (inl e) = omega arith
    less n (inr e) = omega arith

pub ended-words : (s : Session) (d : ℕ) → (is_ended (direction_of (side_of d) s.control).place ≡ true) ↔ HasEnded s d
ended-words s d = (at (direction_of (side_of d) s.control).place, (λ e. ap is_ended e))
  where
    at : (p : Place) → is_ended p ≡ true → p ≡ Place.Ended
    at Place.Holding e = absurd (true≢false (sym e))
    at Place.Flowing e = absurd (true≢false (sym e))
    at Place.Passing e = absurd (true≢false (sym e))
    at Place.Ended e = refl

-- ---- all that refuses, in the table's order

pub data Refusal (s : Session) (d : ℕ) : Option Answer → Type 0 where
  unknown : Unknown d → Refusal s d (Some Answer.UnknownDirection)
  bad : Known d → (Sound s → ⊥) → Refusal s d (Some Answer.BadRecord)
  over : Known d → Sound s → HasEnded s d → Refusal s d (Some Answer.DirectionEnded)
  accepted : Known d → Sound s → (HasEnded s d → ⊥) → Refusal s d None

pub refusal-of : (s : Session) (d : ℕ) → Refusal s d (refusal_of s d)
unfolding refusal_of
refusal-of s d =
    refusal-cases (Refusal s d) d (sound s) (is_ended (direction_of (side_of d) s.control).place) (λ p. unknown ((unknown-words d).0 (leb-true 2 d p)))
    (λ p q. bad ((known-words d).0 (leb-false 2 d p)) (λ w. true≢false (sym ((sound-words s).1 w) ∙ q)))
    (λ p q r. over ((known-words d).0 (leb-false 2 d p)) ((sound-words s).0 q) ((ended-words s d).0 r))
    (λ p q r. accepted ((known-words d).0 (leb-false 2 d p)) ((sound-words s).0 q) (λ w. true≢false (sym ((ended-words s d).1 w) ∙ r)))
