-- What refuses a call, test by test, and what holds of a record that is not refused.
use mathlib.Core.Path.{◌≡◌, refl, sym, ◌∙◌}
use mathlib.Core.Bool.{Bool, true, false, ◌&&◌, not, false≢true}
use Rattle.std.specs.Prelude.{Option, None, Some}
use Prim.Native.Nat.{ℕ, ◌<◌, ◌≤◌}
use native.Mathlib.Omega.{arith}
use lib.Dec.{leb}
use borrow.Author.Tests.{le-leb, lt-leb, leb-true, eqb-true, not-true, not-false}
use Rattle.rules.specs.Octets.{choose}
use Rattle.rules.specs.Lines.{judged, most_held}
use Rattle.rules.specs.Answers.{most_owed, sound_held, sound_record, refusal}
use Rattle.rules.specs.declared.Answer.{Answer}
use Rattle.octets.proofs.Ranges.{and_both}
use Rattle.places.specs.declared.Place.{Place}
use Rattle.places.specs.declared.Direction.{Direction}
use Rattle.records.specs.declared.Session.{Session}
use Rattle.places.specs.Places.{is_holding}
use Rattle.records.specs.Sound.{sound_direction, sound, refusal_of}

-- "Order: 3, 4, 6": each case knows that those before it are not so
module _ (P : Option Answer → Type 0) where
  pub refusal-cases : (d : ℕ) (sound ended : Bool) → (leb 2 d ≡ true → P (Some Answer.UnknownDirection))
      → (leb 2 d ≡ false → sound ≡ false → P (Some Answer.BadRecord))
      → (leb 2 d ≡ false → sound ≡ true → ended ≡ true → P (Some Answer.DirectionEnded))
      → (leb 2 d ≡ false → sound ≡ true → ended ≡ false → P None) → P (refusal d sound ended)
  unfolding refusal choose
  refusal-cases d sound ended three four six free = by_tests (leb 2 d) sound ended three four six free
    where
      by_tests : (t s e : Bool) → (t ≡ true → P (Some Answer.UnknownDirection)) → (t ≡ false → s ≡ false → P (Some Answer.BadRecord))
          → (t ≡ false → s ≡ true → e ≡ true → P (Some Answer.DirectionEnded)) → (t ≡ false → s ≡ true → e ≡ false → P None)
          → P (choose t (Some Answer.UnknownDirection) (choose (not s) (Some Answer.BadRecord) (choose e (Some Answer.DirectionEnded) None)))
      by_tests true s e p q r u = p refl
      by_tests false false e p q r u = q refl refl
      by_tests false true true p q r u = r refl refl refl
      by_tests false true false p q r u = u refl refl refl

-- a place by its test
pub place-holding : (p : Place) → is_holding p ≡ true → p ≡ Place.Holding
place-holding Place.Holding e = refl
place-holding Place.Flowing e = absurd (false≢true e)
place-holding Place.Passing e = absurd (false≢true e)
place-holding Place.Ended e = absurd (false≢true e)

-- where nothing is held, it does not matter
pub none-held : (d : Direction) → d.held ≡ 0 → true ≡ sound_direction d
unfolding sound_direction sound_held choose judged
none-held d e = either (is_holding d.place)
  where
    either : (b : Bool) → true ≡ sound_held b d.held
    either true = sym (le-leb d.held most_held (omega arith))
    either false = rw e

-- the three refusals, in order
module _ (d : ℕ) (s e : Bool) where
  pub unknown : 2 ≤ d → Some Answer.UnknownDirection ≡ refusal d s e
  unfolding refusal choose
  unknown h = rw (le-leb 2 d h)

  pub unsound : d < 2 → {s' : Bool} → s' ≡ s → not s' ≡ true → Some Answer.BadRecord ≡ refusal d s e
  unfolding refusal choose
  unsound h p f = rw (lt-leb 2 d h, sym p ∙ not-true _ f)

  pub over : d < 2 → {s' : Bool} → s' ≡ s → not s' ≡ false → e ≡ true → Some Answer.DirectionEnded ≡ refusal d s e
  unfolding refusal choose
  over h p f g = rw (lt-leb 2 d h, sym p ∙ not-false _ f, g)

  pub taken : d < 2 → {s' : Bool} → s' ≡ s → not s' ≡ false → e ≡ false → None ≡ refusal d s e
  unfolding refusal choose
  taken h p f g = rw (lt-leb 2 d h, sym p ∙ not-false _ f, g)

-- what is no answer refuses nothing
pub otherwise : (r : Option Answer) → ((a : Answer) → r ≡ Some a → ⊥) → r ≡ None
otherwise (Some a) h = absurd (h a refl)
otherwise None h = refl

-- ---- a record that is not refused

pub record Countable (s : Session) : Type 0 where
  pub owed : s.control.owed ≤ most_owed
  pub command : s.control.client.held ≤ most_held
  pub reply : s.control.server.held ≤ most_held

not-bad : (d : ℕ) (s e : Bool) → refusal d s e ≡ None → s ≡ true
not-bad d s e =
    refusal-cases (λ o. o ≡ None → s ≡ true) d s e (λ t q. cc) (λ t u q. cc) (λ t u v q. cc) (λ t u v q. u)

place-holds : (p : Place) (n : ℕ) → sound_held (is_holding p) n ≡ true → n ≤ most_held
unfolding sound_held choose judged
place-holds Place.Holding n h = leb-true n most_held h
place-holds Place.Flowing n h = omega (arith, eqb-true n 0 h)
place-holds Place.Passing n h = omega (arith, eqb-true n 0 h)
place-holds Place.Ended n h = omega (arith, eqb-true n 0 h)

sound-parts : (live : Bool) (owed : ℕ) (k c s : Bool) → sound_record live owed k c s ≡ true → (owed ≤ most_owed) × (c ≡ true) × (s ≡ true)
unfolding sound_record
sound-parts live owed k c s h =
    let few = leb owed most_owed in
    let a = and_both (live && few && k && c) s h in
    let b = and_both (live && few && k) c a.0 in
    let l = and_both live few (and_both (live && few) k b.0).0 in
    (leb-true owed most_owed l.1, b.1, a.1)

pub sound-countable : (s : Session) → sound s ≡ true → Countable s
unfolding sound sound_direction
sound-countable s h =
    let k = s.control in
    let p = sound-parts _ _ _ _ _ h in
    record {
      owed = p.0;
      command = place-holds k.client.place k.client.held p.1;
      reply = place-holds k.server.place k.server.held p.2;
    }

pub countable : (s : Session) (d : ℕ) → refusal_of s d ≡ None → Countable s
unfolding refusal_of
countable s d h = sound-countable s (not-bad d _ _ h)
