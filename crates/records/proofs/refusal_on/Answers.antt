-- `records::refusal_on` meets its contract, refusal by refusal.
use mathlib.Core.Bool.{not}
use mathlib.Core.Path.{◌≡◌, sym, ap, ◌∙◌}
use Prim.Native.Nat.{ℕ}
use lib.Dec.{eqb}
use Rattle.rules.specs.Answers.{Side, side_of}
use Rattle.places.specs.declared.Direction.{Direction}
use Rattle.places.specs.Places.{is_ended}
use Rattle.records.specs.declared.Control.{Control}
use Rattle.records.specs.Sound.{direction_of, side_if}
use Rattle.records.proofs.Sides.{side-tested}
use Rattle.records.proofs.Refusals.{unknown, unsound, over, taken}
use Rattle.records.proofs.refusal_on.Goals as goal

-- the direction that the code's test names
side-direction : (c : Control) (d : ℕ) → direction_of (side_if (eqb d 0)) c ≡ direction_of (side_of d) c
side-direction c d = ap (λ (s : Side). direction_of s c) (side-tested d)

pub returns-then-direction-ge2 : goal.returns-then-direction-ge2
returns-then-direction-ge2 c = unknown c.args.direction _ _ c.if-direction-ge2.true

pub returns-then-not-sound : goal.returns-then-not-sound
returns-then-not-sound c = unsound _ _ _ c.if-direction-ge2.false c.sound.ensures (ap not c.if-not-sound.true)

pub returns-then-has_ended : goal.returns-then-has_ended
returns-then-has_ended c = over _ _ _ c.if-direction-ge2.false c.sound.ensures (ap not c.if-not-sound.false)
    (sym (ap (λ (d : Direction). is_ended d.place) (c.direction_of.ensures ∙ side-direction c.args.control c.args.direction)) ∙ sym c.has_ended.ensures ∙ c.if-has_ended.true)

pub returns : goal.returns
returns c = taken _ _ _ c.if-direction-ge2.false c.sound.ensures (ap not c.if-not-sound.false)
    (sym (ap (λ (d : Direction). is_ended d.place) (c.direction_of.ensures ∙ side-direction c.args.control c.args.direction)) ∙ sym c.has_ended.ensures ∙ c.if-has_ended.false)
