-- `image::ending::end_at` meets its contract: a refusal leaves all as it was, and an end the other side's buffer.
use mathlib.Core.Path.{ap}
use mathlib.Core.Bool.{not}
use Rattle.std.proofs.Common.{◌≡◌, true, sym, refl, ◌∙◌}
use Rattle.std.specs.Prelude.{None}
use Rattle.records.specs.Sound.{refusal_of, Counted}
use Rattle.records.proofs.Refusals.{unknown, otherwise}
use Rattle.image.specs.Image.{control_in, is_image, session_of}
use Rattle.image.specs.Lent.{ended_on}
use Rattle.image.proofs.Reading.{image-size, refused-no-image, refused-image}
use Rattle.image.proofs.Arrivals.{end_refused, free-image, free-counts}
use Rattle.image.proofs.Endings.{client-left, server-left}
use Rattle.image.proofs.ending.end_at.Goals as goal
use Rattle.image.proofs.ending.end_at.Goals.{After-refusal_in, In_default}

-- what the record of the image says
module _ (c : After-refusal_in) where
  said : c.refusal_in.result ≡ refusal_of (session_of c.args.image.now) c.args.direction
  said =
      refused-image c.args.image.now c.args.direction c.is_image.ensures (ap not c.if-not-is_image.false) c.refusal_in.ensures

-- nothing refuses the end
free : (c : In_default) → refusal_of (session_of c.args.image.now) c.args.direction ≡ None
free c =
    sym (refused-image c.args.image.now c.args.direction c.is_image.ensures (ap not c.if-not-is_image.false) c.refusal_in.ensures)
    ∙ otherwise c.refusal_in.result c.in_default.not-Some

-- so it is one of an image whose counts the arrays can hold
ready : (c : In_default) → (is_image c.args.image.now ≡ true) × Counted (control_in c.args.image.now)
ready c =
    let a = c.args in
    (free-image a.image.now a.direction (free c), free-counts a.image.now a.direction (free c) refl)

pub returns-then-direction-ge2 : goal.returns-then-direction-ge2
unfolding refusal_of
returns-then-direction-ge2 c =
    let a = c.args in let both = end_refused a.image.now a.to_server.now a.to_client.now a.direction (unknown a.direction _ _ c.if-direction-ge2.true) refl
    c.nothing_written.ensures in record { told = both.0; buffers = both.1 }

pub returns-then-not-is_image : goal.returns-then-not-is_image
returns-then-not-is_image c =
    let a = c.args in let both = end_refused a.image.now a.to_server.now a.to_client.now a.direction
    (refused-no-image a.image.now a.direction c.is_image.ensures (ap not c.if-not-is_image.true) c.if-direction-ge2.false) refl
    c.nothing_written-then-not-is_image.ensures in record { told = both.0; buffers = both.1 }

pub refusal_in-requires : goal.refusal_in-requires
refusal_in-requires c =
    image-size c.args.image.now c.is_image.ensures (ap not c.if-not-is_image.false)

pub returns-in-Some : goal.returns-in-Some
returns-in-Some c =
    let a = c.args in let both = end_refused a.image.now a.to_server.now a.to_client.now a.direction (said (goal.at.returns-in-Some c).After-refusal_in) c.in-Some.is
    c.nothing_written-in-Some.ensures in record { told = both.0; buffers = both.1 }

pub returns-then-direction-eq0 : goal.returns-then-direction-eq0
unfolding ended_on
returns-then-direction-eq0 c =
    let a = c.args in let both = client-left a.image.now a.to_server.now a.to_client.now a.direction (free (goal.at.returns-then-direction-eq0 c).In_default) c.if-direction-eq0.true
    c.end_held.ensures in record { told = both.0; buffers = both.1 }

pub returns : goal.returns
unfolding ended_on
returns c =
    let a = c.args in let both = server-left a.image.now a.to_server.now a.to_client.now a.direction (free (goal.at.returns c).In_default) c.if-direction-eq0.false
    c.end_held-2.ensures in record { told = both.0; buffers = both.1 }

pub end_held-requires : goal.end_held-requires
end_held-requires c = ready (goal.at.end_held-requires c).In_default

pub end_held-requires-2 : goal.end_held-requires-2
end_held-requires-2 c = ready (goal.at.end_held-requires-2 c).In_default
