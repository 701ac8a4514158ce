-- `image::arrival::arrive_at` meets its contract: a refusal, or what `take` does to the arrays where they lie, and the rest written back.
use Rattle.std.proofs.Common.{◌≡◌, ◌≤◌, eqb, length, drop, sym, refl, ◌∙◌, subst, arith, length-drop, length-take-le}
use Rattle.std.specs.Prelude.{None}
use borrow.Rule.Slice.PartMut.{same_len_mid}
use Rattle.records.specs.Layout.{supported_at, strict_at, client_at, lent_size, image_size}
use Rattle.records.specs.declared.Session.{Session}
use Rattle.session.specs.Calls.{arrived}
use Rattle.records.proofs.Sides.{side-tested}
use Rattle.records.specs.Sound.{refusal_of, side_if}
use Rattle.steps.specs.Takes.{took_in}
use Rattle.image.specs.Image.{is_set, part, session_of}
use Rattle.image.specs.Lent.{arrived_on}
use Rattle.image.proofs.Arrivals.{Left, arrival-refused, lent, lent-size, lent-all, left, free-image, free-size, free-fields, free-counts}
use Rattle.image.proofs.arrival.arrive_at.Goals as goal
use Rattle.image.proofs.arrival.arrive_at.Goals.{In_default}

module _ (c : In_default) where
  -- nothing refuses the arrival
  free : refusal_of (session_of c.args.image.now) c.args.direction ≡ None
  free = sym c.refusal_at.ensures ∙ c.in_default.is

  -- so there is room for an image
  size : image_size ≤ length c.args.image.now
  size = free-size c.args.image.now c.args.direction free

pub returns-in-Some : goal.returns-in-Some
returns-in-Some c =
    let a = c.args in let both = arrival-refused a.image.now a.to_server.now a.to_client.now a.direction c.refusal_at.ensures c.in-Some.is
    c.nothing_written.ensures a.octets.now in record { told = both.0; buffers = both.1 }

pub bounds-image-1 : goal.bounds-image-1
bounds-image-1 c = let long = size (goal.at.bounds-image-1 c).In_default in omega arith

pub bounds-image-2 : goal.bounds-image-2
bounds-image-2 c = let long = size (goal.at.bounds-image-2 c).In_default in omega arith

pub control_in-control-requires : goal.control_in-control-requires
control_in-control-requires c = size (goal.at.control_in-control-requires c).In_default

pub counts_at-up-requires : goal.counts_at-up-requires
counts_at-up-requires c = let long = size (goal.at.counts_at-up-requires c).In_default in omega arith

pub counts_at-down-requires : goal.counts_at-down-requires
counts_at-down-requires c = let long = size (goal.at.counts_at-down-requires c).In_default in omega arith

pub slice_bounds-take-end : goal.slice_bounds-take-end
slice_bounds-take-end c = let long = size (goal.at.slice_bounds-take-end c).In_default in omega arith

pub put_back-requires : goal.put_back-requires
put_back-requires c =
    let a = c.args in
    let I = a.image.now in
    let long = size (goal.at.put_back-requires c).In_default in
    let t = c.take-t in
    let lent-long : length (part I client_at lent_size) ≡ lent_size = length-take-le lent_size (drop client_at I) (omega (arith, length-drop client_at I)) in
    let same = same_len_mid client_at lent_size I t.new.lent t.auto.lent in
    (omega arith, t.ensures.counts (free-counts I a.direction (free (goal.at.put_back-requires c).In_default) c.control_in-control.ensures))

pub shape_of-image : goal.shape_of-image
shape_of-image c =
    let a = c.args in
    let I = a.image.now in
    let long = size (goal.at.shape_of-image c).In_default in
    let t = c.take-t in
    let lent-long : length (part I client_at lent_size) ≡ lent_size = length-take-le lent_size (drop client_at I) (omega (arith, length-drop client_at I)) in
    let same = same_len_mid client_at lent_size I t.new.lent t.auto.lent in
    let kept = c.put_back.auto.image in
    omega arith

pub returns : goal.returns
unfolding arrived_on
returns c =
    let a = c.args in
    let I = a.image.now in
    let long = size (goal.at.returns c).In_default in
    let t = c.take-t in
    let arrays = t.new.lent in
    let out = t.new.to_server in
    let other = t.new.to_client in
    let counts = c.counts_then-counts in
    let control = c.control_in-control in
    let up = c.counts_at-up in
    let down = c.counts_at-down in
    let side = side_if (eqb a.direction 0) in
    let same = side-tested a.direction in
    let fields = free-fields I a.direction (free (goal.at.returns c).In_default) in
    let freed = subst (λ (s : Session). refusal_of s a.direction ≡ None) (sym fields) (free (goal.at.returns c).In_default) in
    let took = took_in (is_set I supported_at) (is_set I strict_at) side control.result (lent I long) a.octets.now (length a.to_server.now) (length a.to_client.now) in
    let all = lent-all I a.octets.now a.to_server.now a.to_client.now a.direction side same long freed (is_set I supported_at) (is_set I strict_at) control.result refl refl control.ensures in let both = subst
    (λ (s : Session). Left (arrived s a.direction a.octets.now (length a.to_server.now) (length a.to_client.now))
    (record { answer = t.result.answer; taken = t.result.taken; written = t.result.written }) I c.put_back.new.image
    a.to_server.now out a.to_client.now other)
    fields
    (left I a.octets.now a.to_server.now a.to_client.now a.direction side same long freed took all t.result arrays out other
    t.ensures.given t.ensures.fixed (t.auto.lent ∙ lent-size I long) (free-image I a.direction (free (goal.at.returns c).In_default)) up.result down.result counts.result.up
    counts.result.down up.ensures down.ensures counts.ensures.0 counts.ensures.1 c.put_back.new.image
    c.put_back.ensures) in record { told = both.0; buffers = both.1 }
