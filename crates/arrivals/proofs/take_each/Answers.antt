use mathlib.Core.Path.{◌≡◌, refl, sym, ap, subst, ◌∙◌}
use mathlib.Core.Bool.{Bool, true}
use mathlib.Core.List.{List}
use Prim.Native.Nat.{ℕ, ◌+◌}
use native.Mathlib.Omega.{arith}
use lib.ListN.{length, get_or}
use Rattle.rules.specs.Answers.{Side, answer_number}
use Rattle.rules.specs.declared.Answer.{Answer}
use Rattle.records.specs.Layout.{lent_size}
use Rattle.records.specs.declared.Control.{Control}
use Rattle.records.specs.Sound.{side_if, Counted}
use Rattle.rules.specs.declared.Fixed.{Fixed}
use Rattle.steps.specs.declared.Written.{Written}
use Rattle.steps.specs.Takes.{Core, addresses_lent, fixed_lent, state_lent, core_lent, is_within, took_next}
use Rattle.steps.specs.Core.{Bounded}
use Rattle.steps.proofs.Lent.{fixed_same}
use Rattle.steps.proofs.Nexts.{Answered, within-bounded}
use Rattle.arrivals.proofs.Going.{Going, Stopped, going_start, going_next, stopped-done, stopped-next}
use Rattle.arrivals.proofs.Parts.{going-run}
use Rattle.arrivals.proofs.take_each.Goals as goal
use Rattle.arrivals.proofs.take_each.Goals.{After-rebuilt-control-then-i-octets}

-- number 0 is Done's alone
done_only : (a : Answer) → answer_number a ≡ 0 → a ≡ Answer.Done
done_only Answer.Done e = refl
done_only Answer.QueueFull e = absurd (omega arith)
done_only Answer.NoRoom e = absurd (omega arith)
done_only Answer.UnknownDirection e = absurd (omega arith)
done_only Answer.BadRecord e = absurd (omega arith)
done_only Answer.BadSetup e = absurd (omega arith)
done_only Answer.DirectionEnded e = absurd (omega arith)

-- the counts that a record's arrays can hold
held-counts : {c : Control} {w : Written} {sb cb : List ℕ} → Bounded c w sb cb → Counted c
held-counts bounded = record { owed = bounded.owed; command = bounded.command; reply = bounded.reply }

-- behind a run, whose control is built anew, and an octet: what the setup fixed is as it was at first
module _ (c : After-rebuilt-control-then-i-octets) where
  abbrev fixed : Fixed
  fixed = fixed_lent c.args.supported c.args.strict c.args.lent.now

  abbrev side : Side
  side = side_if c.args.from_client

  abbrev reached : ℕ
  reached = c.next_run-run.result.taken

  abbrev between : Control → Core
  between k = let r = c.next_run-run in core_lent k r.new.lent r.new.to_server r.new.to_client r.result.written

  went : Going fixed side c.args.octets.now (state_lent c.args.start c.args.lent.now) c.args.to_server.now
      c.args.to_client.now (between c.rebuilt-control.result) reached
  went =
      let a = c.args in
      let l = c.loop-i in
      let r = c.next_run-run in
      subst
      (λ (k : Control). Going fixed side a.octets.now (state_lent a.start a.lent.now) a.to_server.now a.to_client.now (between k) reached)
      (sym c.rebuilt-control.ensures)
      (going-run fixed side a.octets.now (state_lent a.start a.lent.now) a.to_server.now a.to_client.now _
      (between r.result.control) l.i reached l.invariant.0 (r.ensures.ran fixed))

  size : length c.next_run-run.new.lent ≡ lent_size
  size = c.next_run-run.array_long

  addresses : addresses_lent c.next_run-run.new.lent ≡ addresses_lent c.args.lent.now
  addresses = c.next_run-run.ensures.fixed ∙ c.loop-i.invariant.2

  abbrev behind : Control → Core
  behind k = let o = c.next_octet-o in core_lent k o.new.lent o.new.to_server o.new.to_client o.result.written

  abbrev before-octet : Core
  before-octet = between c.rebuilt-control.result

  abbrev within : Bool
  within =
      let k = before-octet in
      is_within k.state.control (length c.next_run-run.new.lent) (length k.server_buffer) (length k.client_buffer) k.written

  can : within ≡ true
  can =
      let k = before-octet in
      within-bounded k.state.control _ k.server_buffer k.client_buffer k.written size went.bounded

  next : Answered c.next_octet-o.result.answer (behind c.rebuilt-control-then-i-octets.result)
      (took_next within fixed side (get_or c.args.octets.now reached 0) before-octet) before-octet
  next =
      let o = c.next_octet-o in
      let a = c.args in
      let x = get_or a.octets.now reached 0 in
      subst (λ (k : Control). Answered o.result.answer (behind k) (took_next within fixed side x before-octet) before-octet) (sym c.rebuilt-control-then-i-octets.ensures)
      (subst (λ (f : Fixed). Answered o.result.answer (behind o.result.control) (took_next within f side x before-octet) before-octet)
      (fixed_same c.next_run-run.new.lent size a.lent.now c.told-lent addresses a.supported a.strict) o.ensures.stepped)

  counted : Counted c.rebuilt-control-then-i-octets.result
  counted =
      let o = c.next_octet-o in
      subst Counted (sym c.rebuilt-control-then-i-octets.ensures) (o.ensures.counts (held-counts went.bounded))

  kept : addresses_lent c.next_octet-o.new.lent ≡ addresses_lent c.args.lent.now
  kept = c.next_octet-o.ensures.fixed ∙ addresses

  stopped : (answer_number c.next_octet-o.result.answer ≡ 0 → ⊥)
      → Stopped fixed side c.args.octets.now (state_lent c.args.start c.args.lent.now)
      c.args.to_server.now c.args.to_client.now c.next_octet-o.result.answer reached (behind c.rebuilt-control-then-i-octets.result)
  stopped =
      let a = c.args in
      stopped-next fixed side a.octets.now (state_lent a.start a.lent.now) a.to_server.now a.to_client.now
      before-octet reached went c.if-i-octets.true can _ _ next

  goes : answer_number c.next_octet-o.result.answer ≡ 0
      → Going fixed side c.args.octets.now (state_lent c.args.start c.args.lent.now)
      c.args.to_server.now c.args.to_client.now (behind c.rebuilt-control-then-i-octets.result) (reached + 1)
  goes is =
      let a = c.args in
      going_next fixed side a.octets.now (state_lent a.start a.lent.now) a.to_server.now a.to_client.now
      before-octet reached went c.if-i-octets.true can _ _ next is counted

pub loop-i-init : goal.loop-i-init
loop-i-init c =
    let a = c.args in
    let p = c.requires in (
      going_start (fixed_lent a.supported a.strict a.lent.now) (side_if a.from_client) a.octets.now (state_lent a.start a.lent.now)
          a.to_server.now a.to_client.now
          (record { owed = p.counts.owed; command = p.counts.command; reply = p.counts.reply; server = omega arith; client = omega arith }),
      omega arith,
      refl,
    )

pub next_run-run-requires : goal.next_run-run-requires
next_run-run-requires c = let v = c.loop-i.invariant in record { bounds = v.0.bounded; within = v.1 }

pub returns-in_default : goal.returns-in_default
returns-in_default c = record { given = stopped (goal.at.returns-in_default c).After-rebuilt-control-then-i-octets (λ e. c.in_default.not-Done (done_only _ e)); fixed = kept (goal.at.returns-in_default c).After-rebuilt-control-then-i-octets; counts = counted (goal.at.returns-in_default c).After-rebuilt-control-then-i-octets }

pub loop-i-smaller-then-i-octets : goal.loop-i-smaller-then-i-octets
loop-i-smaller-then-i-octets c =
    let more = c.loop-i-test.true in
    let ran = (c.next_run-run.ensures.ran (fixed (goal.at.loop-i-smaller-then-i-octets c).After-rebuilt-control-then-i-octets)).forward in
    omega arith

pub loop-i-preserved-then-i-octets : goal.loop-i-preserved-then-i-octets
loop-i-preserved-then-i-octets c =
    let more = c.if-i-octets.true in
    (goes (goal.at.loop-i-preserved-then-i-octets c).After-rebuilt-control-then-i-octets (ap answer_number c.in-Done.is), omega arith, kept (goal.at.loop-i-preserved-then-i-octets c).After-rebuilt-control-then-i-octets)

pub loop-i-smaller : goal.loop-i-smaller
loop-i-smaller c =
    let more = c.loop-i-test.true in
    omega arith

pub loop-i-preserved : goal.loop-i-preserved
loop-i-preserved c =
    let a = c.args in
    let l = c.loop-i in
    let r = c.next_run-run in
    let fixed = fixed_lent a.supported a.strict a.lent.now in
    let side = side_if a.from_client in
    let between = λ (k : Control). core_lent k r.new.lent r.new.to_server r.new.to_client r.result.written in (
      subst
          (λ (k : Control). Going fixed side a.octets.now (state_lent a.start a.lent.now) a.to_server.now a.to_client.now (between k) r.result.taken)
          (sym c.rebuilt-control.ensures)
          (going-run fixed side a.octets.now (state_lent a.start a.lent.now) a.to_server.now a.to_client.now _
          (between r.result.control) l.i r.result.taken l.invariant.0 (r.ensures.ran fixed)),
      (r.ensures.ran fixed).inside,
      r.ensures.fixed ∙ l.invariant.2,
    )

pub returns : goal.returns
returns c =
    let a = c.args in
    let l = c.loop-i in record {
      given = stopped-done (fixed_lent a.supported a.strict a.lent.now) (side_if a.from_client) a.octets.now (state_lent a.start a.lent.now)
          a.to_server.now a.to_client.now _ l.i l.invariant.0 c.loop-i-test.false;
      fixed = l.invariant.2;
      counts = held-counts l.invariant.0.bounded;
    }
