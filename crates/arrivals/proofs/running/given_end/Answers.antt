-- By the direction's place: as far as there is no LF, or as far as may be; none where octets are held.
use mathlib.Core.Path.{sym, ◌∙◌}
use native.Mathlib.Omega.{arith}
use Rattle.arrivals.specs.Runs.{gives_passing, gives_flowing}
use Rattle.steps.proofs.Quiet.{place-flowing, place-passing, direction-at}
use Rattle.arrivals.proofs.Parts.{given-none}
use Rattle.arrivals.proofs.running.given_end.Goals as goal

pub returns-then-direction-ne0 : goal.returns-then-direction-ne0
returns-then-direction-ne0 c = record { within = (omega arith, c.requires, omega arith); run = given-none c.args.direction c.args.octets.now c.args.i }

pub returns-then-is_flowing : goal.returns-then-is_flowing
returns-then-is_flowing c =
    let place = place-flowing _ (sym c.is_flowing.ensures ∙ c.if-is_flowing.true) in
    let end = c.run_end.ensures in record { within = end.within; run = gives_flowing (direction-at _ place c.if-direction-ne0.false) end.run }

pub returns-then-is_passing : goal.returns-then-is_passing
returns-then-is_passing c =
    let pre = c.requires in
    let all = c.min.ensures in record {
      within = (omega arith, omega arith, omega arith);
      run = gives_passing
          (direction-at _ (place-passing _ (sym c.is_passing.ensures ∙ c.if-is_passing.true))
          c.if-direction-ne0.false);
    }

pub returns : goal.returns
returns c = record { within = (omega arith, c.requires, omega arith); run = given-none c.args.direction c.args.octets.now c.args.i }
