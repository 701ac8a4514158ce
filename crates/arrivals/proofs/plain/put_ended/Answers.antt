-- `arrivals::plain::put_ended` meets its contract: no room by either test, or the LF put behind the octets.
use mathlib.Core.Path.{◌≡◌}
use mathlib.Core.List.{[], ◌∷◌, ◌++◌}
use Prim.Native.Nat.{◌+◌}
use native.Mathlib.Omega.{arith}
use lib.ListN.{length, length-append}
use Rattle.rules.specs.Octets.{lf}
use Rattle.output.proofs.Placing.{no_room, joined}
use Rattle.arrivals.proofs.plain.put_ended.Goals as goal
use Rattle.arrivals.proofs.plain.put_ended.Goals.{then-out-at-via-then-out-at, then-out-at-via-else-out-at+then-out-at-2, Start}

-- how long what is put is
long : (c : Start) → length (c.args.octets.now ++ (lf ∷ [])) ≡ length c.args.octets.now + 1
long c = length-append c.args.octets.now (lf ∷ [])

pub returns-then-out-at : goal.returns-then-out-at
returns-then-out-at c =
    let size = long (goal.at.returns-then-out-at c).Start in
    no_room c.args.out.now c.args.at (c.args.octets.now ++ (lf ∷ [])) (
    elim c.then-out-at.branch [
      | then-out-at-via-then-out-at w ↦ let less = w.if-out-at.true in omega arith
      | then-out-at-via-else-out-at+then-out-at-2 w ↦ let less = w.if-out-at-2.true in omega arith
    ])

pub returns : goal.returns
returns c =
    let a = c.args in
    let room = c.if-out-at-2.false in
    joined a.out.now a.at a.octets.now (lf ∷ []) (λ _. c.put-next.ensures)
    (λ _. c.put.ensures) (omega (arith, long (goal.at.returns c).Start))
