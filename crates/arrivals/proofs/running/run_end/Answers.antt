-- The search in the part from i to its limit, as a part of the whole.
use mathlib.Core.Path.{refl, sym, ◌∙◌}
use Prim.Native.Nat.{◌+◌, ◌-◌}
use native.Mathlib.Omega.{arith}
use Rattle.arrivals.proofs.Parts.{ordinary-one, ordinary-none, ordinary-part}
use Rattle.arrivals.proofs.running.run_end.Goals as goal

-- one octet that is ordinary, and one that is not
pub returns-then-is_ordinary : goal.returns-then-is_ordinary
returns-then-is_ordinary c =
    let a = c.args in
    let n = c.min in
    let one = c.if-e-i-eq1.true in
    let here = ordinary-one a.octets.now a.i (a.i + n.result - a.i) one (omega (arith, n.ensures, one)) (sym c.is_ordinary.ensures ∙ c.if-is_ordinary.true) in record { within = (omega arith, omega (arith, c.requires, n.ensures), omega (arith, n.ensures)); run = here }

pub returns-then-e-i-eq1 : goal.returns-then-e-i-eq1
returns-then-e-i-eq1 c =
    let a = c.args in
    let none = ordinary-none a.octets.now a.i (a.i - a.i) (omega arith) in record { within = (omega arith, c.requires, omega arith); run = none }

pub overflow_add-result : goal.overflow_add-result
overflow_add-result c =
    let a = c.args in
    let size = c.well_formed.0 in
    let pre = c.requires in
    let n = c.min in
    let all = n.ensures in
    let found = c.ordinary_end-n in
    let end =
    (ordinary-part a.octets.now a.i (a.i + n.result) (a.i + found.result) found.result (omega arith)
    (omega arith) found.ensures refl).0 in
    omega arith

pub returns : goal.returns
returns c =
    let a = c.args in
    let pre = c.requires in
    let n = c.min in
    let all = n.ensures in
    let found = c.ordinary_end-n in
    let part =
    ordinary-part a.octets.now a.i (a.i + n.result) (a.i + found.result) found.result (omega arith)
    (omega arith) found.ensures refl in
    let end = part.0 in record { within = (omega arith, omega arith, omega arith); run = part.1 }
