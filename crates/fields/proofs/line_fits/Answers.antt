-- `fields::line_fits` meets its contract: the numbers, then each field, take from the room.
use mathlib.Core.Path.{sym, ap, ◌∙◌}
use Prim.Native.Nat.{◌+◌, ◌-◌}
use native.Mathlib.Omega.{arith}
use lib.ListN.{length}
use Rattle.std.specs.Prelude.{is_some}
use Rattle.rules.specs.Octets.{decimal}
use Rattle.fields.specs.Report.{field}
use Rattle.fields.proofs.Fields.{has_left, has-none, is_some-room, line_refused, line-by-rest}
use Rattle.fields.proofs.line_fits.Goals as goal
use Rattle.fields.proofs.line_fits.Goals.{then-size-at-via-then-size-at, then-size-at-via-else-size-at+then-size-at-2}

pub returns-then-size-at : goal.returns-then-size-at
returns-then-size-at c =
    let a = c.args in
    let one = c.decimal_length.ensures.result in
    let two = c.decimal_length-2.ensures.result in
    let three = c.decimal_length-3.ensures.result ∙ ap (λ n. length (decimal n)) c.from.ensures in
    elim c.then-size-at.branch [
      | then-size-at-via-then-size-at w ↦ line_refused a.size a.at a.n a.taken a.number a.to_server.now a.to_client.now (omega (arith, w.if-size-at.true))
      | then-size-at-via-else-size-at+then-size-at-2 w ↦
          line_refused a.size a.at a.n a.taken a.number a.to_server.now a.to_client.now (omega (arith, w.if-size-at.false, w.if-size-at-2.true))
    ]

pub returns-in_default : goal.returns-in_default
returns-in_default c =
    let a = c.args in
    let one = c.decimal_length.ensures.result in
    let two = c.decimal_length-2.ensures.result in
    let three = c.decimal_length-3.ensures.result ∙ ap (λ n. length (decimal n)) c.from.ensures in
    let fits = c.if-size-at-2.false in
    let within = c.if-size-at.false in
    let full = has-none (a.size - a.at - (c.decimal_length.result + c.decimal_length-2.result + c.decimal_length-3.result + 5)) (length (field a.to_server.now)) (sym c.room_after-first.ensures ∙ c.in_default.is) in
    line_refused a.size a.at a.n a.taken a.number a.to_server.now a.to_client.now (omega arith)

pub returns : goal.returns
returns c =
    let a = c.args in
    let one = c.decimal_length.ensures.result in
    let two = c.decimal_length-2.ensures.result in
    let three = c.decimal_length-3.ensures.result ∙ ap (λ n. length (decimal n)) c.from.ensures in
    let fits = c.if-size-at-2.false in
    let within = c.if-size-at.false in
    let left = has_left (a.size - a.at - (c.decimal_length.result + c.decimal_length-2.result + c.decimal_length-3.result + 5)) (length (field a.to_server.now)) (sym c.room_after-first.ensures ∙ c.in-Some.is) in
    c.is_some.ensures
    ∙ (ap is_some c.room_after.ensures
    ∙ (is_some-room c.in-Some.left (length (field a.to_client.now))
    ∙ line-by-rest a.size a.at a.n a.taken a.number a.to_server.now a.to_client.now c.in-Some.left (omega arith)))
