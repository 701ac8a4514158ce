-- `eprt::eprt_argument`. No loop: each leave is a law on where the delimiters stand.
use mathlib.Core.Path.{◌≡◌, ◌∙◌}
use borrow.Author.Rules.{rules}
use lib.ListN.{length}
use Rattle.octets.proofs.Ranges.{is_within, is_below, is-above}
use Rattle.eprt.proofs.Eprt.{eprt-empty, eprt-not, no_protocol, no_address, no_port, at-end, goes-on}
use Rattle.eprt.proofs.eprt_argument.Goals as goal
use Rattle.eprt.proofs.eprt_argument.Goals.{then-delimiter-lt33-via-then-delimiter-lt33, then-delimiter-lt33-via-else-delimiter-lt33+then-delimiter-gt126}

pub returns-in_err-delimiter : goal.returns-in_err-delimiter
returns-in_err-delimiter c = rw c.from_residual.ensures (eprt-empty _ _ c.in_err-delimiter.ensures.cases)

pub returns-then-delimiter-lt33 : goal.returns-then-delimiter-lt33
returns-then-delimiter-lt33 c =
    let whole = c.in_ok-delimiter.ensures.cases.0 in
    elim c.then-delimiter-lt33.branch [
      | then-delimiter-lt33-via-then-delimiter-lt33 w ↦ eprt-not _ _ _ _ whole (is_below 33 126 _ w.if-delimiter-lt33.true)
      | then-delimiter-lt33-via-else-delimiter-lt33+then-delimiter-gt126 w ↦ eprt-not _ _ _ _ whole (is-above 33 126 _ w.if-delimiter-gt126.true)
    ]

pub returns-in_err-protocol : goal.returns-in_err-protocol
returns-in_err-protocol c =
    let fit = is_within 33 126 _ c.if-delimiter-lt33.false c.if-delimiter-gt126.false in
    rw c.from_residual-in_err-protocol.ensures (no_protocol _ _ _ _ c.in_ok-delimiter.ensures.cases.0 fit c.in_err-protocol.ensures)

pub returns-in_err-address : goal.returns-in_err-address
returns-in_err-address c =
    let fit = is_within 33 126 _ c.if-delimiter-lt33.false c.if-delimiter-gt126.false in
    rw c.from_residual-in_err-address.ensures (no_address _ _ _ _ c.in_ok-delimiter.ensures.cases.0 fit _ _ c.in_ok-protocol.ensures c.in_err-address.ensures)

pub returns-in_err-port : goal.returns-in_err-port
returns-in_err-port c =
    let fit = is_within 33 126 _ c.if-delimiter-lt33.false c.if-delimiter-gt126.false in
    rw c.from_residual-in_err-port.ensures (no_port _ _ _ _ c.in_ok-delimiter.ensures.cases.0 fit _ _ c.in_ok-protocol.ensures _ _ c.in_ok-address.ensures c.in_err-port.ensures)

pub returns-then-not-is_empty : goal.returns-then-not-is_empty
returns-then-not-is_empty c =
    let fit = is_within 33 126 _ c.if-delimiter-lt33.false c.if-delimiter-gt126.false in
    let some : length c.in_ok-port.rest.now ≡ 0 → ⊥ = search rules in
    goes-on _ _ _ _ c.in_ok-delimiter.ensures.cases.0 fit _ _ c.in_ok-protocol.ensures _ _ c.in_ok-address.ensures _ _ c.in_ok-port.ensures some

pub returns : goal.returns
returns c =
    let fit = is_within 33 126 _ c.if-delimiter-lt33.false c.if-delimiter-gt126.false in
    let none : length c.in_ok-port.rest.now ≡ 0 = search rules in
    c.fields_argument.ensures ∙ at-end _ _ _ _ c.in_ok-delimiter.ensures.cases.0 fit _ _ c.in_ok-protocol.ensures _ _ c.in_ok-address.ensures _ _ c.in_ok-port.ensures none
