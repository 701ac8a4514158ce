-- The lines are lent further, and the kinds put back behind an octet that fits.
use mathlib.Core.Path.{sym, ap, ◌∙◌}
use Rattle.records.specs.Sound.{side_if}
use Rattle.steps.specs.Takes.{addresses_lent, fixed_lent, state_in, state_lent}
use Rattle.steps.proofs.Over.{then-state, then-addresses, stepped-over, put-state, put-addresses}
use Rattle.steps.proofs.lent_octet.Goals as goal

pub returns-in_err-o : goal.returns-in_err-o
returns-in_err-o c =
    let a = c.args in
    let lent = a.lent.now in
    let lines = c.any_octet.new.lines in
    let all = c.told-lent in
    let kept = c.any_octet.auto.lines in
    let kinds = c.kinds_in-kinds.ensures in
    let state = sym (then-state lent lines all kept a.control ∙ ap (state_in a.control lines) (sym kinds)) in
    rw c.from_residual.ensures record {
      stepped = stepped-over lent lines all kept (fixed_lent a.supported a.strict lent) (side_if a.from_client) a.x a.control a.to_server.now a.to_client.now
          a.written c.fixed_in-fixed.ensures kinds state c.in_err-o.ensures;
      fixed = then-addresses lent lines all kept;
    }

pub returns : goal.returns
returns c =
    let a = c.args in
    let o = c.in_ok-o.o in
    let lent = a.lent.now in
    let lines = c.any_octet.new.lines in
    let all = c.told-lent in
    let kept = c.any_octet.auto.lines in
    let put = c.put_kinds.ensures in
    let state = sym (ap (state_lent o.control) put.0 ∙ put-state lent lines all kept o.kinds put.1 o.control) in
    record {
      stepped = stepped-over lent lines all kept (fixed_lent a.supported a.strict lent) (side_if a.from_client) a.x a.control a.to_server.now a.to_client.now
          a.written c.fixed_in-fixed.ensures c.kinds_in-kinds.ensures state c.in_ok-o.ensures;
      fixed = ap addresses_lent put.0 ∙ put-addresses lent lines all kept o.kinds put.1;
    }
