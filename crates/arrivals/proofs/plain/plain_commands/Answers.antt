-- A client that holds its octets: `client_lines`. Any other: none are taken.
use mathlib.Core.Path.{ap}
use mathlib.Core.Bool.{not}
use mathlib.Core.Path.{refl, sym, ◌∙◌}
use borrow.Author.Tests.{not-false}
use Rattle.rules.specs.Answers.{client}
use Rattle.octets.proofs.Ranges.{and_both}
use Rattle.telnet.proofs.Layers.{clear-is}
use Rattle.records.proofs.Refusals.{place-holding}
use Rattle.steps.specs.Takes.{core_lent}
use Rattle.arrivals.proofs.Parts.{ran-none}
use Rattle.arrivals.proofs.PlainLines.{said-ran}
use Rattle.arrivals.proofs.plain.plain_commands.Goals as goal

pub returns-then-not-may_run : goal.returns-then-not-may_run
returns-then-not-may_run c =
    let a = c.args in
    let p = c.requires in record {
      ran = λ f to_client h.
          ran-none f client a.octets.now (core_lent a.control a.lent.now a.to_server.now to_client a.written) a.i
          p.within.0 p.within.1 h;
      fixed = refl;
    }

pub returns : goal.returns
returns c =
    let a = c.args in
    let lines = c.client_lines-said in
    let said = lines.ensures in
    let tested = and_both _ _ (sym c.may_run.ensures ∙ not-false _ (ap not c.if-not-may_run.false)) in record { ran = said-ran a.control a.written (place-holding _ tested.0) (clear-is _ tested.1) said c.with_client.ensures; fixed = said.addresses }
