-- The server's lines where it holds its octets, or no octet.
use mathlib.Core.Path.{ap}
use mathlib.Core.Bool.{not}
use mathlib.Core.Path.{refl, sym, ◌∙◌}
use borrow.Author.Tests.{not-false}
use Rattle.rules.specs.Answers.{server}
use Rattle.records.specs.declared.Control.{Control}
use Rattle.octets.proofs.Ranges.{and_both}
use Rattle.telnet.proofs.Layers.{clear-is}
use Rattle.records.proofs.Refusals.{place-holding}
use Rattle.steps.specs.Takes.{core_lent}
use Rattle.arrivals.proofs.Parts.{ran-none}
use Rattle.arrivals.proofs.PlainReplies.{answered-from}
use Rattle.arrivals.proofs.plain.plain_replies.Goals as goal

pub returns-then-not-may_run : goal.returns-then-not-may_run
returns-then-not-may_run c =
    let a = c.args in
    let pre = c.requires in record { ran = λ f to_server h. ran-none f server a.octets.now (core_lent a.control a.lent.now to_server a.to_client.now a.written) a.i pre.within.0 h pre.within.1; fixed = refl }

pub returns : goal.returns
returns c =
    let a = c.args in
    let tested = and_both _ _ (sym c.may_run.ensures ∙ not-false _ (ap not c.if-not-may_run.false)) in
    let lines = c.server_lines-answered in
    let r = lines.result in record {
      ran = λ f to_server h. answered-from f a.octets.now a.control a.lent.now to_server a.to_client.now a.written a.i _
          (λ (k : Control). core_lent k lines.new.lent to_server lines.new.to_client (record { server = a.written.server; client = r.at }))
          (place-holding _ tested.0) c.with_server.ensures (lines.ensures.ran f a.control (clear-is _ tested.1) to_server a.written.server h);
      fixed = lines.ensures.addresses;
    }
