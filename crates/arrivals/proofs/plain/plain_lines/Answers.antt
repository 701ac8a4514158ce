-- None where the queue is not still, else the client's or the server's.
use mathlib.Core.Bool.{not}
use mathlib.Core.Path.{refl, sym, ap, subst, ◌∙◌}
use borrow.Author.Tests.{not-false}
use Rattle.rules.specs.Answers.{Side}
use Rattle.records.specs.Sound.{side_if}
use Rattle.steps.specs.Takes.{core_lent}
use Rattle.arrivals.specs.Runs.{Ran}
use Rattle.arrivals.proofs.Parts.{ran-none}
use Rattle.arrivals.proofs.plain.plain_lines.Goals as goal

pub returns-then-not-is_still : goal.returns-then-not-is_still
returns-then-not-is_still c =
    let a = c.args in
    let bounded = c.requires.bounds in record {
      ran = λ f. ran-none f (side_if a.from_client) a.octets.now (core_lent a.control a.lent.now a.to_server.now a.to_client.now a.written)
          a.i c.requires.within bounded.server bounded.client;
      fixed = refl;
    }

pub plain_commands-requires : goal.plain_commands-requires
plain_commands-requires c =
    let bounded = c.requires.bounds in
    let still = sym c.is_still.ensures ∙ not-false _ (ap not c.if-not-is_still.false) in record { counts = (record { owed = bounded.owed; command = bounded.command; reply = bounded.reply }, still); within = (c.requires.within, bounded.server) }

pub returns-then-from_client : goal.returns-then-from_client
returns-then-from_client c =
    let a = c.args in
    let r = c.plain_commands in
    let before = core_lent a.control a.lent.now a.to_server.now a.to_client.now a.written in
    let after = core_lent r.result.control r.new.lent r.new.to_server a.to_client.now r.result.written in record {
      ran = λ f. subst (λ (d : Side). Ran f d a.octets.now before a.i after r.result.taken) (sym (ap side_if c.if-from_client.true))
          (r.ensures.ran f a.to_client.now c.requires.bounds.client);
      fixed = r.ensures.fixed;
    }

pub plain_replies-requires : goal.plain_replies-requires
plain_replies-requires c =
    let bounded = c.requires.bounds in
    let still = sym c.is_still.ensures ∙ not-false _ (ap not c.if-not-is_still.false) in record { counts = (record { owed = bounded.owed; command = bounded.command; reply = bounded.reply }, still); within = (c.requires.within, bounded.client) }

pub returns : goal.returns
returns c =
    let a = c.args in
    let r = c.plain_replies in
    let before = core_lent a.control a.lent.now a.to_server.now a.to_client.now a.written in
    let after = core_lent r.result.control r.new.lent a.to_server.now r.new.to_client r.result.written in record {
      ran = λ f. subst (λ (d : Side). Ran f d a.octets.now before a.i after r.result.taken) (sym (ap side_if c.if-from_client.false))
          (r.ensures.ran f a.to_server.now c.requires.bounds.server);
      fixed = r.ensures.fixed;
    }
