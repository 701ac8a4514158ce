-- `arrivals::take` meets its contract: it leaves the octets alone where the counts or the number of lent octets can't be, and else hands them on.
use mathlib.Core.Path.{refl, sym, ap, ◌∙◌}
use borrow.Author.Tests.{ne_eqb}
use lib.ListN.{length}
use Rattle.records.specs.Layout.{lent_size}
use Rattle.records.specs.Sound.{side_if}
use Rattle.records.proofs.Limits.{holdable-counts}
use Rattle.arrivals.proofs.Going.{took-all, took-none, took-other}
use Rattle.arrivals.proofs.take.Goals as goal

pub returns-then-not-holdable : goal.returns-then-not-holdable
returns-then-not-holdable c =
    let a = c.args in
    rw c.nothing_taken.ensures record {
      given = took-none a.supported a.strict (side_if a.from_client) a.start a.lent.now a.octets.now (sym c.if-not-holdable.ensures) a.to_server.now a.to_client.now;
      fixed = refl;
      counts = λ counts. counts;
    }

pub returns-in_default-clause-given : goal.returns-in_default-clause-given
returns-in_default-clause-given c =
    let a = c.args in
    rw c.nothing_taken-in_default.ensures
    (took-other a.supported a.strict (side_if a.from_client) a.start a.lent.now a.octets.now (ne_eqb (length a.lent.now) lent_size c.in_default.ensures.cases) a.to_server.now a.to_client.now)

pub take_each-requires : goal.take_each-requires
take_each-requires c = record { counts = holdable-counts c.args.start (sym c.if-not-holdable.ensures) }

pub returns-clause-given : goal.returns-clause-given
returns-clause-given c =
    let a = c.args in
    let array = c.in-Some.ensures.cases in
    let all = took-all a.supported a.strict (side_if a.from_client) a.start c.in-Some.lent.now a.octets.now (length a.to_server.now) (length a.to_client.now) (sym c.if-not-holdable.ensures) (ap length array.same ∙ array.long) in
    rw (sym array.same, all) c.take_each.ensures.given
