-- Octets are held (`reply-held`); behind them the LF of a plain line (`reply-ended`), or nothing.
use mathlib.Core.Path.{◌≡◌, sym, ap, subst, ◌∙◌}
use mathlib.Core.Bool.{true}
use mathlib.Core.List.{List}
use Prim.Native.Nat.{ℕ, ◌+◌, ◌-◌, ◌≤◌}
use native.Mathlib.Omega.{arith}
use lib.ListN.{length, take, drop}
use borrow.Rule.Slice.PartMut.{put_mid}
use Rattle.rules.specs.Replies.{reply_line}
use Rattle.queue.proofs.Shifting.{shifted_in_lem}
use Rattle.steps.specs.Takes.{kinds_lent}
use Rattle.arrivals.specs.PlainRuns.{AnsweredPlain}
use Rattle.steps.proofs.Lent.{kinds-size}
use Rattle.arrivals.proofs.Runs.{no-iacs}
use Rattle.arrivals.proofs.LineEnds.{room-itself, put-itself}
use Rattle.arrivals.proofs.PlainReplies.{removes-within, answered-then, held-size, held-text, reply-held, reply-ended}
use Rattle.rules.specs.Octets.{iac, is_not, every}
use Rattle.rules.specs.Lines.{most_held}
use Rattle.records.specs.Layout.{lent_reply, lent_size}
use Rattle.arrivals.proofs.plain.server_line.Goals as goal
use Rattle.arrivals.proofs.plain.server_line.Goals.{After-hold_run-j, After-removed-removes}

-- the octets up to j, held
module _ (c : After-hold_run-j) where
  abbrev octets : List ℕ
  octets = c.args.octets.now

  abbrev lent : List ℕ
  lent = c.args.lent.now

  abbrev i : ℕ
  i = c.args.i

  abbrev held : ℕ
  held = c.args.held

  abbrev owed : ℕ
  owed = c.args.owed

  abbrev j : ℕ
  j = c.hold_run-j.result

  abbrev part : List ℕ
  part = c.hold_run-j.new.line

  abbrev after : List ℕ
  after = put_mid lent_reply most_held lent part

  first : AnsweredPlain octets i held owed c.args.opening lent
      c.args.to_client.now c.args.at
      (record {
        taken = j;
        held = held + (j - i);
        owed = owed;
        opening = c.args.opening;
        at = c.args.at;
      })
      after c.args.to_client.now
  first =
      let pre = c.requires in
      let run = c.hold_run-j.ensures in
      reply-held octets i j held lent part c.told-lent run.within.0 run.within.1 run.within.2 run.buffer owed _ _ _ pre.counts.1 pre.within.1 pre.counts.2 run.run

  read : held ≡ 0 → take (j - i) (drop i octets) ≡ take (lent_reply + (held + (j - i)) - lent_reply) (drop lent_reply after)
  read =
      let run = c.hold_run-j.ensures in
      held-text octets i j held lent part c.told-lent run.within.0 run.within.1 run.within.2 run.buffer

  all : length after ≡ lent_size
  all =
      let run = c.hold_run-j.ensures in
      held-size octets i j held lent part c.told-lent run.within.0 run.within.1 run.within.2 run.buffer

-- no more kinds are removed than are owed
few : (c : After-removed-removes) → c.removed-removes.result ≤ c.args.owed
few c = omega (arith, c.removed-removes.ensures, removes-within c.reply_line-reply.result c.args.owed)

pub text-read-requires : goal.text-read-requires
text-read-requires c = read (goal.at.text-read-requires c).After-hold_run-j

-- a line of which none was held before is ordinary octets of the arrival
pub may_end-requires : goal.may_end-requires
may_end-requires c e =
    subst (λ (l : List ℕ). every (is_not iac) l ≡ true) (read (goal.at.may_end-requires c).After-hold_run-j e ∙ sym c.text-read.ensures) (no-iacs _ c.hold_run-j.ensures.run)

pub text-line-requires : goal.text-line-requires
text-line-requires c = read (goal.at.text-line-requires c).After-hold_run-j

pub overflow_add-result : goal.overflow_add-result
overflow_add-result c =
    let size = c.well_formed.1.1.1.0 in
    let more = (c.may_end.ensures c.if-may_end.true).0 in
    record { fits = omega (arith, more, size) }

pub overflow_sub-result : goal.overflow_sub-result
overflow_sub-result c = few (goal.at.overflow_sub-result c).After-removed-removes

pub returns-then-keeps_still : goal.returns-then-keeps_still
returns-then-keeps_still c =
    let a = c.args in
    let ends = c.may_end.ensures c.if-may_end.true in
    let reply = c.reply_line-reply in
    let keeps = sym c.keeps_still.ensures ∙ c.if-keeps_still.true in
    let moved = c.shift.ensures
    ∙ shifted_in_lem (kinds_lent (after (goal.at.returns-then-keeps_still c).After-hold_run-j)) _ _ (omega (arith, kinds-size (after (goal.at.returns-then-keeps_still c).After-hold_run-j) (all (goal.at.returns-then-keeps_still c).After-hold_run-j), (first (goal.at.returns-then-keeps_still c).After-hold_run-j).owed)) in
    let over = c.hold_run-j.ensures.within.0 in
    let seen = c.text-read.ensures in
    let line = c.text-line.ensures in
    let put = put-itself _ (subst (λ (l : List ℕ). every (is_not iac) l ≡ true) (seen ∙ sym line) ends.3) a.to_client.now a.at c.put_ended-next.ensures in (
      answered-then (octets (goal.at.returns-then-keeps_still c).After-hold_run-j) (i (goal.at.returns-then-keeps_still c).After-hold_run-j) (held (goal.at.returns-then-keeps_still c).After-hold_run-j) (owed (goal.at.returns-then-keeps_still c).After-hold_run-j) a.opening (lent (goal.at.returns-then-keeps_still c).After-hold_run-j) a.to_client.now a.at _ _ (after (goal.at.returns-then-keeps_still c).After-hold_run-j) a.to_client.now _ _ (first (goal.at.returns-then-keeps_still c).After-hold_run-j)
          (reply-ended (octets (goal.at.returns-then-keeps_still c).After-hold_run-j) (j (goal.at.returns-then-keeps_still c).After-hold_run-j) (held (goal.at.returns-then-keeps_still c).After-hold_run-j + (j (goal.at.returns-then-keeps_still c).After-hold_run-j - i (goal.at.returns-then-keeps_still c).After-hold_run-j)) (owed (goal.at.returns-then-keeps_still c).After-hold_run-j) a.opening (after (goal.at.returns-then-keeps_still c).After-hold_run-j) _ a.to_client.now _ a.at _ _ _ (all (goal.at.returns-then-keeps_still c).After-hold_run-j)
          (first (goal.at.returns-then-keeps_still c).After-hold_run-j).held (first (goal.at.returns-then-keeps_still c).After-hold_run-j).owed (first (goal.at.returns-then-keeps_still c).After-hold_run-j).still ends.0 ends.1 _ _ seen line
          (room-itself _ ends.3 ends.2)
          reply.result (reply.ensures ∙ ap (reply_line a.opening) c.content.ensures) c.removed-removes.ensures c.opening_after.ensures keeps
          put.0 put.1 moved),
      omega arith,
    )

pub returns-else-keeps_still : goal.returns-else-keeps_still
returns-else-keeps_still c = first (goal.at.returns-else-keeps_still c).After-hold_run-j

pub returns-else-may_end : goal.returns-else-may_end
returns-else-may_end c = first (goal.at.returns-else-may_end c).After-hold_run-j
