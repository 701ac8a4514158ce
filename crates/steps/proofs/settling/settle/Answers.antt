-- `steps::settling::settle` meets its contract: one text after the other, and the state by parts.
use mathlib.Core.Path.{◌≡◌, ◌∙◌}
use mathlib.Core.List.{[]}
use Prim.Native.Nat.{◌≤◌}
use native.Mathlib.Omega.{arith}
use borrow.Author.Rules.{rules}
use lib.ListN.{length}
use Rattle.rules.specs.Answers.{most_owed}
use Rattle.queue.proofs.Shifting.{shifted_in_lem}
use Rattle.steps.specs.Steps.{answers_text}
use Rattle.steps.specs.Takes.{state_from}
use Rattle.steps.proofs.Settles.{leaving-most, state-settled, text-settled}
use Rattle.steps.proofs.settling.settle.Goals as goal
use Rattle.steps.proofs.settling.settle.Goals.{Start}

-- no more kinds leave than are owed, and they are in the array
within : (c : Start) → (c.args.plan.leaving ≤ c.args.control.owed) × (c.args.control.owed ≤ length c.args.kinds)
within c =
    let a = c.args in
    let same = c.requires.planned.leaving in
    let most = leaving-most (state_from a.control [] a.reply.now a.kinds) a.from c.requires.counts.0 in
    let owed = c.requires.counts.1 in
    let long : length a.kinds ≡ most_owed = search rules in
    (omega arith, omega arith)

pub settled_control-settled-requires : goal.settled_control-settled-requires
settled_control-settled-requires c =
    (within (goal.at.settled_control-settled-requires c).Start).0

pub returns : goal.returns
unfolding answers_text
returns c =
    let a = c.args in
    let texts = text-settled (state_from a.control [] a.reply.now a.kinds) a.from a.out.now a.at
    c.requires.planned c.requires.room c.put_due-after.ensures c.put_held-then.ensures c.put_tail-next.ensures in record {
      state = λ command. state-settled a.control command a.reply.now a.kinds a.from c.requires.planned
          c.settled_control-settled.ensures (c.shift.ensures ∙ shifted_in_lem a.kinds a.plan.leaving a.control.owed (within (goal.at.returns c).Start).1);
      next = texts.0;
      buffer = texts.1;
    }
