-- `queue::planned` meets its contract: by whether the queue keeps still, and then whether own answers have to wait.
use mathlib.Core.Path.{sym, ◌∙◌}
use native.Mathlib.Omega.{arith}
use Rattle.queue.specs.Kinds.{queue_of}
use Rattle.queue.proofs.Answers.{auth-next}
use Rattle.queue.proofs.Plans.{plan-waits, plan-goes, plan-still}
use Rattle.queue.proofs.Still.{still-answers, still-auth}
use Rattle.queue.proofs.planned.Goals as goal

pub returns-then-is_still : goal.returns-then-is_still
returns-then-is_still c =
    let a = c.args in
    let still = sym c.is_still.ensures ∙ c.if-is_still.true in record {
      result = plan-still (queue_of a.kinds a.owed) a.from (still-answers a.kinds a.from a.owed still)
          (still-auth a.kinds a.from a.owed still) a.blocked;
      most = omega arith;
    }

pub returns-then-blocked : goal.returns-then-blocked
returns-then-blocked c =
    let a = c.args in
    let auth = c.is_auth.ensures ∙ auth-next _ c.next_at.ensures in record { result = plan-waits (queue_of a.kinds a.owed) a.from c.if-blocked.true auth; most = omega arith }

pub returns : goal.returns
returns c =
    let a = c.args in
    let d = c.due.ensures in record { result = plan-goes (queue_of a.kinds a.owed) a.from c.if-blocked.false d.result.0 d.result.1 d.after; most = d.most }
