use Rattle.std.proofs.Common.{◌≡◌, ◌+◌, ◌*◌, get_or, refl, sym, ◌∙◌, arith, rules}
use Rattle.replies.proofs.Reading.{begun, turned, uncomma, cut, unread, no-port, a-port}
use Rattle.replies.proofs.named_at.Goals as goal
use Rattle.replies.proofs.named_at.Goals.{then-end-s-via-then-end-s, then-end-s-via-else-end-s+then-s-end-ne44}

pub loop-i-init : goal.loop-i-init
loop-i-init c = (search rules, begun _ _ _ refl)

pub returns-in_err-n : goal.returns-in_err-n
returns-in_err-n c =
    c.from_residual.ensures ∙ unread _ _ _ _ _ c.loop-i.invariant.1 (sym c.number_at.ensures ∙ c.in_err-n.was)

pub returns-then-end-s : goal.returns-then-end-s
returns-then-end-s c =
    let number = sym c.number_at.ensures ∙ c.in_ok-n.was in
    elim c.then-end-s.branch [
      | then-end-s-via-then-end-s w ↦ cut _ _ _ _ _ c.loop-i.invariant.1 _ _ c.loop-i-test.true number w.if-end-s.true
      | then-end-s-via-else-end-s+then-s-end-ne44 w ↦
          uncomma _ _ _ _ _ c.loop-i.invariant.1 _ _ c.loop-i-test.true number w.if-s-end-ne44.true
    ]

pub loop-i-preserved : goal.loop-i-preserved
loop-i-preserved c =
    let number = sym c.number_at.ensures ∙ c.in_ok-n.was in
    (omega arith, turned _ _ _ _ _ c.loop-i.invariant.1 _ _ c.loop-i-test.true number c.if-s-end-ne44.false)

pub returns-in_err-sixth : goal.returns-in_err-sixth
returns-in_err-sixth c =
    c.from_residual-in_err-sixth.ensures ∙ unread _ _ _ _ _ c.loop-i.invariant.1 (sym c.number_at-2.ensures ∙ c.in_err-sixth.was)

pub returns-then-port-eq0 : goal.returns-then-port-eq0
returns-then-port-eq0 c =
    let l = c.loop-i in
    let number = sym c.number_at-2.ensures ∙ c.in_ok-sixth.was in
    no-port _ _ _ _ _ l.invariant.1 _ _ (omega arith) number (omega (arith, c.from_be_bytes-port.ensures))

pub returns : goal.returns
returns c =
    let l = c.loop-i in
    let number = sym c.number_at-2.ensures ∙ c.in_ok-sixth.was in
    let port : c.from_be_bytes-port.result ≡ get_or l.read 4 0 * 256 + c.in_ok-sixth.sixth = omega (arith, c.from_be_bytes-port.ensures) in
    rw port (a-port _ _ _ _ _ l.invariant.1 _ _ (omega arith) number (λ z. c.if-port-eq0.false (port ∙ z)))
