-- Only the same code and a space ends the reply.
use Rattle.std.proofs.Common.{◌≡◌, true, false, get_or, refl, sym, ◌∙◌, arith}
use Rattle.std.specs.Option.{unwrap_or}
use Rattle.rules.specs.Octets.{choose}
use Rattle.replies.proofs.Codes.{same-code, same-behind, inside-by}
use Rattle.replies.proofs.line_inside.Goals as goal
use Rattle.replies.proofs.line_inside.Goals.{else-eq-via-then-eq+else-eq-2, else-eq-via-else-eq}

pub returns-then-eq-2 : goal.returns-then-eq-2
unfolding choose
returns-then-eq-2 c =
    let s = c.args.content.now in
    let code = same-code s c.args.opening c.code_of.result c.eq.result c.code_of.ensures c.eq.ensures in
    let read : unwrap_or c.copied.result 0 ≡ get_or s 3 0 = rw c.copied.ensures (c.get.ensures.lookup.4 (omega arith) 0) in
    let behind = same-behind s c.copied.result c.eq-then-eq.result read c.eq-then-eq.ensures in
    c.reply_end.ensures ∙ sym (inside-by c.args.opening s true true (sym c.if-eq.true ∙ code) (sym c.if-eq-2.true ∙ behind))

pub returns-else-eq : goal.returns-else-eq
unfolding choose
returns-else-eq c =
    let s = c.args.content.now in
    let o = c.args.opening in
    let code = same-code s o c.code_of.result c.eq.result c.code_of.ensures c.eq.ensures in
    elim c.else-eq.branch [
      | else-eq-via-then-eq+else-eq-2 w ↦
          let read : unwrap_or w.copied.result 0 ≡ get_or s 3 0 = rw w.copied.ensures (w.get.ensures.lookup.4 (omega arith) 0) in
          let behind = same-behind s w.copied.result w.eq-then-eq.result read w.eq-then-eq.ensures in
          sym (inside-by o s true false (sym w.if-eq.true ∙ code) (sym w.if-eq-2.false ∙ behind))
      | else-eq-via-else-eq w ↦ sym (inside-by o s false _ (sym w.if-eq.false ∙ code) refl)
    ]
