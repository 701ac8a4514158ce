use Rattle.std.proofs.Common.{ℕ, eqb, rules, tests, sym, ◌∙◌}
use Rattle.std.proofs.lemmas.Iterator.{YieldsList-from_slice, YieldsList-from_zip}
use Rattle.std.proofs.lemmas.Iterator.Search.{all_from_yields_List}
use Rattle.std.specs.Char.{to_ascii_uppercase}
use borrow.Author.Tests.{ne_eqb}
use Rattle.octets.proofs.Words.{alike-lengths, alike-zipped}
use Rattle.octets.proofs.alike.Goals as goal

pub returns-then-s-w : goal.returns-then-s-w
returns-then-s-w c =
    let s = c.args.s.now in
    let w = c.args.w.now in
    let all = all_from_yields_List (λ (p : ℕ × ℕ). eqb (to_ascii_uppercase p.0) p.1) c.all.new.self _ c.all.result c.all.ensures.ran
    (YieldsList-from_zip (YieldsList-from_slice s cc) (YieldsList-from_slice w cc)) (λ x b q k. search (rules, tests)) in
    all ∙ alike-zipped s w c.if-s-w.true

pub returns-else-s-w : goal.returns-else-s-w
returns-else-s-w c = ne_eqb _ _ c.if-s-w.false ∙ sym (alike-lengths _ _ c.if-s-w.false)
