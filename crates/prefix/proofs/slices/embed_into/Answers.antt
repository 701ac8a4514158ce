-- `prefix::slices::embed_into` meets its contract: the slices are as long as the addresses, or nothing is done.
use mathlib.Core.Path.{◌≡◌, sym, ap, ◌∙◌}
use mathlib.Core.List.{List}
use Prim.Native.Nat.{ℕ}
use native.Mathlib.Omega.{arith}
use lib.ListN.{length}
use borrow.Author.Rules.{rules}
use Rattle.output.proofs.Front.{filled, fills}
use Rattle.prefix.specs.declared.Embedded.{Embedded}
use Rattle.prefix.specs.Prefix.{embedding}
use Rattle.prefix.proofs.Widths.{widths, first-wrong, second-wrong, all_right, embed-refused, embed-given}
use Rattle.prefix.proofs.slices.embed_into.Goals as goal

pub returns-then-not-are_widths : goal.returns-then-not-are_widths
returns-then-not-are_widths c =
    let a = c.args in
    let wrong = sym c.are_widths.ensures ∙ c.if-not-are_widths.true in
    let told = embed-refused a.prefix.now a.length a.ipv4.now a.ipv6.now (first-wrong a.prefix.now a.ipv4.now a.ipv6.now wrong) in
    record { answer = told.0; address = told.1 }

pub returns-then-not-are_widths-2 : goal.returns-then-not-are_widths-2
returns-then-not-are_widths-2 c =
    let a = c.args in
    let wrong = sym c.are_widths-2.ensures ∙ c.if-not-are_widths-2.true in
    let told = embed-refused a.prefix.now a.length a.ipv4.now a.ipv6.now (second-wrong a.prefix.now a.ipv4.now a.ipv6.now wrong) in
    record { answer = told.0; address = told.1 }

pub returns : goal.returns
returns c =
    let a = c.args in
    let right = sym c.are_widths.ensures ∙ c.if-not-are_widths.false in
    let right2 = sym c.are_widths-2.ensures ∙ c.if-not-are_widths-2.false in
    let both = widths (length a.prefix.now) (length a.ipv4.now) right in
    let out = widths (length a.ipv6.now) (length a.ipv4.now) right2 in
    let whole = c.array_from.ensures ∙ filled 16 a.prefix.now both.0 in
    let four = c.array_from-2 in
    let whole4 = four.ensures ∙ filled 4 a.ipv4.now both.1 in
    let made = c.embed-made in
    let size : length made.result.ipv6 ≡ 16 = search rules in
    let put = c.put.ensures.1 ∙ fills a.ipv6.now made.result.ipv6 (omega arith) in
    let given = embed-given a.prefix.now a.length a.ipv4.now a.ipv6.now (all_right a.prefix.now a.ipv4.now a.ipv6.now right right2) in
    let told = made.ensures ∙ (ap (λ (l : List ℕ). embedding l a.length four.result) whole ∙ ap (embedding a.prefix.now a.length) whole4) in
    record { answer = ap (λ (r : Embedded). r.answer) told ∙ given.0; address = put ∙ (ap (λ (r : Embedded). r.ipv6) told ∙ given.1) }
