-- `prefix::slices::extract_into` meets its contract: the slices are as long as the addresses, or nothing is done.
use mathlib.Core.Path.{◌≡◌, sym, ap, ◌∙◌}
use mathlib.Core.List.{List}
use Prim.Native.Nat.{ℕ}
use native.Mathlib.Omega.{arith}
use lib.ListN.{length}
use borrow.Author.Rules.{rules}
use Rattle.output.proofs.Front.{filled, fills}
use Rattle.prefix.specs.declared.Extracted.{Extracted}
use Rattle.prefix.specs.Prefix.{extracting}
use Rattle.prefix.proofs.Widths.{widths, extract-refused, extract-given}
use Rattle.prefix.proofs.slices.extract_into.Goals as goal

pub returns-then-not-are_widths : goal.returns-then-not-are_widths
returns-then-not-are_widths c =
    let a = c.args in
    let told = extract-refused a.ipv6.now a.length a.ipv4.now (sym c.are_widths.ensures ∙ c.if-not-are_widths.true) in
    record { answer = told.0; address = told.1 }

pub returns : goal.returns
returns c =
    let a = c.args in
    let right = sym c.are_widths.ensures ∙ c.if-not-are_widths.false in
    let both = widths (length a.ipv6.now) (length a.ipv4.now) right in
    let whole = c.array_from.ensures ∙ filled 16 a.ipv6.now both.0 in
    let made = c.extract-taken in
    let size : length made.result.ipv4 ≡ 4 = search rules in
    let put = c.put.ensures.1 ∙ fills a.ipv4.now made.result.ipv4 (omega arith) in
    let given = extract-given a.ipv6.now a.length a.ipv4.now right in
    let told = made.ensures ∙ ap (λ (l : List ℕ). extracting l a.length) whole in
    record { answer = ap (λ (r : Extracted). r.answer) told ∙ given.0; address = put ∙ (ap (λ (r : Extracted). r.ipv4) told ∙ given.1) }
