-- The line as it stands, or what the library strips.
use Rattle.std.proofs.Common.{◌≡◌, ◌∙◌, true, false, List, [], ◌∷◌, ℕ, ◌-◌, length, take, drop, nat_eq, Option, None, Some, Bor, MatchOption}
use Rattle.std.specs.Cmp.Lexicographic.{pointwise}
use Rattle.std.specs.Option.{unwrap_or}
use Rattle.rules.specs.Octets.{cr}
use Rattle.rules.specs.Lines.{content}
use Rattle.lines.proofs.Parts.{content-stripped, content-whole}
use Rattle.lines.proofs.content.Goals as goal

stripped : (Z : Bor (List ℕ) → Type 0) (line : Bor (List ℕ)) (o : Option (Bor (List ℕ)))
    → (let e = pointwise nat_eq (drop (length line.now - 1) line.now) (cr ∷ []) in
    MatchOption o (e ≡ false) (λ x. (e ≡ true) × (x.now ≡ take (length line.now - 1) line.now) × Z x))
    → (unwrap_or o line).now ≡ content line.now
stripped Z line None h = content-whole line.now h
stripped Z line (Some x) h = h.1 ∙ content-stripped line.now h.0

pub returns : goal.returns
returns c = rw c.unwrap_or.ensures (stripped _ c.args.line c.strip_suffix.result c.strip_suffix.ensures.cases)
