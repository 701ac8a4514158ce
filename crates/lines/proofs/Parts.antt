-- The parts of a line, from the positions where they start and end.
use Rattle.std.proofs.Common.{◌≡◌, ◌∙◌, sym, true, false, List, [], ◌∷◌, ℕ, ◌+◌, ◌-◌, length, take, drop, nat_eq, arith}
use lib.ListN.{length-drop}
use lib.Seq.{drop-drop, take_all}
use Rattle.std.specs.Cmp.Lexicographic.{pointwise}
use Rattle.rules.specs.Octets.{cr, space, is, is_not, choose, run, after, trim_end}
use Rattle.rules.specs.Lines.{content, argument}
use Rattle.lines.proofs.Trims.{ends-with}

-- a line that ends with CR, and one that does not
pub content-stripped : (l : List ℕ) → pointwise nat_eq (drop (length l - 1) l) (cr ∷ []) ≡ true → take (length l - 1) l ≡ content l
unfolding content choose
content-stripped l h = rw (sym (ends-with 12 l) ∙ h)

pub content-whole : (l : List ℕ) → pointwise nat_eq (drop (length l - 1) l) (cr ∷ []) ≡ false → l ≡ content l
unfolding content choose
content-whole l h = rw (sym (ends-with 12 l) ∙ h)

-- what follows the word from b on, where the word ends at w
pub argument-text : (s : List ℕ) (w b : ℕ) → w ≡ 0 + run (is_not space) (drop 0 s) → b ≡ w + run (is space) (drop w s)
    → trim_end (is space) (take (length s - b) (drop b s)) ≡ argument s
unfolding argument after
argument-text s w b q r =
    let z : run (is_not space) s ≡ w = omega arith in
    let whole = take_all (length s - b) (drop b s) (rw length-drop (omega arith)) in
    rw (whole, z, drop-drop, ← r)
