-- `arrivals::plain::is_plain_first` meets its contract: where no number is, it reads as 0.
use mathlib.Core.Path.{◌≡◌, refl, ap, ◌∙◌}
use mathlib.Core.List.{List, [], ◌∷◌}
use Prim.Native.Nat.{ℕ}
use lib.Dec.{eqb}
use lib.ListN.{get_or}
use Rattle.std.specs.Prelude.{Option, slice_get, unwrap_or}
use Rattle.arrivals.specs.PlainRuns.{is_plain_first}
use Rattle.arrivals.proofs.plain.is_plain_first.Goals as goal

first-or : (kinds : List ℕ) → unwrap_or (slice_get kinds 0) 0 ≡ get_or kinds 0 0
first-or [] = refl
first-or (k ∷ kinds) = refl

pub returns : goal.returns
unfolding is_plain_first
returns c =
    let kinds = c.args.kinds.now in
    let first = c.unwrap_or.ensures ∙ ap (λ (o : Option ℕ). unwrap_or o 0) (c.copied.ensures ∙ c.first.ensures.value) ∙ first-or kinds in
    ap (λ (n : ℕ). eqb n 0) first
