-- `image::capped`: by whether the count fits.
use mathlib.Core.Path.{◌≡◌, refl}
use Rattle.std.proofs.Common.{ℕ, ◌<◌, ◌∙◌, arith, le-leb}
use borrow.Author.Tests.{lt-leb}
use Rattle.std.specs.Prelude.{Result, Ok, Err}
use Rattle.std.specs.Result.{OkIff, result_unwrap_or}
use Rattle.std.proofs.lemmas.Result.{OkIff-at_ok, OkIff-at_err}
use Rattle.rules.specs.Octets.{choose}
use Rattle.image.specs.Image.{capped}
use Rattle.image.proofs.capped.Goals as goal

capped_by : {E : Type 0} (r : Result ℕ E) (n : ℕ) → OkIff r (n < 4294967296) n → result_unwrap_or r 4294967295 ≡ capped n
unfolding capped choose
capped_by {E} (Ok x) n k =
    let ok : (n < 4294967296) × (x ≡ n) = OkIff-at_ok {E = E} (Ok x) (n < 4294967296) n x k refl in
    rw (ok.1, le-leb n 4294967295 (omega (arith, ok.0))) refl
capped_by {E} (Err e) n k = rw (lt-leb n 4294967295 (omega (arith, OkIff-at_err {E = E} (Err e) (n < 4294967296) n e k refl))) refl

pub returns : goal.returns
returns c = c.unwrap_or.ensures ∙ capped_by c.try_from.result c.args.n c.try_from.ensures
