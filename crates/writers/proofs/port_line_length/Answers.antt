-- `writers::port_line_length` meets its contract: the lengths of the parts.
use native.Mathlib.Omega.{arith}
use mathlib.Core.Path.{ap, ◌∙◌}
use mathlib.Core.List.{List, [], ◌∷◌}
use Prim.Native.Nat.{ℕ}
use lib.ListN.{length, length-append, get_or}
use Rattle.rules.specs.Commands.{commas}
use borrow.Author.Rules.{rules}
use Rattle.writers.proofs.Lines.{port-pairs, high-low}
use Rattle.writers.proofs.port_line_length.Goals as goal

pub returns : goal.returns
returns c =
    let a = c.args in
    let octets = c.to_be_bytes.ensures ∙ high-low a.port (omega arith) in
    let last = ap (λ (l : List ℕ). length (commas (get_or l 0 0 ∷ get_or l 1 0 ∷ []))) octets in
    rw (port-pairs a.mapped a.port (search rules))
    (simp length-append
    (omega (arith, last, c.pair_length-3.ensures.result, c.pair_length-2.ensures.result, c.pair_length.ensures.result)))
