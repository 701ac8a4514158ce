-- `address::Octets::push_dotted`. The invariant: the whole is read where what was read is followed by the numbers that are left.
use mathlib.Core.List.{List}
use Prim.Native.Nat.{ℕ}
use Rattle.std.specs.Prelude.{Some}
use Rattle.std.proofs.lemmas.Iterator.{YieldsList}
use Rattle.rules.specs.Octets.{dot, parts}
use Rattle.rules.specs.Address.{both, dotted}
use Rattle.address.specs.Text.{Reads}
use Rattle.address.proofs.Octets.push_dotted.Given as goal

abbrev pub invariant-loop-number : goal.invariant-loop-number
invariant-loop-number l =
    (ps : List (List ℕ)) × YieldsList goal.iterator-loop-number.next_gives (λ x. x.now) l.number-iterator ps
    × Reads (both (Some l.self) (dotted ps)) (both (Some l.initial.self) (dotted (parts dot l.text)))
