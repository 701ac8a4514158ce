-- `writers::put_pair` meets its contract: a number, a comma, the other number and the octets, one after another.
use mathlib.Core.Path.{subst, ap}
use mathlib.Core.List.{List, [], ◌∷◌, ◌++◌}
use Prim.Native.Nat.{ℕ}
use Rattle.rules.specs.Octets.{comma, decimal}
use Rattle.output.specs.Buffer.{PutInRoom}
use Rattle.output.proofs.Placing.{joined, written}
use Rattle.writers.proofs.Lines.{pair}
use Rattle.writers.proofs.put_pair.Goals as goal

pub returns : goal.returns
returns c =
    let a = c.args in
    subst
    (λ (l : List ℕ). PutInRoom a.out.now a.at l c.put.result c.put.new.out)
    (pair a.a a.b a.after.now)
    (joined a.out.now a.at (decimal a.a ++ (comma ∷ [])) (decimal a.b ++ a.after.now)
    (joined a.out.now a.at (decimal a.a) (comma ∷ []) (λ _. written _ _ (ap decimal c.from.ensures) c.put_decimal-next.ensures) (λ _. c.put-next.ensures))
    (joined c.put-next.new.out c.put-next.result (decimal a.b) a.after.now (λ _. written _ _ (ap decimal c.from-2.ensures) c.put_decimal-next-2.ensures)
    (λ _. c.put.ensures)))
