-- `arrivals::plain::removed` meets its contract: by the reply's line.
use mathlib.Core.Path.{◌≡◌, refl, sym, ap, ◌∙◌}
use Prim.Native.Nat.{ℕ, zero, suc, min}
use native.Mathlib.Omega.{arith}
use borrow.Author.Tests.{ne_eqb}
use Rattle.rules.specs.Octets.{choose}
use Rattle.rules.specs.declared.ReplyLine.{ReplyLine}
use Rattle.arrivals.specs.PlainRuns.{plain_removes}
use Rattle.arrivals.proofs.plain.removed.Goals as goal

-- one of those owed, if any is
one-owed : (owed : ℕ) → min owed 1 ≡ plain_removes ReplyLine.Final owed
unfolding plain_removes choose
one-owed zero = refl
one-owed (suc n) = rw (ne_eqb (suc n) 0 (λ e. omega (arith, e))) (omega arith)

pub returns-in-Opens : goal.returns-in-Opens
unfolding plain_removes
returns-in-Opens c = ap (λ (r : ReplyLine). plain_removes r c.args.owed) (sym c.in-Opens.is)

pub returns-in-Belongs : goal.returns-in-Belongs
unfolding plain_removes
returns-in-Belongs c = ap (λ (r : ReplyLine). plain_removes r c.args.owed) (sym c.in-Belongs.is)

pub returns-in-Preliminary : goal.returns-in-Preliminary
unfolding plain_removes
returns-in-Preliminary c = ap (λ (r : ReplyLine). plain_removes r c.args.owed) (sym c.in-Preliminary.is)

pub returns-in-Final : goal.returns-in-Final
returns-in-Final c = c.min.ensures ∙ one-owed c.args.owed ∙ ap (λ (r : ReplyLine). plain_removes r c.args.owed) (sym c.in-Final.is)

pub returns-in-StandsAlone : goal.returns-in-StandsAlone
unfolding plain_removes
returns-in-StandsAlone c = ap (λ (r : ReplyLine). plain_removes r c.args.owed) (sym c.in-StandsAlone.is)
