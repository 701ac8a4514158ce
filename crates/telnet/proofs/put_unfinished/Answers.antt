-- `telnet::put_unfinished` meets its contract: where nothing is unfinished, nothing is put.
use Rattle.std.proofs.Common.{◌≡◌, [], sym, ap}
use mathlib.Core.Logic.{inl, inr}
use Rattle.rules.specs.Telnet.{unfinished}
use Rattle.output.proofs.Placing.{written, nothing_put}
use Rattle.telnet.proofs.put_unfinished.Goals as goal

pub returns-in-Clear : goal.returns-in-Clear
returns-in-Clear c =
    let none : [] ≡ unfinished c.args.telnet = elim c.in-Clear.is [
      | inl e ↦ ap unfinished (sym e)
      | inr other ↦ elim other [ inl e ↦ ap unfinished (sym e) | inr e ↦ ap unfinished (sym e) ]
    ] in
    written _ _ none (nothing_put _ _)
