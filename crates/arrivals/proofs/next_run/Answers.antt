-- What plain lines leave, and a run behind it unless an LF stands there: `ran_then`.
use mathlib.Core.Path.{◌≡◌, sym, subst, ◌∙◌}
use mathlib.Core.Bool.{false}
use mathlib.Core.List.{List, []}
use Prim.Native.Nat.{ℕ}
use lib.ListN.{length}
use Rattle.rules.specs.declared.Fixed.{Fixed}
use Rattle.records.specs.Sound.{side_if}
use Rattle.steps.specs.Takes.{core_lent}
use Rattle.output.proofs.Front.{filled}
use Rattle.steps.proofs.Lent.{kinds-size, lines-lent, lines-size}
use Rattle.steps.proofs.Over.{then, then-addresses}
use Rattle.arrivals.proofs.LentRuns.{run-over}
use Rattle.arrivals.proofs.Parts.{ran-bounded, ran_then}
use Rattle.rules.specs.Answers.{most_owed}
use Rattle.records.specs.Layout.{lines_size}
use Rattle.arrivals.proofs.next_run.Goals as goal

-- any setup, where what it fixed does not matter
abbrev any : Fixed
any = record { client = []; mapped = []; server = []; supported = false; strict = false }

pub returns-then-octets-j : goal.returns-then-octets-j
returns-then-octets-j c = record { ran = c.plain_lines-plain.ensures.ran; fixed = c.plain_lines-plain.ensures.fixed }

pub any_run-requires : goal.any_run-requires
any_run-requires c =
    let a = c.args in
    let p = c.plain_lines-plain in
    let lent = p.new.lent in
    let all = p.array_long in
    let before = core_lent a.control a.lent.now a.to_server.now a.to_client.now a.written in
    let after = core_lent p.result.control lent p.new.to_server p.new.to_client p.result.written in record { bounds = ran-bounded any (side_if a.from_client) a.octets.now before after a.i p.result.taken (p.ensures.ran any) c.requires.bounds; within = ((p.ensures.ran any).inside, subst (λ (m : List ℕ). length m ≡ lines_size) (sym (lines-lent lent all)) (lines-size lent all)) }

pub returns : goal.returns
returns c =
    let a = c.args in
    let side = side_if a.from_client in
    let p = c.plain_lines-plain in
    let kinds = c.array_from-kinds in
    let r = c.any_run in
    let lent = p.new.lent in
    let all = p.array_long in
    let sb = p.new.to_server in
    let cb = p.new.to_client in
    let lines = r.new.lines in
    let kept = r.auto.lines in
    let sb' = r.new.to_server in
    let cb' = r.new.to_client in
    let before = core_lent a.control a.lent.now a.to_server.now a.to_client.now a.written in
    let between = core_lent p.result.control lent sb cb p.result.written in
    let after = core_lent r.result.control (then lent lines all kept) sb' cb' r.result.written in record {
      ran = λ f. ran_then f side a.octets.now before between after a.i p.result.taken r.result.taken (p.ensures.ran f)
          (run-over lent lines all kept f side a.octets.now p.result.control r.result.control kinds.result sb cb sb' cb' p.result.written r.result.written
          p.result.taken r.result.taken (kinds.ensures ∙ filled most_owed _ (kinds-size lent all)) (r.ensures f));
      fixed = then-addresses lent lines all kept ∙ p.ensures.fixed;
    }
