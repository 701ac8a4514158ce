-- A run over what is lent: the lines are lent further, and of them the one whose direction runs.
use mathlib.Core.Path.{◌≡◌, sym, subst, ◌∙◌}
use mathlib.Core.List.{List, ◌++◌}
use Prim.Native.Nat.{ℕ, ◌-◌}
use lib.ListN.{length}
use borrow.Rule.Slice.PartMut.{mid_of, put_mid}
use Rattle.rules.specs.Answers.{Side, client, server}
use Rattle.rules.specs.Lines.{most_held}
use Rattle.records.specs.Layout.{lent_command, lent_size, lines_size}
use Rattle.rules.specs.declared.Telnet.{Telnet}
use Rattle.records.specs.Controls.{with_client, with_server, layer_in}
use Rattle.records.specs.Sound.{direction_of}
use Rattle.records.specs.declared.Control.{Control}
use Rattle.rules.specs.declared.Fixed.{Fixed}
use Rattle.steps.specs.declared.Written.{Written}
use Rattle.steps.specs.Steps.{State}
use Rattle.steps.specs.Takes.{Core, command_in, reply_in, state_from, state_in, core_from, core_in, kinds_lent, core_lent}
use Rattle.steps.specs.Core.{Bounded}
use Rattle.steps.proofs.Lent.{lines-lent}
use Rattle.steps.proofs.Over.{then, then-state}
use Rattle.steps.proofs.Through.{Clear}
use Rattle.steps.proofs.Halves.{command-size, reply-size, reply-lent, command-back, reply-back}
use Rattle.arrivals.specs.declared.running.DirectionRun.{DirectionRun}
use Rattle.arrivals.specs.Runs.{line_of, Quiet, DirectionRan, Ran}
use Rattle.arrivals.proofs.Runs.{Open}
use Rattle.arrivals.proofs.Parts.{buffer_of, position_of, core_ran, ran-moved}

module _ (lent lines : List ℕ) (all : length lent ≡ lent_size) (kept : length lines ≡ length (mid_of lent_command lines_size lent)) where
  pub run-over : (f : Fixed) (d : Side) (l : List ℕ) (c c' : Control) (kinds sb cb sb' cb' : List ℕ) (w w' : Written) (i j : ℕ)
      → kinds ≡ kinds_lent lent
      → Ran f d l (core_in c (mid_of lent_command lines_size lent) kinds sb cb w) i (core_in c' lines kinds sb' cb' w') j
      → Ran f d l (core_lent c lent sb cb w) i (core_lent c' (then lent lines all kept) sb' cb' w') j
  run-over f d l c c' kinds sb cb sb' cb' w w' i j e ran =
      subst (λ (s : State). Ran f d l (core_lent c lent sb cb w) i (core_from s sb' cb' w') j) (sym (then-state lent lines all kept c'))
      (subst (λ (m : List ℕ). Ran f d l (core_in c m (kinds_lent lent) sb cb w) i (core_in c' lines (kinds_lent lent) sb' cb' w') j)
      (lines-lent lent all)
      (subst (λ (k : List ℕ). Ran f d l (core_in c (mid_of lent_command lines_size lent) k sb cb w) i (core_in c' lines k sb' cb' w') j) e ran))

-- a run of one direction, whose line is lent further than the other's
module _ (f : Fixed) (d : Side) (l : List ℕ) (c : Control) (lines kinds sb cb : List ℕ) (w : Written) (i : ℕ) (size : length lines ≡ lines_size)
    (bounds : Bounded c w sb cb) (quiet : Quiet c kinds) (clear : (layer_in d c).telnet ≡ Telnet.Clear) (queue : Open d (state_in c lines kinds)) where
  abbrev k : Core
  k = core_in c lines kinds sb cb w

  -- where the code asked for the side
  of-side : {r : DirectionRun} {line out : List ℕ} (e : Side) → d ≡ e → length (line_of e k.state) ≡ most_held
      → DirectionRan l i (direction_of e c) (line_of e k.state) (buffer_of e k) (position_of e k) r line out
      → Ran f d l k i (core_ran e k r.direction line out r.at) r.taken
  of-side {r} {line} {out} e same array ran =
      subst (λ (s : Side). Ran f s l k i (core_ran e k r.direction line out r.at) r.taken) (sym same)
      (ran-moved f e l k i r.taken ran.forward ran.inside (quiet (command_in lines) (reply_in lines))
      (subst (λ (s : Side). Clear s k.state) same clear) (subst (λ (s : Side). Open s k.state) same queue) bounds.server bounds.client array ran.moved)

  pub command-ran : {r : DirectionRun} {line out : List ℕ} {c' : Control} → d ≡ client → length line ≡ length (command_in lines)
      → DirectionRan l i c.client (command_in lines) sb w.server r line out
      → c' ≡ with_client c c.switches r.direction c.owed
      → Ran f d l k i (core_in c' (line ++ reply_in lines) kinds out cb (record { server = r.at; client = w.client })) r.taken
  command-ran {r} {line} {out} {c'} same kept ran built =
      subst (λ (s : State). Ran f d l k i (core_from s out cb (record { server = r.at; client = w.client })) r.taken)
      (sym (command-back lines size c' kinds line kept ∙ (λ t. state_from (built t) line (reply_in lines) kinds)))
      (of-side client same (command-size lines size) ran)

  pub reply-ran : {r : DirectionRun} {line out : List ℕ} {c' : Control} → d ≡ server
      → DirectionRan l i c.server (mid_of most_held (length lines - most_held) lines) cb w.client r line out
      → c' ≡ with_server c r.direction c.owed c.opening
      → Ran f d l k i (core_in c' (put_mid most_held (length lines - most_held) lines line) kinds sb out (record { server = w.server; client = r.at })) r.taken
  reply-ran {r} {line} {out} {c'} same ran built =
      subst (λ (s : State). Ran f d l k i (core_from s sb out (record { server = w.server; client = r.at })) r.taken)
      (sym (reply-back lines size c' kinds line ∙ (λ t. state_from (built t) (command_in lines) line kinds)))
      (of-side server same (reply-size lines size)
      (subst (λ (m : List ℕ). DirectionRan l i c.server m cb w.client r line out) (reply-lent lines size) ran))
