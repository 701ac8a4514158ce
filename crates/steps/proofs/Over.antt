-- The lines are lent further, and are back; the kinds are put back behind an octet.
use mathlib.Core.Path.{◌≡◌, ap, subst, ◌∙◌}
use mathlib.Core.Bool.{Bool}
use mathlib.Core.List.{List}
use Prim.Native.Nat.{ℕ}
use native.Mathlib.Omega.{arith}
use lib.ListN.{length}
use borrow.Rule.Slice.PartMut.{put_mid, mid_of}
use Rattle.rules.specs.Answers.{Side, most_owed}
use Rattle.records.specs.Layout.{lent_kinds, lent_command, lent_size, lines_size}
use Rattle.records.specs.declared.Control.{Control}
use Rattle.rules.specs.declared.Fixed.{Fixed}
use Rattle.steps.specs.declared.Written.{Written}
use Rattle.steps.specs.Steps.{State}
use Rattle.steps.specs.Takes.{Core, command_in, reply_in, state_in, state_from, core_from, core_in, kinds_lent, addresses_lent, state_lent, core_lent}
use Rattle.steps.specs.Core.{Stepped}
use Rattle.steps.proofs.Lent.{put-size, lines-size, lines-lent, lines-put, lines-kinds, lines-addresses, kinds-back, kinds-addresses}

module _ (lent lines : List ℕ) (all : length lent ≡ lent_size) (kept : length lines ≡ length (mid_of lent_command lines_size lent)) where
  size : length lines ≡ lines_size
  size = kept ∙ (ap length (lines-lent lent all) ∙ lines-size lent all)

  -- the lent octets when the lines are back
  abbrev pub then : List ℕ
  then = put_mid lent_command lines_size lent lines

  pub then-size : length then ≡ lent_size
  then-size = put-size lent_command lines_size lent lines (omega (arith, all)) size ∙ all

  pub then-state : (c : Control) → state_lent c then ≡ state_in c lines (kinds_lent lent)
  then-state c =
      λ i. state_in c (lines-put lent all lines size i) (lines-kinds lent all lines size i)

  pub then-addresses : addresses_lent then ≡ addresses_lent lent
  then-addresses = lines-addresses lent all lines size

  -- what is stepped over the lines as they are lent, by what was read of the rest, is stepped over all that is lent
  pub stepped-over : (f : Fixed) (d : Side) (x : ℕ) (c : Control) (sb cb : List ℕ) (w : Written) {fixed : Fixed} {before : List ℕ} {fit : Bool} {s s' : State}
      {sb' cb' : List ℕ} {w' : Written} → fixed ≡ f → before ≡ kinds_lent lent → s ≡ s'
      → Stepped fixed d x (core_in c (mid_of lent_command lines_size lent) before sb cb w) fit (core_from s sb' cb' w')
      → Stepped f d x (core_lent c lent sb cb w) fit (core_from s' sb' cb' w')
  stepped-over f d x c sb cb w {fixed} {before} {fit} {s} {s'} {sb'} {cb'} {w'} known kinds state stepped =
      subst (λ (q : State). Stepped f d x (core_lent c lent sb cb w) fit (core_from q sb' cb' w')) state
      (subst (λ (g : Fixed). Stepped g d x (core_lent c lent sb cb w) fit (core_from s sb' cb' w')) known
      (subst (λ (k : Core). Stepped fixed d x k fit (core_from s sb' cb' w')) (λ i. core_in c (lines-lent lent all i) (kinds i) sb cb w) stepped))

  -- an octet of any kind, behind which the kinds are put back
  module _ (kinds : List ℕ) (sixteen : length kinds ≡ most_owed) where
    pub put-state : (c : Control) → state_lent c (put_mid lent_kinds most_owed then kinds) ≡ state_in c lines kinds
    put-state c =
        kinds-back then then-size kinds sixteen c
        ∙ (λ i. state_from c (command_in (lines-put lent all lines size i)) (reply_in (lines-put lent all lines size i)) kinds)

    pub put-addresses : addresses_lent (put_mid lent_kinds most_owed then kinds) ≡ addresses_lent lent
    put-addresses = kinds-addresses then then-size kinds sixteen ∙ then-addresses
