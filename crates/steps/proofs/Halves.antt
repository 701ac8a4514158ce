-- The two held lines as parts of the one slice that has both: their lengths, and the slice once one of them was lent to a call and is put back.
use mathlib.Core.Path.{◌≡◌, sym, ap, subst, ◌∙◌}
use mathlib.Core.Bool.{Bool}
use mathlib.Core.List.{List, ◌++◌, append-nil}
use Prim.Native.Nat.{ℕ, ◌-◌, ◌≤◌}
use native.Mathlib.Omega.{arith}
use lib.ListN.{length, take, drop, length-drop, length-append}
use lib.Seq.{length-take-le, take_all, take_at, drop_at, drop-length}
use borrow.Rule.Slice.PartMut.{put_mid, post_of, mid_of, Post-is, take_put}
use Rattle.rules.specs.Answers.{server}
use Rattle.rules.specs.Lines.{most_held}
use Rattle.records.specs.Layout.{lines_size}
use Rattle.gives.specs.declared.Gives.{Gives}
use Rattle.records.specs.declared.Control.{Control}
use Rattle.rules.specs.declared.Fixed.{Fixed}
use Rattle.steps.specs.declared.Written.{Written}
use Rattle.steps.specs.Steps.{State, stored}
use Rattle.steps.specs.Takes.{command_in, reply_in, state_in, state_from, core_from, core_in}
use Rattle.steps.specs.Core.{LineStepped, ServerStepped}
use Rattle.steps.proofs.Octets.{length-stored}

-- the rest of a slice from n, as a part that ends where the slice does
abbrev pub rest_from : ℕ → List ℕ → List ℕ
rest_from n l = take (length l - n) (drop n l)

pub rest_from_lem : (n : ℕ) (l : List ℕ) → rest_from n l ≡ drop n l
rest_from_lem n l = take_all (length l - n) (drop n l) (omega (arith, length-drop n l))

-- such a rest when it is back, at the elements p
put_rest : (n : ℕ) (l p : List ℕ) → n ≤ length l → drop n (put_mid n (length l - n) l p) ≡ p
put_rest n l p h =
    drop_at (take n l) (p ++ post_of n (length l - n) l) n (length-take-le n l h)
    ∙ (ap (λ (r : List ℕ). p ++ r) (Post-is n (length l) l h ∙ drop-length l) ∙ append-nil p)

module _ (lines : List ℕ) (size : length lines ≡ lines_size) where
  pub command-size : length (command_in lines) ≡ most_held
  command-size = length-take-le most_held lines (omega (arith, size))

  pub reply-size : length (reply_in lines) ≡ most_held
  reply-size = length-drop most_held lines ∙ omega (arith, size)

  -- `lines[HELD..]` is lent as the octets from there to the slice's length
  pub reply-lent : mid_of most_held (length lines - most_held) lines ≡ reply_in lines
  reply-lent = rest_from_lem most_held lines

  -- the states with a line put back, in the forms that `&mut lines[..HELD]` and `&mut lines[HELD..]` leave
  pub command-back : (c : Control) (kinds line : List ℕ) → length line ≡ length (command_in lines)
      → state_in c (line ++ reply_in lines) kinds ≡ state_from c line (reply_in lines) kinds
  command-back c kinds line e =
      ap (λ (l : List ℕ). state_from c l (drop most_held (line ++ reply_in lines)) kinds) (take_at line (reply_in lines) most_held full)
      ∙ ap (λ (l : List ℕ). state_from c line l kinds) (drop_at line (reply_in lines) most_held full)
    where
      full : length line ≡ most_held
      full = e ∙ command-size

  pub reply-back : (c : Control) (kinds line : List ℕ)
      → state_in c (put_mid most_held (length lines - most_held) lines line) kinds ≡ state_from c (command_in lines) line kinds
  reply-back c kinds line =
      let starts : most_held ≤ length lines = omega arith in
      let command = take_put most_held (length lines - most_held) lines line starts in
      let rest = put_rest most_held lines line starts in
      λ i. state_from c (command i) (rest i) kinds

  -- a server octet, whose line is the rest behind the client's, and is back at `reply`
  pub server-stepped : (f : Fixed) (x : ℕ) (c : Control) (kinds to_server out : List ℕ) (w : Written) (fit : Bool) (c' : Control)
      (kinds' reply out' : List ℕ) (w' : Written) → w.server ≤ length to_server
      → ServerStepped f x c kinds (rest_from most_held lines) out w fit c' kinds' reply out' w'
      → LineStepped f server x (core_in c lines kinds to_server out w) fit
      (core_in c' (put_mid most_held (length lines - most_held) lines reply) kinds' to_server out' w')
  server-stepped f x c kinds to_server out w fit c' kinds' reply out' w' within stepped =
      subst (λ (s : State). LineStepped f server x (core_in c lines kinds to_server out w) fit (core_from s to_server out' w'))
      (sym (reply-back c' kinds' reply))
      (subst
      (λ (l : List ℕ). LineStepped f server x (core_from (state_from c (command_in lines) l kinds) to_server out w) fit
      (core_from (state_from c' (command_in lines) reply kinds') to_server out' w'))
      (rest_from_lem most_held lines)
      (stepped (command_in lines) to_server within))

  -- after an octet is held in the client's line, h
  module _ (n x : ℕ) (g : Gives) (h : List ℕ) (e : h ≡ stored (command_in lines) n x g) where
    held-size : length h ≡ most_held
    held-size = ap length e ∙ (length-stored (command_in lines) n x g ∙ command-size)

    pub held-starts : most_held ≤ length (h ++ reply_in lines)
    held-starts = omega (arith, held-size, length-append h (reply_in lines))

    pub held-command : command_in (h ++ reply_in lines) ≡ stored (command_in lines) n x g
    held-command = take_at h (reply_in lines) most_held held-size ∙ e

    pub held-reply : reply_in (h ++ reply_in lines) ≡ reply_in lines
    held-reply = drop_at h (reply_in lines) most_held held-size

    pub held-rest : rest_from most_held (h ++ reply_in lines) ≡ reply_in lines
    held-rest = rest_from_lem most_held (h ++ reply_in lines) ∙ held-reply
