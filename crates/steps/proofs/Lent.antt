-- What is lent of a record, once a part of it was lent further and is back: that part is new, and all others are as they were.
use mathlib.Core.Path.{◌≡◌, sym, ap, ◌∙◌}
use mathlib.Core.Bool.{Bool}
use mathlib.Core.List.{List, ◌++◌, append-nil}
use Prim.Native.Nat.{ℕ, ◌+◌, ◌-◌, ◌≤◌, ◌<◌}
use native.Mathlib.Omega.{arith}
use lib.ListN.{length, take, drop, set, length-drop, drop_of_length-le}
use lib.Seq.{length-take-le, take-take, take_all, take-add, take_at, drop_at, drop-drop}
use borrow.Rule.Slice.PartMut.{put_mid, mid_of, post_of, same_len_mid, set_mid_at}
use Rattle.rules.specs.Lines.{most_held}
use Rattle.rules.specs.Answers.{most_owed}
use Rattle.rules.specs.Setup.{ipv6_width, ipv4_width}
use Rattle.records.specs.Layout.{lent_mapped, lent_server_address, lent_kinds, lent_command, lent_reply, lent_size, lines_size}
use Rattle.records.specs.declared.Control.{Control}
use Rattle.steps.specs.Takes.{command_in, reply_in, state_from, addresses_lent, fixed_lent, kinds_lent, lines_lent, state_lent}

-- ---- any part of a list

-- octets from b on are the end of those up to b + m
pub from_front : (b m : ℕ) (l : List ℕ) → b ≤ length l → take m (drop b l) ≡ drop b (take (b + m) l)
from_front b m l h = sym (ap (drop b) (take-add b m l) ∙ drop_at (take b l) (take m (drop b l)) b (length-take-le b l h))

module _ (a n : ℕ) (l p : List ℕ) (within : a + n ≤ length l) (size : length p ≡ n) where
  abbrev now : List ℕ
  now = put_mid a n l p

  pub put-size : length now ≡ length l
  put-size =
      same_len_mid a n l p (size ∙ sym (length-take-le n (drop a l) (omega (arith, length-drop a l))))

  put-from : drop a now ≡ p ++ post_of a n l
  put-from = drop_at (take a l) (p ++ post_of a n l) a (length-take-le a l (omega arith))

  pub put-part : take n (drop a now) ≡ p
  put-part = ap (take n) put-from ∙ take_at p (post_of a n l) n size

  pub put_front : (m : ℕ) → m ≤ a → take m now ≡ take m l
  put_front m h =
      sym (take-take m a now h)
      ∙ (ap (take m) (take_at (take a l) (p ++ post_of a n l) a (length-take-le a l (omega arith))) ∙ take-take m a l h)

  pub put-before : (b m : ℕ) → b + m ≤ a → take m (drop b now) ≡ take m (drop b l)
  put-before b m h =
      from_front b m now (omega (arith, put-size))
      ∙ (ap (drop b) (put_front (b + m) h) ∙ sym (from_front b m l (omega arith)))

  put_post : drop (a + n) now ≡ drop (a + n) l
  put_post = sym (drop-drop n a now) ∙ (ap (drop n) put-from ∙ (drop_at p (post_of a n l) n size ∙ drop-drop n a l))

  pub put-behind : (b : ℕ) → a + n ≤ b → drop b now ≡ drop b l
  put-behind b h =
      let k : a + n + (b - (a + n)) ≡ b = omega arith in
      ap (λ (j : ℕ). drop j now) (sym k)
      ∙ (sym (drop-drop (b - (a + n)) (a + n) now)
      ∙ (ap (drop (b - (a + n))) put_post ∙ (drop-drop (b - (a + n)) (a + n) l ∙ ap (λ (j : ℕ). drop j l) k)))

-- ---- the parts of what is lent

module _ (lent : List ℕ) (all : length lent ≡ lent_size) where
  pub kinds-size : length (kinds_lent lent) ≡ most_owed
  kinds-size = length-take-le most_owed (drop lent_kinds lent) (omega (arith, all, length-drop lent_kinds lent))

  pub lines-size : length (lines_lent lent) ≡ lines_size
  lines-size = length-drop lent_command lent ∙ omega (arith, all)

  -- an address behind the client's is as it was where all of them are
  address_same : (before : List ℕ) → length before ≡ lent_size → addresses_lent lent ≡ addresses_lent before → (b : ℕ) → b + ipv4_width ≤ lent_kinds
      → take ipv4_width (drop b lent) ≡ take ipv4_width (drop b before)
  address_same before size e b h =
      let front = sym (take-take (b + ipv4_width) lent_kinds lent h) ∙ (ap (take (b + ipv4_width)) e ∙ take-take (b + ipv4_width) lent_kinds before h) in
      from_front b ipv4_width lent (omega (arith, all)) ∙ (ap (drop b) front ∙ sym (from_front b ipv4_width before (omega arith)))

  -- and so is what a setup fixed
  pub fixed_same : (before : List ℕ) → length before ≡ lent_size → addresses_lent lent ≡ addresses_lent before → (supported strict : Bool)
      → fixed_lent supported strict lent ≡ fixed_lent supported strict before
  fixed_same before size e supported strict =
      let client = sym (take-take ipv6_width lent_kinds lent (omega arith)) ∙ (ap (take ipv6_width) e ∙ take-take ipv6_width lent_kinds before (omega arith)) in
      let mapped = address_same before size e lent_mapped (omega arith) in
      let server = address_same before size e lent_server_address (omega arith) in
      λ i. record { client = client i; mapped = mapped i; server = server i; supported = supported; strict = strict }

  -- the kinds
  module _ (p : List ℕ) (size : length p ≡ most_owed) where
    pub kinds-addresses : addresses_lent (put_mid lent_kinds most_owed lent p) ≡ addresses_lent lent
    kinds-addresses = put_front lent_kinds most_owed lent p (omega (arith, all)) size lent_kinds (omega arith)

    pub kinds-back : (c : Control) → state_lent c (put_mid lent_kinds most_owed lent p) ≡ state_from c (command_in (lines_lent lent)) (reply_in (lines_lent lent)) p
    kinds-back c =
        let kinds = put-part lent_kinds most_owed lent p (omega (arith, all)) size in
        let lines = put-behind lent_kinds most_owed lent p (omega (arith, all)) size lent_command (omega arith) in
        λ i. state_from c (command_in (lines i)) (reply_in (lines i)) (kinds i)

  -- the client's line
  module _ (p : List ℕ) (size : length p ≡ most_held) where
    pub command-addresses : addresses_lent (put_mid lent_command most_held lent p) ≡ addresses_lent lent
    command-addresses = put_front lent_command most_held lent p (omega (arith, all)) size lent_kinds (omega arith)

    pub command-kinds : kinds_lent (put_mid lent_command most_held lent p) ≡ kinds_lent lent
    command-kinds = put-before lent_command most_held lent p (omega (arith, all)) size lent_kinds most_owed (omega arith)

    pub command-back : (c : Control) → state_lent c (put_mid lent_command most_held lent p) ≡ state_from c p (reply_in (lines_lent lent)) (kinds_lent lent)
    command-back c =
        let command = put-part lent_command most_held lent p (omega (arith, all)) size in
        let behind = put-behind lent_command most_held lent p (omega (arith, all)) size lent_reply (omega arith) in
        let reply = drop-drop most_held lent_command (put_mid lent_command most_held lent p) ∙ (behind ∙ sym (drop-drop most_held lent_command lent)) in
        λ i. state_from c (command i) (reply i) (command-kinds i)

  -- the server's line
  module _ (p : List ℕ) (size : length p ≡ most_held) where
    pub reply-addresses : addresses_lent (put_mid lent_reply most_held lent p) ≡ addresses_lent lent
    reply-addresses = put_front lent_reply most_held lent p (omega (arith, all)) size lent_kinds (omega arith)

    pub reply-kinds : kinds_lent (put_mid lent_reply most_held lent p) ≡ kinds_lent lent
    reply-kinds = put-before lent_reply most_held lent p (omega (arith, all)) size lent_kinds most_owed (omega arith)

    pub reply-back : (c : Control) → state_lent c (put_mid lent_reply most_held lent p) ≡ state_from c (command_in (lines_lent lent)) p (kinds_lent lent)
    reply-back c =
        let command = put-before lent_reply most_held lent p (omega (arith, all)) size lent_command most_held (omega arith) in
        let none = drop_of_length-le (drop lent_reply lent) {i = most_held} (omega (arith, all, length-drop lent_reply lent)) in
        let from = put-from lent_reply most_held lent p (omega (arith, all)) size in
        let reply = drop-drop most_held lent_command (put_mid lent_reply most_held lent p) ∙ (from ∙ (ap (λ (l : List ℕ). p ++ l) none ∙ append-nil p)) in
        λ i. state_from c (command i) (reply i) (reply-kinds i)

  -- both lines, lent as all octets from 40 on
  pub lines-lent : mid_of lent_command lines_size lent ≡ lines_lent lent
  lines-lent = take_all lines_size (drop lent_command lent) (omega (arith, all, length-drop lent_command lent))

  module _ (p : List ℕ) (size : length p ≡ lines_size) where
    pub lines-addresses : addresses_lent (put_mid lent_command lines_size lent p) ≡ addresses_lent lent
    lines-addresses = put_front lent_command lines_size lent p (omega (arith, all)) size lent_kinds (omega arith)

    pub lines-kinds : kinds_lent (put_mid lent_command lines_size lent p) ≡ kinds_lent lent
    lines-kinds = put-before lent_command lines_size lent p (omega (arith, all)) size lent_kinds most_owed (omega arith)

    pub lines-put : lines_lent (put_mid lent_command lines_size lent p) ≡ p
    lines-put =
        let none = drop_of_length-le (drop lent_command lent) {i = lines_size} (omega (arith, all, length-drop lent_command lent)) in
        put-from lent_command lines_size lent p (omega (arith, all)) size ∙ (ap (λ (l : List ℕ). p ++ l) none ∙ append-nil p)

  -- a kind stored behind those owed
  pub kind-stored : (n x : ℕ) → n < most_owed → set lent (lent_kinds + n) x ≡ put_mid lent_kinds most_owed lent (set (kinds_lent lent) n x)
  kind-stored n x h = sym (set_mid_at lent_kinds most_owed n lent x (omega (arith, kinds-size)))
