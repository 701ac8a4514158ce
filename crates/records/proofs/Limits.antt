-- Whether the queue is full, and whether counts can be held, by the tests of the code.
use mathlib.Core.Path.{◌≡◌, sym, ◌∙◌}
use mathlib.Core.Bool.{Bool, true, false, ◌&&◌}
use Prim.Native.Nat.{ℕ, ◌≤◌}
use lib.Dec.{leb}
use borrow.Author.Tests.{le-leb, leb-true}
use Rattle.rules.specs.Lines.{judged, most_held}
use Rattle.rules.specs.Answers.{most_owed, is_queue_full}
use Rattle.octets.proofs.Ranges.{and_both}
use Rattle.records.specs.declared.Control.{Control}
use Rattle.records.specs.Sound.{holdable, Counted, side_if}

pub full-by-count : (b p : Bool) (owed : ℕ) → b ≡ true → p ≡ false → leb most_owed owed ≡ is_queue_full (side_if b) p owed
unfolding is_queue_full
full-by-count b p owed e q = rw (e, q)

module _ (c : Control) where
  pub holdable-by-reply : c.owed ≤ most_owed → c.client.held ≤ most_held → leb c.server.held most_held ≡ holdable c
  unfolding holdable judged
  holdable-by-reply few held = rw (le-leb c.owed most_owed few, le-leb c.client.held most_held held)

  pub counts-holdable : c.owed ≤ most_owed → c.client.held ≤ most_held → c.server.held ≤ most_held → holdable c ≡ true
  counts-holdable few command reply = sym (holdable-by-reply few command) ∙ le-leb c.server.held most_held reply

  pub holdable-counts : holdable c ≡ true → Counted c
  unfolding holdable judged
  holdable-counts h =
      let a = and_both (leb c.owed most_owed && leb c.client.held most_held) (leb c.server.held most_held) h in
      let b = and_both (leb c.owed most_owed) (leb c.client.held most_held) a.0 in
      record { owed = leb-true c.owed most_owed b.0; command = leb-true c.client.held most_held b.1; reply = leb-true c.server.held most_held a.1 }
