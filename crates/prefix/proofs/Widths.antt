-- Slices that are as long as their addresses, and slices that are not.
use mathlib.Core.Path.{◌≡◌, sym}
use mathlib.Core.Bool.{true, false, and-false}
use mathlib.Core.List.{List}
use Prim.Native.Nat.{ℕ}
use lib.Dec.{eqb}
use lib.ListN.{length}
use borrow.Author.Tests.{eqb-true}
use Rattle.rules.specs.Setup.{ipv6_width, ipv4_width}
use Rattle.octets.proofs.Choices.{choose-true, choose-false}
use Rattle.octets.proofs.Ranges.{and_both}
use Rattle.prefix.specs.declared.PrefixAnswer.TheVariants.{BadLength}
use Rattle.prefix.specs.Prefix.{embedding, extracting}
use Rattle.prefix.specs.Slices.{are_widths, embed_widths, embed_answer, embed_after, extract_answer, extract_after}

pub widths : (ipv6 ipv4 : ℕ) → are_widths ipv6 ipv4 ≡ true → (ipv6 ≡ ipv6_width) × (ipv4 ≡ ipv4_width)
unfolding are_widths
widths ipv6 ipv4 h =
    let both = and_both (eqb ipv6 ipv6_width) (eqb ipv4 ipv4_width) h in
    (eqb-true ipv6 ipv6_width both.0, eqb-true ipv4 ipv4_width both.1)

module _ (prefix ipv4 ipv6 : List ℕ) where
  pub first-wrong : are_widths (length prefix) (length ipv4) ≡ false → embed_widths prefix ipv4 ipv6 ≡ false
  unfolding embed_widths
  first-wrong h = rw h

  pub second-wrong : are_widths (length ipv6) (length ipv4) ≡ false → embed_widths prefix ipv4 ipv6 ≡ false
  unfolding embed_widths
  second-wrong h = rw h (and-false (are_widths (length prefix) (length ipv4)))

  pub all_right : are_widths (length prefix) (length ipv4) ≡ true → are_widths (length ipv6) (length ipv4) ≡ true → embed_widths prefix ipv4 ipv6 ≡ true
  unfolding embed_widths
  all_right h k = rw (h, k)

module _ (prefix : List ℕ) (n : ℕ) (ipv4 ipv6 : List ℕ) where
  pub embed-refused : embed_widths prefix ipv4 ipv6 ≡ false → (BadLength ≡ embed_answer prefix n ipv4 ipv6) × (ipv6 ≡ embed_after prefix n ipv4 ipv6)
  unfolding embed_answer embed_after
  embed-refused h = (sym (choose-false _ _ h), sym (choose-false _ _ h))

  pub embed-given : embed_widths prefix ipv4 ipv6 ≡ true
      → ((embedding prefix n ipv4).answer ≡ embed_answer prefix n ipv4 ipv6) × ((embedding prefix n ipv4).ipv6 ≡ embed_after prefix n ipv4 ipv6)
  unfolding embed_answer embed_after
  embed-given h = (sym (choose-true _ _ h), sym (choose-true _ _ h))

module _ (ipv6 : List ℕ) (n : ℕ) (ipv4 : List ℕ) where
  pub extract-refused : are_widths (length ipv6) (length ipv4) ≡ false → (BadLength ≡ extract_answer ipv6 n ipv4) × (ipv4 ≡ extract_after ipv6 n ipv4)
  unfolding extract_answer extract_after
  extract-refused h = (sym (choose-false _ _ h), sym (choose-false _ _ h))

  pub extract-given : are_widths (length ipv6) (length ipv4) ≡ true
      → ((extracting ipv6 n).answer ≡ extract_answer ipv6 n ipv4) × ((extracting ipv6 n).ipv4 ≡ extract_after ipv6 n ipv4)
  unfolding extract_answer extract_after
  extract-given h = (sym (choose-true _ _ h), sym (choose-true _ _ h))
