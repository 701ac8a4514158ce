-- Back and forth, the bits that are not looked at, and what a refusal gives.
use mathlib.Core.Path.{◌≡◌, refl, sym, ap, ◌∙◌}
use mathlib.Core.Bool.{Bool, true, false}
use mathlib.Core.List.{List}
use Prim.Native.Nat.{ℕ}
use lib.Dec.{ltb}
use borrow.Author.Tests.{ltb-true, ltb-false}
use Rattle.rules.specs.Setup.{ipv6_width, ipv4_width}
use Rattle.prefix.specs.Prefix.{prefix_of, has_reserved_bits, embedded, extracted, address_given, embedding, extracting}
use Rattle.prefix.specs.Returns.{SameIpv4, SameIpv6, NotLookedAt, RefusedZeros}
use Rattle.prefix.proofs.Placed.{prefix_none, prefix_same, extracted-embedded, embedded-clear, embedded-extracted}
use Rattle.prefix.proofs.Told.{done, is-done, done-most, given, zeros_of, embedding-told, extracting-told}

-- a prefix has no bit there that its address has not
prefix-clear : (n : ℕ) (ipv6 : List ℕ) → has_reserved_bits ipv6 ≡ false → has_reserved_bits (prefix_of n ipv6) ≡ false
prefix-clear n ipv6 clear = by_length (ltb n 72) refl
  where
    by_length : (t : Bool) → ltb n 72 ≡ t → has_reserved_bits (prefix_of n ipv6) ≡ false
    by_length true e = prefix_none n ipv6 (ltb-true n 72 e)
    by_length false e = prefix_same n ipv6 (ltb-false n 72 e) ∙ clear

pub same-ipv4 : SameIpv4
unfolding embedding address_given
same-ipv4 prefix n ipv4 size four e =
    let listed = (done n (has_reserved_bits (prefix_of n prefix)) e).0 in
    let most = done-most n (has_reserved_bits (prefix_of n prefix)) e in
    rw e
    (sym
    (extracting-told (embedded prefix n ipv4) n (sym (embedded-clear n most prefix ipv4 size four)) (sym (is-done n false listed refl))
    (given ipv4_width refl (sym (extracted-embedded n most prefix ipv4 size four)))))

pub same-ipv6 : SameIpv6
unfolding extracting address_given
same-ipv6 prefix n ipv6 size e suffix agrees =
    let listed = (done n (has_reserved_bits ipv6) e).0 in
    let clear = (done n (has_reserved_bits ipv6) e).1 in
    let most = done-most n (has_reserved_bits ipv6) e in
    let bits : has_reserved_bits (prefix_of n prefix) ≡ false = ap has_reserved_bits agrees ∙ prefix-clear n ipv6 clear in
    rw e
    (sym
    (embedding-told prefix n (extracted ipv6 n) (sym bits) (sym (is-done n false listed refl))
    (given ipv6_width refl (sym (embedded-extracted n most prefix ipv6 size clear suffix agrees)))))

pub not-looked-at : NotLookedAt
unfolding embedding embedded
not-looked-at prefix other n ipv4 agrees = rw agrees

pub refused-zeros : RefusedZeros
unfolding embedding extracting
refused-zeros =
    record {
      ipv6 = λ prefix n ipv4 h. zeros_of _ _ _ h;
      ipv4 = λ address n h. zeros_of _ _ _ h;
    }
