-- A setup from octets: refused, or read part by part.
use mathlib.Core.Path.{◌≡◌, sym, ◌∙◌}
use mathlib.Core.List.{List}
use Prim.Native.Nat.{ℕ, ◌+◌, ◌≤◌}
use native.Mathlib.Omega.{arith}
use lib.ListN.{length, get_or, take, drop, replicate, length-drop}
use lib.Seq.{length-take-le}
use borrow.Author.Tests.{eq-eqb, ne_eqb}
use Rattle.rules.specs.Octets.{choose}
use Rattle.rules.specs.Setup.{ipv6_width, ipv4_width, setup_size, setup_in}
use Rattle.output.specs.Buffer.{put_at}
use Rattle.output.proofs.Front.{filled}
use Rattle.setups.specs.declared.Prepared.{Prepared}
use Rattle.setups.specs.Setups.{prepared, refused_setup, prepared_from}

module _ (octets : List ℕ) where
  pub wrong_size : (length octets ≡ setup_size → ⊥) → refused_setup ≡ prepared_from octets
  unfolding prepared_from choose
  wrong_size other = rw (ne_eqb (length octets) setup_size other)

  module _ (size : length octets ≡ setup_size) where
    pub of_size : prepared_from octets ≡ prepared (setup_in octets)
    unfolding prepared_from choose
    of_size = rw (eq-eqb (length octets) setup_size size)

    -- a copy of an IPv4 address
    ipv4-at : (i : ℕ) → i + ipv4_width ≤ setup_size → put_at (replicate ipv4_width 0) 0 (take ipv4_width (drop i octets)) ≡ take ipv4_width (drop i octets)
    ipv4-at i h = filled ipv4_width (take ipv4_width (drop i octets)) (length-take-le ipv4_width (drop i octets) (omega (arith, length-drop i octets)))

    -- a setup of copies of its parts
    pub set-up : {client mapped server : List ℕ} {p : Prepared} → client ≡ put_at (replicate ipv6_width 0) 0 (take ipv6_width octets)
        → mapped ≡ put_at (replicate ipv4_width 0) 0 (take ipv4_width (drop ipv6_width octets))
        → server ≡ put_at (replicate ipv4_width 0) 0 (take ipv4_width (drop (ipv6_width + ipv4_width + 1) octets))
        → p ≡ prepared (record { client = client; mapped = mapped; flags = get_or octets (ipv6_width + ipv4_width) 0; server = server }) → p ≡ prepared_from octets
    unfolding setup_in
    set-up a b c e =
        let first = a ∙ filled ipv6_width (take ipv6_width octets) (length-take-le ipv6_width octets (omega arith)) in
        let second = b ∙ ipv4-at ipv6_width (omega arith) in
        let third = c ∙ ipv4-at (ipv6_width + ipv4_width + 1) (omega arith) in
        e ∙ ((λ i. prepared (record { client = first i; mapped = second i; flags = get_or octets (ipv6_width + ipv4_width) 0; server = third i })) ∙ sym of_size)
