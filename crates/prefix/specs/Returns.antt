-- What request 6 says of both directions together, as theorems about their definitions, proved in proofs/Returns.antt. The lengths are
-- those of the arrays that an address is.
use Rattle.std.specs.Prelude.{◌≡◌, List, ◌≢◌, ℕ, length, replicate}
use Rattle.rules.specs.Setup.{ipv6_width, ipv4_width}
use Rattle.prefix.specs.declared.PrefixAnswer.TheVariants.{Done}
use Rattle.prefix.specs.Prefix.{prefix_of, suffix_of, no_suffix, embedding, extracting}

-- "Unless refused, back and forth gives the same IPv4 address"
abbrev pub SameIpv4 : Type 0
SameIpv4 =
    (prefix : List ℕ) (n : ℕ) (ipv4 : List ℕ) → length prefix ≡ ipv6_width → length ipv4 ≡ ipv4_width → (embedding prefix n ipv4).answer ≡ Done
    → extracting (embedding prefix n ipv4).ipv6 n ≡ record { answer = Done; ipv4 = ipv4 }

-- "and the same IPv6 address where its suffix is zero and its prefix agrees"
abbrev pub SameIpv6 : Type 0
SameIpv6 =
    (prefix : List ℕ) (n : ℕ) (ipv6 : List ℕ) → length ipv6 ≡ ipv6_width → (extracting ipv6 n).answer ≡ Done
    → suffix_of n ipv6 ≡ no_suffix n → prefix_of n prefix ≡ prefix_of n ipv6
    → embedding prefix n (extracting ipv6 n).ipv4 ≡ record { answer = Done; ipv6 = ipv6 }

-- "Prefix bits past the length are not looked at"
abbrev pub NotLookedAt : Type 0
NotLookedAt =
    (prefix other : List ℕ) (n : ℕ) (ipv4 : List ℕ) → prefix_of n prefix ≡ prefix_of n other → embedding prefix n ipv4 ≡ embedding other n ipv4

-- "a refusal gives an address of zeros"
pub record RefusedZeros : Type 0 where
  pub ipv6 : (prefix : List ℕ) (n : ℕ) (ipv4 : List ℕ) → (embedding prefix n ipv4).answer ≢ Done → (embedding prefix n ipv4).ipv6 ≡ replicate ipv6_width 0
  pub ipv4 : (address : List ℕ) (n : ℕ) → (extracting address n).answer ≢ Done → (extracting address n).ipv4 ≡ replicate ipv4_width 0
