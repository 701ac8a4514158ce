-- Addresses in slices, as a host in C lends them: a slice of another length than its address is refused, and nothing is written.
use Rattle.std.specs.Prelude.{Bool, ◌&&◌, List, ℕ, eqb, length}
use Rattle.rules.specs.Octets.{choose}
use Rattle.rules.specs.Setup.{ipv6_width, ipv4_width}
use Rattle.prefix.specs.declared.PrefixAnswer.{PrefixAnswer}
use Rattle.prefix.specs.declared.PrefixAnswer.TheVariants.{BadLength}
use Rattle.prefix.specs.Prefix.{embedding, extracting}

-- a slice for an IPv6 address has its octets, and one for an IPv4 address
unfoldable pub are_widths : ℕ → ℕ → Bool
are_widths ipv6 ipv4 = eqb ipv6 ipv6_width && eqb ipv4 ipv4_width

-- the slices of a prefix, of an IPv4 address and of what is made of them
unfoldable pub embed_widths : List ℕ → List ℕ → List ℕ → Bool
embed_widths prefix ipv4 ipv6 = are_widths (length prefix) (length ipv4) && are_widths (length ipv6) (length ipv4)

-- the answer: number 9 for a slice of another length, before all else
unfoldable pub embed_answer : List ℕ → ℕ → List ℕ → List ℕ → PrefixAnswer
embed_answer prefix n ipv4 ipv6 = choose (embed_widths prefix ipv4 ipv6) (embedding prefix n ipv4).answer BadLength

-- what then stands in the slice of the IPv6 address
unfoldable pub embed_after : List ℕ → ℕ → List ℕ → List ℕ → List ℕ
embed_after prefix n ipv4 ipv6 = choose (embed_widths prefix ipv4 ipv6) (embedding prefix n ipv4).ipv6 ipv6

-- the same back
unfoldable pub extract_answer : List ℕ → ℕ → List ℕ → PrefixAnswer
extract_answer ipv6 n ipv4 = choose (are_widths (length ipv6) (length ipv4)) (extracting ipv6 n).answer BadLength

-- what then stands in the slice of the IPv4 address
unfoldable pub extract_after : List ℕ → ℕ → List ℕ → List ℕ
extract_after ipv6 n ipv4 = choose (are_widths (length ipv6) (length ipv4)) (extracting ipv6 n).ipv4 ipv4
