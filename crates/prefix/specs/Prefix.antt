-- Document 02, request 6, "Addresses by prefix": RFC 6052. An address is its octets, counted from 0.
use Rattle.std.specs.Prelude.{Bool, false, ◌||◌, not, List, [], ◌∷◌, ◌++◌, ℕ, ◌+◌, ◌-◌, ◌/◌, eqb, leb, get_or, take, drop, replicate}
use Rattle.rules.specs.Octets.{choose}
use Rattle.rules.specs.Setup.{ipv6_width, ipv4_width}
use Rattle.prefix.specs.declared.PrefixAnswer.{PrefixAnswer}
use Rattle.prefix.specs.declared.PrefixAnswer.TheVariants.{Done, BadLength, ReservedBits}
use Rattle.prefix.specs.declared.Embedded.{Embedded}
use Rattle.prefix.specs.declared.Extracted.{Extracted}

-- "for prefix lengths 32, 40, 48, 56, 64 and 96"
abbrev pub prefix_lengths : List ℕ
prefix_lengths = 32 ∷ 40 ∷ 48 ∷ 56 ∷ 64 ∷ 96 ∷ []

-- a number is one of a list
unfoldable pub is_one_of : List ℕ → ℕ → Bool
is_one_of [] n = false
is_one_of (m ∷ ms) n = eqb n m || is_one_of ms n

-- the prefix of an address: its first n bits, which are whole octets
unfoldable pub prefix_of : ℕ → List ℕ → List ℕ
prefix_of n x = take (n / 8) x

-- "bits 64 to 71": the octet that the RFC reserves
abbrev pub reserved : ℕ
reserved = 8

-- "a set bit among bits 64 to 71"
unfoldable pub has_reserved_bits : List ℕ → Bool
has_reserved_bits x = not (eqb (get_or x reserved 0) 0)

-- ---- the placing, once for every length

-- octets without the reserved one: those behind it close up
unfoldable pub without_reserved : List ℕ → List ℕ
without_reserved x = take reserved x ++ drop (reserved + 1) x

-- octets with the reserved one put in, as zero
unfoldable pub with_reserved : List ℕ → List ℕ
with_reserved y = take reserved y ++ (0 ∷ drop reserved y)

-- without it, prefix, IPv4 address and suffix stand one behind the other: where the IPv4 address begins
unfoldable pub ipv4_at : ℕ → ℕ
ipv4_at n = choose (leb (n / 8) reserved) (n / 8) (n / 8 - 1)

-- where the suffix begins
unfoldable pub suffix_at : ℕ → ℕ
suffix_at n = ipv4_at n + ipv4_width

-- the suffix of an address
unfoldable pub suffix_of : ℕ → List ℕ → List ℕ
suffix_of n x = drop (suffix_at n) (without_reserved x)

-- a suffix of zeros
unfoldable pub no_suffix : ℕ → List ℕ
no_suffix n = replicate (ipv6_width - 1 - suffix_at n) 0

-- "IPv4 into IPv6": the first bits of the prefix, the IPv4 address, and zeros; "Prefix bits past the length are not looked at"
unfoldable pub embedded : List ℕ → ℕ → List ℕ → List ℕ
embedded prefix n ipv4 = with_reserved (without_reserved (prefix_of n prefix) ++ (ipv4 ++ no_suffix n))

-- "and back": the four octets behind the prefix
unfoldable pub extracted : List ℕ → ℕ → List ℕ
extracted ipv6 n = take ipv4_width (drop (ipv4_at n) (without_reserved ipv6))

-- ---- what is refused

-- the number of an answer: "as number 9", "as number 10"
abbrev pub prefix_number : PrefixAnswer → ℕ
prefix_number Done = 0
prefix_number BadLength = 9
prefix_number ReservedBits = 10

-- "other lengths are refused as number 9, then a set bit among bits 64 to 71 .. as number 10"
unfoldable pub prefix_answer : ℕ → Bool → PrefixAnswer
prefix_answer n bits = choose (is_one_of prefix_lengths n) (choose bits ReservedBits Done) BadLength

-- "a refusal gives an address of zeros", of so many octets
unfoldable pub address_given : ℕ → PrefixAnswer → List ℕ → List ℕ
address_given width Done address = address
address_given width BadLength address = replicate width 0
address_given width ReservedBits address = replicate width 0

-- an IPv4 address put behind a prefix; number 10 is "of a prefix of 96": a shorter one has none of these bits
unfoldable pub embedding : List ℕ → ℕ → List ℕ → Embedded
embedding prefix n ipv4 =
    let answer = prefix_answer n (has_reserved_bits (prefix_of n prefix)) in
    record { answer = answer; ipv6 = address_given ipv6_width answer (embedded prefix n ipv4) }

-- the IPv4 address of an IPv6 address; number 10 is "of the address read"
unfoldable pub extracting : List ℕ → ℕ → Extracted
extracting ipv6 n =
    let answer = prefix_answer n (has_reserved_bits ipv6) in
    record { answer = answer; ipv4 = address_given ipv4_width answer (extracted ipv6 n) }

-- this page's definitions, for a proof that computes with them
unfoldable pub prefix-opened : Unit {0}
unfolding is_one_of prefix_of has_reserved_bits without_reserved with_reserved ipv4_at suffix_at suffix_of no_suffix embedded extracted prefix_answer address_given embedding extracting
prefix-opened = tt
