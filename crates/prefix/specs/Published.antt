-- "Check against the RFC's published examples": RFC 6052, section 2.4, with addresses as they are written there; where the octets of the
-- IPv4 address lie for each length; and examples of what is refused.
use Rattle.std.specs.Prelude.{List, [], ◌∷◌, ◌++◌, ℕ, ◌+◌, ◌/◌, ◌%◌, ◌^◌, take, replicate}
use Rattle.rules.specs.Setup.{ipv6_width}
use Rattle.prefix.specs.declared.PrefixAnswer.TheVariants.{Done}
use Rattle.prefix.specs.declared.Embedded.{Embedded}
use Rattle.prefix.specs.declared.Extracted.{Extracted}
use Rattle.prefix.specs.Prefix.{prefix_number, extracted, embedding, extracting}

-- the octets of groups
unfoldable pub group_octets : List ℕ → List ℕ
group_octets [] = []
group_octets (g ∷ gs) = g / 256 ∷ g % 256 ∷ group_octets gs

-- an address by its first groups, as it is written with `::` behind them; the others are zero
unfoldable pub group_address : List ℕ → List ℕ
group_address groups = take ipv6_width (group_octets groups ++ replicate ipv6_width 0)

-- ---- the places of the four octets

-- the address whose octets are their own places
abbrev pub own_places : List ℕ
own_places = 0 ∷ 1 ∷ 2 ∷ 3 ∷ 4 ∷ 5 ∷ 6 ∷ 7 ∷ 8 ∷ 9 ∷ 10 ∷ 11 ∷ 12 ∷ 13 ∷ 14 ∷ 15 ∷ []

-- where the octets of the IPv4 address lie: as the definition has it
unfoldable pub places_of : ℕ → List ℕ
places_of n = extracted own_places n

-- and in numbers, for 32, 40, 48, 56, 64 and 96: octet 8 is never among them
unfoldable pub table_of_places : List (List ℕ)
table_of_places =
    (4 ∷ 5 ∷ 6 ∷ 7 ∷ [])
    ∷ (5 ∷ 6 ∷ 7 ∷ 9 ∷ [])
    ∷ (6 ∷ 7 ∷ 9 ∷ 10 ∷ [])
    ∷ (7 ∷ 9 ∷ 10 ∷ 11 ∷ [])
    ∷ (9 ∷ 10 ∷ 11 ∷ 12 ∷ [])
    ∷ (12 ∷ 13 ∷ 14 ∷ 15 ∷ [])
    ∷ []

-- ---- the RFC's section 2.4

-- a prefix and its length, and the IPv6 address that an IPv4 address has behind it
pub record Example : Type 0 where
  pub prefix : List ℕ
  pub bits : ℕ
  pub ipv4 : List ℕ
  pub ipv6 : List ℕ

-- the IPv4 address of the published ones, 192.0.2.33
abbrev pub example_ipv4 : List ℕ
example_ipv4 = 192 ∷ 0 ∷ 2 ∷ 33 ∷ []

-- an example with that
abbrev pub example : List ℕ → ℕ → List ℕ → Example
example prefix n ipv6 = record { prefix = group_address prefix; bits = n; ipv4 = example_ipv4; ipv6 = group_address ipv6 }

-- the network-specific prefixes, and the well-known one
unfoldable pub published : List Example
published =
    example (0x2001 ∷ 0xdb8 ∷ []) 32 (0x2001 ∷ 0xdb8 ∷ 0xc000 ∷ 0x221 ∷ [])
    ∷ example (0x2001 ∷ 0xdb8 ∷ 0x100 ∷ []) 40 (0x2001 ∷ 0xdb8 ∷ 0x1c0 ∷ 0x2 ∷ 0x21 ∷ [])
    ∷ example (0x2001 ∷ 0xdb8 ∷ 0x122 ∷ []) 48 (0x2001 ∷ 0xdb8 ∷ 0x122 ∷ 0xc000 ∷ 0x2 ∷ 0x2100 ∷ [])
    ∷ example (0x2001 ∷ 0xdb8 ∷ 0x122 ∷ 0x300 ∷ []) 56 (0x2001 ∷ 0xdb8 ∷ 0x122 ∷ 0x3c0 ∷ 0 ∷ 0x221 ∷ [])
    ∷ example (0x2001 ∷ 0xdb8 ∷ 0x122 ∷ 0x344 ∷ []) 64 (0x2001 ∷ 0xdb8 ∷ 0x122 ∷ 0x344 ∷ 0xc0 ∷ 0x2 ∷ 0x2100 ∷ [])
    ∷ example (0x2001 ∷ 0xdb8 ∷ 0x122 ∷ 0x344 ∷ []) 96 (0x2001 ∷ 0xdb8 ∷ 0x122 ∷ 0x344 ∷ 0 ∷ 0 ∷ 0xc000 ∷ 0x221 ∷ [])
    ∷ example (0x64 ∷ 0xff9b ∷ []) 96 (0x64 ∷ 0xff9b ∷ 0 ∷ 0 ∷ 0 ∷ 0 ∷ 0xc000 ∷ 0x221 ∷ [])
    ∷ []

-- "Prefix bits past the length are not looked at": the same from prefixes that have some
unfoldable pub past_length : List Example
past_length =
    example (0x2001 ∷ 0xdb8 ∷ 0xffff ∷ 0xffff ∷ 0xffff ∷ 0xffff ∷ 0xffff ∷ 0xffff ∷ []) 32 (0x2001 ∷ 0xdb8 ∷ 0xc000 ∷ 0x221 ∷ [])
    ∷ example (0x2001 ∷ 0xdb8 ∷ 0x1ff ∷ 0xffff ∷ 0xffff ∷ 0xffff ∷ 0xffff ∷ 0xffff ∷ []) 40 (0x2001 ∷ 0xdb8 ∷ 0x1c0 ∷ 0x2 ∷ 0x21 ∷ [])
    ∷ example (0x2001 ∷ 0xdb8 ∷ 0x122 ∷ 0xffff ∷ 0xffff ∷ 0xffff ∷ 0xffff ∷ 0xffff ∷ []) 48 (0x2001 ∷ 0xdb8 ∷ 0x122 ∷ 0xc000 ∷ 0x2 ∷ 0x2100 ∷ [])
    ∷ example (0x2001 ∷ 0xdb8 ∷ 0x122 ∷ 0x3ff ∷ 0xffff ∷ 0xffff ∷ 0xffff ∷ 0xffff ∷ []) 56 (0x2001 ∷ 0xdb8 ∷ 0x122 ∷ 0x3c0 ∷ 0 ∷ 0x221 ∷ [])
    ∷ example (0x2001 ∷ 0xdb8 ∷ 0x122 ∷ 0x344 ∷ 0xffff ∷ 0xffff ∷ 0xffff ∷ 0xffff ∷ []) 64 (0x2001 ∷ 0xdb8 ∷ 0x122 ∷ 0x344 ∷ 0xc0 ∷ 0x2 ∷ 0x2100 ∷ [])
    ∷ example (0x2001 ∷ 0xdb8 ∷ 0x122 ∷ 0x344 ∷ 0 ∷ 0 ∷ 0xffff ∷ 0xffff ∷ []) 96 (0x2001 ∷ 0xdb8 ∷ 0x122 ∷ 0x344 ∷ 0 ∷ 0 ∷ 0xc000 ∷ 0x221 ∷ [])
    ∷ []

-- an example as the definitions have it, into IPv6
unfoldable pub into_ipv6 : Example → Embedded
into_ipv6 e = embedding e.prefix e.bits e.ipv4

-- and as it is published
unfoldable pub published_ipv6 : Example → Embedded
published_ipv6 e = record { answer = Done; ipv6 = e.ipv6 }

-- the same back
unfoldable pub back_to_ipv4 : Example → Extracted
back_to_ipv4 e = extracting e.ipv6 e.bits

-- and as it is published
unfoldable pub published_ipv4 : Example → Extracted
published_ipv4 e = record { answer = Done; ipv4 = e.ipv4 }

-- ---- what is refused

-- octets that are a prefix or an address, a length, and the numbers that both directions answer
pub record Asked : Type 0 where
  pub ipv6 : List ℕ
  pub bits : ℕ
  pub into : ℕ
  pub back : ℕ

-- a row by its parts
abbrev pub asked : List ℕ → ℕ → ℕ → ℕ → Asked
asked groups n into back = record { ipv6 = group_address groups; bits = n; into = into; back = back }

-- octet 8 is the first half of the fifth group
unfoldable pub asked_rows : List Asked
asked_rows =
    -- "other lengths are refused as number 9"
    asked (0x2001 ∷ 0xdb8 ∷ []) 0 9 9
    ∷ asked (0x2001 ∷ 0xdb8 ∷ []) 31 9 9
    ∷ asked (0x2001 ∷ 0xdb8 ∷ []) 33 9 9
    ∷ asked (0x2001 ∷ 0xdb8 ∷ []) 72 9 9
    ∷ asked (0x2001 ∷ 0xdb8 ∷ []) 88 9 9
    ∷ asked (0x2001 ∷ 0xdb8 ∷ []) 95 9 9
    ∷ asked (0x2001 ∷ 0xdb8 ∷ []) 97 9 9
    ∷ asked (0x2001 ∷ 0xdb8 ∷ []) 128 9 9
    ∷ asked (0x2001 ∷ 0xdb8 ∷ []) (2 ^ 8 + 32) 9 9
    ∷ asked (0x2001 ∷ 0xdb8 ∷ []) (2 ^ 32 + 96) 9 9
    -- "then a set bit among bits 64 to 71, of the address read or of a prefix of 96, as number 10"
    ∷ asked (0x2001 ∷ 0xdb8 ∷ 0x122 ∷ 0x344 ∷ 0x100 ∷ []) 72 9 9
    ∷ asked (0x2001 ∷ 0xdb8 ∷ 0x122 ∷ 0x344 ∷ 0x100 ∷ []) 96 10 10
    ∷ asked (0x2001 ∷ 0xdb8 ∷ 0x122 ∷ 0x344 ∷ 0x8000 ∷ []) 96 10 10
    ∷ asked (0x2001 ∷ 0xdb8 ∷ 0x122 ∷ 0x344 ∷ 0xff ∷ []) 96 0 0
    ∷ asked (0x2001 ∷ 0xdb8 ∷ 0x122 ∷ 0x344 ∷ 0x100 ∷ []) 64 0 10
    ∷ asked (0x2001 ∷ 0xdb8 ∷ 0x122 ∷ 0x344 ∷ 0x100 ∷ []) 32 0 10
    ∷ []

-- a row as the definitions have it
unfoldable pub answered : Asked → Asked
answered r =
    record {
      ipv6 = r.ipv6;
      bits = r.bits;
      into = prefix_number (embedding r.ipv6 r.bits example_ipv4).answer;
      back = prefix_number (extracting r.ipv6 r.bits).answer;
    }

-- this page's definitions, for a proof that computes with them
unfoldable pub published-opened : Unit {0}
unfolding group_octets group_address places_of table_of_places published past_length into_ipv6 published_ipv6 back_to_ipv4 published_ipv4 asked_rows answered
published-opened = tt
