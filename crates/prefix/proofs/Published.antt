-- The RFC's examples hold of the definitions, and so do the places of the octets and what is refused: by computation.
use mathlib.Core.Path.{◌≡◌, refl}
use mathlib.Core.List.{map}
use Rattle.rules.specs.Octets.{octets-opened}
use Rattle.prefix.specs.Prefix.{prefix_lengths, prefix-opened}
use Rattle.prefix.specs.Published.{
  places_of,
  table_of_places,
  published,
  past_length,
  into_ipv6,
  published_ipv6,
  back_to_ipv4,
  published_ipv4,
  asked_rows,
  answered,
  published-opened,
}

pub table-of-places : map places_of prefix_lengths ≡ table_of_places
unfolding octets-opened prefix-opened published-opened
table-of-places = refl

pub published-into-ipv6 : map into_ipv6 published ≡ map published_ipv6 published
unfolding octets-opened prefix-opened published-opened
published-into-ipv6 = refl

pub past-length-into-ipv6 : map into_ipv6 past_length ≡ map published_ipv6 past_length
unfolding octets-opened prefix-opened published-opened
past-length-into-ipv6 = refl

pub published-back-to-ipv4 : map back_to_ipv4 published ≡ map published_ipv4 published
unfolding octets-opened prefix-opened published-opened
published-back-to-ipv4 = refl

pub rows-answered : map answered asked_rows ≡ asked_rows
unfolding octets-opened prefix-opened published-opened
rows-answered = refl
