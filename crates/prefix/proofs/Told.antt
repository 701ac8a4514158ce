-- What is told of a call: its answer, and the address unless it is refused.
use mathlib.Core.Path.{◌≡◌, refl}
use mathlib.Core.Bool.{Bool, true, false}
use mathlib.Core.List.{List}
use mathlib.Core.Logic.{◌≢◌}
use Prim.Native.Nat.{ℕ, ◌≤◌}
use lib.ListN.{replicate}
use Rattle.rules.specs.Octets.{choose}
use Rattle.rules.specs.Setup.{ipv6_width, ipv4_width}
use Rattle.prefix.specs.declared.PrefixAnswer.{PrefixAnswer}
use Rattle.prefix.specs.declared.PrefixAnswer.TheVariants.{Done, BadLength, ReservedBits}
use Rattle.prefix.specs.Prefix.{
  prefix_lengths,
  is_one_of,
  prefix_of,
  has_reserved_bits,
  embedded,
  extracted,
  prefix_answer,
  address_given,
  embedding,
  extracting,
}
use Rattle.prefix.proofs.Placed.{length_most}

both-tests : (t bits : Bool) → choose t (choose bits ReservedBits Done) BadLength ≡ Done → (t ≡ true) × (bits ≡ false)
unfolding choose
both-tests true true e = (refl, cc)
both-tests true false e = (refl, refl)
both-tests false bits e = (cc, cc)

-- the answer is 0 only for a length of the list, and where no bit is set
pub done : (n : ℕ) (bits : Bool) → prefix_answer n bits ≡ Done → (is_one_of prefix_lengths n ≡ true) × (bits ≡ false)
unfolding prefix_answer
done n bits e = both-tests (is_one_of prefix_lengths n) bits e

pub is-done : (n : ℕ) (bits : Bool) → is_one_of prefix_lengths n ≡ true → bits ≡ false → prefix_answer n bits ≡ Done
unfolding prefix_answer choose
is-done n bits listed clear = rw (listed, clear)

pub done-most : (n : ℕ) (bits : Bool) → prefix_answer n bits ≡ Done → n ≤ 96
done-most n bits e = length_most n (done n bits e).0

-- the address of an answer that is 0
pub given : (width : ℕ) {answer : PrefixAnswer} {address r : List ℕ} → answer ≡ Done → r ≡ address → r ≡ address_given width answer address
unfolding address_given
given width e same = rw e same

-- and of one that is not
pub zeros_of : (width : ℕ) (answer : PrefixAnswer) (address : List ℕ) → answer ≢ Done → address_given width answer address ≡ replicate width 0
unfolding address_given
zeros_of width Done address refused = absurd (refused refl)
zeros_of width BadLength address refused = refl
zeros_of width ReservedBits address refused = refl

pub embedding-told : (prefix : List ℕ) (n : ℕ) (ipv4 : List ℕ) {bits : Bool} {answer : PrefixAnswer} {ipv6 : List ℕ}
    → bits ≡ has_reserved_bits (prefix_of n prefix) → answer ≡ prefix_answer n bits → ipv6 ≡ address_given ipv6_width answer (embedded prefix n ipv4)
    → record { answer = answer; ipv6 = ipv6 } ≡ embedding prefix n ipv4
unfolding embedding
embedding-told prefix n ipv4 b e address = rw (address, e, b)

pub extracting-told : (ipv6 : List ℕ) (n : ℕ) {bits : Bool} {answer : PrefixAnswer} {ipv4 : List ℕ}
    → bits ≡ has_reserved_bits ipv6 → answer ≡ prefix_answer n bits → ipv4 ≡ address_given ipv4_width answer (extracted ipv6 n)
    → record { answer = answer; ipv4 = ipv4 } ≡ extracting ipv6 n
unfolding extracting
extracting-told ipv6 n b e address = rw (address, e, b)
