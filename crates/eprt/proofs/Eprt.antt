-- The argument of EPRT by the parts between its delimiters, and its fields by what each was read as.
use mathlib.Core.Path.{◌≡◌, refl, sym, ap, ◌∙◌}
use mathlib.Core.Bool.{Bool, true, false, and-false}
use mathlib.Core.List.{List, [], ◌∷◌}
use Rattle.std.specs.Prelude.{None, Some}
use Prim.Native.Nat.{ℕ, ◌<◌}
use native.Mathlib.Omega.{arith}
use borrow.Author.Tests.{eq-eqb}
use lib.Dec.{eqb}
use lib.ListN.{length}
use Rattle.rules.specs.Octets.{choose, within, equal, onto_first, parts, number}
use Rattle.rules.specs.Address.{ipv6}
use Rattle.rules.specs.Commands.{three_fields, is_address, fields_argument, eprt_argument}
use Rattle.address.proofs.Parts.{parts-some}

-- ---- the delimiters

pub eprt-empty : (client s : List ℕ) → length s ≡ 0 → None ≡ eprt_argument client s
unfolding eprt_argument
eprt-empty client [] h = refl
eprt-empty client (x ∷ s) h = absurd (omega arith)

-- nothing, or something, after the fourth delimiter
end-by : (x : ℕ) (b c d t : List ℕ) → length t ≡ 0 → three_fields ([] ∷ b ∷ c ∷ d ∷ parts x t) ≡ Some (b, c, d)
unfolding three_fields parts choose
end-by x b c d [] h = refl
end-by x b c d (y ∷ t) h = absurd (omega arith)

more_by : (b c d : List ℕ) (p : List (List ℕ)) → 0 < length p → three_fields ([] ∷ b ∷ c ∷ d ∷ [] ∷ p) ≡ None
unfolding three_fields
more_by b c d [] h = absurd (omega arith)
more_by b c d (q ∷ p) h = refl

onto-by : (b c d : List ℕ) (y : ℕ) (p : List (List ℕ)) → three_fields ([] ∷ b ∷ c ∷ d ∷ onto_first y p) ≡ None
unfolding three_fields onto_first choose
onto-by b c d y [] = refl
onto-by b c d y (q ∷ []) = refl
onto-by b c d y (q ∷ r ∷ p) = refl

rest-by : (b c d : List ℕ) (y : ℕ) (p : List (List ℕ)) (t : Bool) → 0 < length p → three_fields ([] ∷ b ∷ c ∷ d ∷ choose t ([] ∷ p) (onto_first y p)) ≡ None
unfolding choose
rest-by b c d y p true h = more_by b c d p h
rest-by b c d y p false h = onto-by b c d y p

with_rest : (x : ℕ) (b c d t : List ℕ) → 0 < length t → three_fields ([] ∷ b ∷ c ∷ d ∷ parts x t) ≡ None
unfolding parts
with_rest x b c d [] h = absurd (omega arith)
with_rest x b c d (y ∷ t) h = rest-by b c d y (parts x t) (eqb y x) (parts-some x t)

module _ (client s : List ℕ) (d : ℕ) (r : List ℕ) (whole : s ≡ d ∷ r) where
  pub eprt-not : within 33 126 d ≡ false → None ≡ eprt_argument client s
  unfolding eprt_argument choose
  eprt-not e = rw (whole, e)

  module _ (fit : within 33 126 d ≡ true) where
    by-parts : eprt_argument client s ≡ fields_argument client (three_fields ([] ∷ parts d r))
    unfolding eprt_argument choose parts
    by-parts = rw (whole, fit, eq-eqb d d refl)

    pub no_protocol : parts d r ≡ r ∷ [] → None ≡ eprt_argument client s
    unfolding three_fields fields_argument
    no_protocol e = sym (by-parts ∙ rw e)

    module _ (a t : List ℕ) (at_a : parts d r ≡ a ∷ parts d t) where
      pub no_address : parts d t ≡ t ∷ [] → None ≡ eprt_argument client s
      unfolding three_fields fields_argument
      no_address e = sym (by-parts ∙ rw (at_a, e))

      module _ (b u : List ℕ) (at_b : parts d t ≡ b ∷ parts d u) where
        pub no_port : parts d u ≡ u ∷ [] → None ≡ eprt_argument client s
        unfolding three_fields fields_argument
        no_port e = sym (by-parts ∙ rw (at_a, at_b, e))

        module _ (c v : List ℕ) (at_c : parts d u ≡ c ∷ parts d v) where
          pub at-end : length v ≡ 0 → fields_argument client (Some (a, b, c)) ≡ eprt_argument client s
          at-end h = sym (by-parts ∙ rw (at_a, at_b, at_c) (ap (fields_argument client) (end-by d a b c v h)))

          pub goes-on : (length v ≡ 0 → ⊥) → None ≡ eprt_argument client s
          unfolding fields_argument
          goes-on h = sym (by-parts ∙ rw (at_a, at_b, at_c, with_rest d a b c v (omega arith)))

-- ---- the fields

module _ (client p a q : List ℕ) where
  pub other-protocol : equal p (50 ∷ []) ≡ false → None ≡ fields_argument client (Some (p, a, q))
  unfolding fields_argument choose
  other-protocol e = rw e

  pub unread-address : None ≡ ipv6 a → None ≡ fields_argument client (Some (p, a, q))
  unfolding fields_argument is_address choose
  unread-address e = rw (← e, and-false (equal p (50 ∷ [])))

  pub other-address : (o : List ℕ) → Some o ≡ ipv6 a → equal o client ≡ false → None ≡ fields_argument client (Some (p, a, q))
  unfolding fields_argument is_address choose
  other-address o e h = rw (← e, h, and-false (equal p (50 ∷ [])))

  pub own-address : (o : List ℕ) → equal p (50 ∷ []) ≡ true → Some o ≡ ipv6 a → equal o client ≡ true → number 5 1 65535 q ≡ fields_argument client (Some (p, a, q))
  unfolding fields_argument is_address choose
  own-address o d e h = rw (d, ← e, h)
