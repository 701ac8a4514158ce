-- The parts of a text read one after the other: dotted numbers, and groups.
use mathlib.Core.Path.{◌≡◌, refl, sym, ap, ◌∙◌}
use mathlib.Core.Bool.{Bool, true, false}
use mathlib.Core.List.{List, [], ◌∷◌}
use Rattle.std.specs.Prelude.{Option, None, Some}
use Rattle.std.specs.List.{position}
use Prim.Native.Nat.{ℕ, ◌+◌, ◌-◌, ◌<◌}
use native.Mathlib.Omega.{arith}
use lib.Dec.{eqb}
use lib.ListN.{length, take, drop, length-drop}
use lib.Seq.{take_all}
use Rattle.rules.specs.Octets.{choose, colon, parts}
use Rattle.rules.specs.Address.{both, octet_number, dotted, group, last_group, groups, half, halves, filled, eight_groups, ipv6_from, ipv6}
use Rattle.address.specs.Text.{within_sixteen, Reads, halves_at}
use Rattle.address.proofs.Parts.{position-found, position-none, parts-some}
use Rattle.octets.proofs.Joining.{both_end}
use Rattle.address.proofs.Readings.{reads-refl, read-on, refused, reads-eight, reads-filled}

-- the part from i on is the whole rest
pub rest_part : (s : List ℕ) (i : ℕ) → take (length s - i) (drop i s) ≡ drop i s
rest_part s i = take_all (length s - i) (drop i s) (simp length-drop (omega arith))

-- the first number of some, read or refused
pub dotted-more : (a : Option (List ℕ)) (d : List ℕ) (ds : List (List ℕ)) {r w : Option (List ℕ)} → Reads r (both a (octet_number d)) → Reads (both a (dotted (d ∷ ds))) w → Reads (both r (dotted ds)) w
unfolding dotted
dotted-more a d ds h k = read-on a (octet_number d) (dotted ds) h k

pub dotted-refused : (a : Option (List ℕ)) (d : List ℕ) (ds : List (List ℕ)) {w : Option (List ℕ)} → Reads None (both a (octet_number d)) → Reads (both a (dotted (d ∷ ds))) w → Reads None w
unfolding both
dotted-refused a d ds h k = refused (dotted ds) (dotted-more a d ds h k)

pub dotted-all : (a : Option (List ℕ)) {w : Option (List ℕ)} → Reads (both a (dotted [])) w → Reads a w
unfolding dotted
dotted-all a h = record { same = ap within_sixteen (sym (both_end a)) ∙ h.same }

groups-more : (ends : Bool) (g : List ℕ) (ps : List (List ℕ)) → 0 < length ps → groups ends (g ∷ ps) ≡ both (group g) (groups ends ps)
unfolding groups
groups-more ends g [] h = absurd (omega arith)
groups-more ends g (p ∷ ps) h = refl

-- the first group of more, read or refused, by where the first colon is
module _ (a : Option (List ℕ)) (ends : Bool) (s : List ℕ) {w : Option (List ℕ)} (whole : Reads (both a (groups ends (parts colon s))) w) where
  pub groups-on : (n : ℕ) {r : Option (List ℕ)} → position (λ y. eqb y colon) s ≡ Some n → Reads r (both a (group (take n s))) → Reads (both r (groups ends (parts colon (drop (n + 1) s)))) w
  groups-on n {r} at h =
      let e = position-found colon s n at in
      read-on a (group (take n s)) (groups ends (parts colon (drop (n + 1) s))) h
      (record { same = ap (λ o. within_sixteen (both a o)) (sym (rw e (groups-more ends (take n s) (parts colon (drop (n + 1) s)) (parts-some colon (drop (n + 1) s))))) ∙ whole.same })

  pub groups-refused : (n : ℕ) → position (λ y. eqb y colon) s ≡ Some n → Reads None (both a (group (take n s))) → Reads None w
  groups-refused n at h = refused (groups ends (parts colon (drop (n + 1) s))) (groups-on n at h)

  pub groups-end : {r : Option (List ℕ)} → position (λ y. eqb y colon) s ≡ None → Reads r (both a (choose ends (last_group s) (group s))) → Reads r w
  unfolding groups
  groups-end at h = record { same = h.same ∙ sym (rw (position-none colon s at) refl) ∙ whole.same }

-- one side of `::`
pub half-empty : (a : Option (List ℕ)) (ends : Bool) (t : List ℕ) → length t ≡ 0 → Reads a (both a (half ends t))
unfolding half
half-empty a ends [] h = record { same = ap within_sixteen (sym (both_end a)) }
half-empty a ends (x ∷ t) h = absurd (omega arith)

pub half-groups : (ends : Bool) (t : List ℕ) → (length t ≡ 0 → ⊥) → half ends t ≡ groups ends (parts colon t)
unfolding half
half-groups ends [] h = absurd (h refl)
half-groups ends (x ∷ t) h = refl

-- a text with `::` at n, and one with none
module _ (t : List ℕ) where
  pub ipv6-halves : (n : ℕ) {r q : Option (List ℕ)} → halves t ≡ halves_at (Some n) t → Reads r (both (Some []) (half false (take n t))) → Reads q (both (Some []) (half true (drop (n + 2) t))) → filled r q ≡ ipv6 t
  unfolding ipv6 ipv6_from
  ipv6-halves n at h k = rw at (reads-filled (half false (take n t)) (half true (drop (n + 2) t)) h k)

  pub ipv6-no-head : (n : ℕ) → halves t ≡ halves_at (Some n) t → Reads None (both (Some []) (half false (take n t))) → None ≡ ipv6 t
  unfolding filled
  ipv6-no-head n at h = ipv6-halves n at h (reads-refl _)

  pub ipv6-no-tail : (n : ℕ) {a : List ℕ} → halves t ≡ halves_at (Some n) t → Reads (Some a) (both (Some []) (half false (take n t))) → Reads None (both (Some []) (half true (drop (n + 2) t))) → None ≡ ipv6 t
  unfolding filled
  ipv6-no-tail n at h k = ipv6-halves n at h k

  pub ipv6-whole : {r : Option (List ℕ)} → halves t ≡ halves_at None t → Reads r (both (Some []) (groups true (parts colon t))) → eight_groups r ≡ ipv6 t
  unfolding ipv6 ipv6_from
  ipv6-whole at h = rw at (reads-eight (groups true (parts colon t)) h)

  pub ipv6-no-groups : halves t ≡ halves_at None t → Reads None (both (Some []) (groups true (parts colon t))) → None ≡ ipv6 t
  unfolding eight_groups
  ipv6-no-groups at h = ipv6-whole at h
