-- Whether an address is one to refuse, octet by octet; and what a 227 gives by that.
use Rattle.std.specs.Prelude.{Option, Some}
use mathlib.Core.Path.{◌≡◌, refl, sym, ap, ◌∙◌}
use mathlib.Core.Bool.{Bool, true, false, ◌&&◌, not}
use mathlib.Core.List.{List, [], ◌∷◌}
use Prim.Native.Nat.{ℕ}
use native.Mathlib.Omega.{arith}
use lib.ListN.{length, get_or}
use Rattle.rules.specs.Octets.{choose, equal}
use Rattle.rules.specs.Replies.{foreign}
use Rattle.rules.specs.declared.Fixed.{Fixed}
use Rattle.rules.specs.declared.PassiveReply.{PassiveReply}
use Rattle.gives.specs.declared.Gives.{Gives}
use Rattle.downstream.specs.Downstream.{passive_effect}

module _ (f : Fixed) where
  pub not-strict : (address : List ℕ) → f.strict ≡ false → false ≡ foreign f address
  unfolding foreign
  not-strict address h = sym (ap (λ (b : Bool). b && not (equal address f.server)) h)

  strict : (address : List ℕ) {e : Bool} → f.strict ≡ true → e ≡ not (equal address f.server) → e ≡ foreign f address
  unfolding foreign
  strict address h t = t ∙ sym (ap (λ (b : Bool). b && not (equal address f.server)) h)

-- the first four octets of a list
abbrev pub first_four : List ℕ → List ℕ
first_four l = get_or l 0 0 ∷ get_or l 1 0 ∷ get_or l 2 0 ∷ get_or l 3 0 ∷ []

-- a list of four octets is no more than these
four : (l : List ℕ) → length l ≡ 4 → l ≡ first_four l
four [] h = absurd (omega arith)
four (w ∷ []) h = absurd (omega arith)
four (w ∷ x ∷ []) h = absurd (omega arith)
four (w ∷ x ∷ y ∷ []) h = absurd (omega arith)
four (w ∷ x ∷ y ∷ z ∷ []) h = refl
four (w ∷ x ∷ y ∷ z ∷ v ∷ l) h = absurd (omega arith)

-- by the tests of the four octets
pub by-octets : (f : Fixed) (address : List ℕ) {e : Bool} → length address ≡ 4 → length f.server ≡ 4 → f.strict ≡ true
    → not (equal (first_four address) (first_four f.server)) ≡ e → e ≡ foreign f address
by-octets f address h k on t =
    strict f address on
    (sym t
    ∙ sym (ap (λ (l : List ℕ). not (equal l f.server)) (four address h) ∙ ap (λ (l : List ℕ). not (equal (first_four address) l)) (four f.server k)))

-- what a 227 gives, from the answers of the functions that decide it
pub named : (f : Fixed) (n : PassiveReply) {r : Option PassiveReply} {e : Bool} {g : Gives} → g ≡ choose e Gives.CannotOpen (Gives.ExtendedPassive n.port)
    → e ≡ foreign f n.address → r ≡ Some n → g ≡ passive_effect f r
unfolding passive_effect
named f n h k q = h ∙ (ap (λ (x : Bool). choose x Gives.CannotOpen (Gives.ExtendedPassive n.port)) k ∙ ap (passive_effect f) (sym q))
