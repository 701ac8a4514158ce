-- A server octet by the place of its direction, as the code takes it apart.
use Rattle.rules.specs.declared.Kind.{Kind}
use Rattle.std.specs.Prelude.{Option}
use mathlib.Core.Path.{◌≡◌, refl, sym, ap}
use mathlib.Core.Bool.{Bool, true, false}
use mathlib.Core.List.{List}
use Prim.Native.Nat.{ℕ}
use lib.Dec.{eqb}
use Rattle.rules.specs.Octets.{lf, choose}
use Rattle.rules.specs.declared.Fixed.{Fixed}
use Rattle.places.specs.declared.Place.{Place}
use Rattle.places.specs.declared.Direction.{Direction}
use Rattle.gives.specs.declared.Gives.{Gives}
use Rattle.places.specs.Places.{at}
use Rattle.downstream.specs.Downstream.{server_effect_of, flowing_line, reply_effect, server_effect}

module _ (f : Fixed) (u : ℕ) (o : Option Kind) where
  pub server-place : (d : Direction) (line : List ℕ) (x : ℕ) {p : Place} → d.place ≡ p
      → reply_effect f u o p d.held line (eqb x lf) ≡ server_effect f u o d line x
  unfolding server_effect
  server-place d line x e = ap (λ (p : Place). reply_effect f u o p d.held line (eqb x lf)) (sym e)

  pub server-flowing : (held : ℕ) (line : List ℕ) (b : Bool)
      → choose b (flowing_line u o line) (server_effect_of Gives.LineOctet (at Place.Flowing 0) 0 u) ≡ reply_effect f u o Place.Flowing held line b
  unfolding reply_effect choose
  server-flowing held line true = refl
  server-flowing held line false = refl
