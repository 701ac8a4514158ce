-- A client octet by the place of its direction, as the code takes it apart.
use Rattle.std.specs.Prelude.{None, Some}
use mathlib.Core.Path.{◌≡◌, refl, sym, ap}
use mathlib.Core.Bool.{Bool, true, false}
use mathlib.Core.List.{List}
use Prim.Native.Nat.{ℕ}
use lib.Dec.{eqb}
use lib.ListN.{take}
use Rattle.rules.specs.Octets.{lf, choose}
use Rattle.rules.specs.declared.Switches.{Switches}
use Rattle.rules.specs.declared.Kind.{Kind}
use Rattle.rules.specs.declared.Fixed.{Fixed}
use Rattle.places.specs.declared.Place.{Place}
use Rattle.places.specs.declared.Direction.{Direction}
use Rattle.gives.specs.declared.Gives.{Gives}
use Rattle.places.specs.Places.{at}
use Rattle.upstream.specs.Upstream.{client_effect_of, place_effect, client_effect}

module _ (f : Fixed) (sw : Switches) where
  pub client-place : (d : Direction) (line : List ℕ) (x : ℕ) {p : Place} → d.place ≡ p
      → place_effect f sw p d.held (take d.held line) (eqb x lf) ≡ client_effect f sw d line x
  unfolding client_effect
  client-place d line x e = ap (λ (p : Place). place_effect f sw p d.held (take d.held line) (eqb x lf)) (sym e)

  pub client-flowing : (held : ℕ) (h : List ℕ) (b : Bool)
      → choose b (client_effect_of Gives.LineOctet (at Place.Holding 0) sw (Some Kind.Plain)) (client_effect_of Gives.LineOctet (at Place.Flowing 0) sw None)
      ≡ place_effect f sw Place.Flowing held h b
  unfolding place_effect choose
  client-flowing held h true = refl
  client-flowing held h false = refl
