-- The side of a direction's number, and what its Telnet state leaves unfinished.
use mathlib.Core.Path.{◌≡◌, refl, ap, ◌∙◌}
use mathlib.Core.Bool.{Bool, true, false}
use Prim.Native.Nat.{ℕ, zero, suc}
use lib.Dec.{eqb, eqb-suc-zero}
use Rattle.rules.specs.Answers.{Side, server, side_of}
use Rattle.rules.specs.Telnet.{unfinished, unfinished_in}
use Rattle.rules.specs.declared.Telnet.{Telnet}
use Rattle.places.specs.Places.{is_in_lines}
use Rattle.records.specs.declared.Control.{Control}
use Rattle.records.specs.Sound.{side_if, direction_of}
use Rattle.records.specs.Controls.{layer_in, where_read, telnet_read, unfinished_of}

pub not-zero : (d : ℕ) → (d ≡ 0 → ⊥) → side_of d ≡ server
not-zero zero h = absurd (h refl)
not-zero (suc d) h = refl

-- the side that the code's test names
pub side-tested : (d : ℕ) → side_if (eqb d 0) ≡ side_of d
side-tested zero = refl
side-tested (suc d) = rw (eqb-suc-zero d)

-- what a Telnet state that is read leaves unfinished
read_by : (b : Bool) (t : Telnet) → unfinished (where_read b t) ≡ unfinished_in b t
read_by true t = refl
read_by false t = refl

pub unfinished-read : (d : Side) (c : Control) {t : Telnet} → t ≡ telnet_read d c → unfinished t ≡ unfinished_of d c
unfinished-read d c e = ap unfinished e ∙ read_by (is_in_lines (direction_of d c).place) (layer_in d c).telnet
