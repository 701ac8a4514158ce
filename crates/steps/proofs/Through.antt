-- An octet that the Telnet layer hands on as it came is an octet of a line.
use mathlib.Core.Path.{◌≡◌, refl, sym, ap, subst, ◌∙◌}
use mathlib.Core.Bool.{Bool, true, false}
use Rattle.std.specs.Prelude.{Some}
use Prim.Native.Nat.{ℕ}
use lib.Dec.{eqb}
use Rattle.rules.specs.Octets.{iac, choose}
use Rattle.rules.specs.Answers.{Side, client, server}
use Rattle.rules.specs.Telnet.{LayerStep, layer_octet, telnet_octet, data_of}
use Rattle.rules.specs.declared.Telnet.{Telnet}
use Rattle.rules.specs.declared.Layer.{Layer}
use Rattle.rules.specs.declared.Does.{Does}
use Rattle.rules.specs.declared.Fixed.{Fixed}
use Rattle.places.specs.Places.{is_in_lines}
use Rattle.records.specs.Controls.{layer_in}
use Rattle.records.specs.Sound.{direction_of}
use Rattle.steps.specs.Steps.{State, line_step, step_by, layered, octet_step}

-- no Telnet command of a side is unfinished
abbrev pub Clear : Side → State → Type 0
Clear d s = (layer_in d s.control).telnet ≡ Telnet.Clear

-- an octet that is data, and leaves the layer as it is
abbrev as_it_came : Layer → ℕ → LayerStep
as_it_came l x = record { layer = l; does = Does.Data x }

clear-data : (b : Bool) (r x : ℕ) → eqb x iac ≡ false
    → layer_octet b (record { telnet = Telnet.Clear; removed = r }) x ≡ as_it_came (record { telnet = Telnet.Clear; removed = r }) x
unfolding layer_octet telnet_octet choose
clear-data true r x n = rw n
clear-data false r x n = refl

handed-on : (b : Bool) (l : Layer) (x : ℕ) → l.telnet ≡ Telnet.Clear → eqb x iac ≡ false → layer_octet b l x ≡ as_it_came l x
handed-on b l x e n =
    subst (λ (t : Telnet). layer_octet b (record { telnet = t; removed = l.removed }) x ≡ as_it_came (record { telnet = t; removed = l.removed }) x)
    (sym e) (clear-data b l.removed x n)

past-lines : (b : Bool) (l : Layer) (x : ℕ) → b ≡ false → layer_octet b l x ≡ as_it_came l x
unfolding layer_octet
past-lines b l x e = rw e

module _ (f : Fixed) (s : State) (x : ℕ) where
  same-layer : (d : Side) → step_by f d (layered d s (layer_in d s.control)) (Does.Data x) (Some x) ≡ line_step f d s x
  unfolding step_by
  same-layer client = refl
  same-layer server = refl

  line-octet : (d : Side) → layer_octet (is_in_lines (direction_of d s.control).place) (layer_in d s.control) x ≡ as_it_came (layer_in d s.control) x
      → octet_step f d s x ≡ line_step f d s x
  unfolding octet_step
  line-octet d e = ap (λ (r : LayerStep). step_by f d (layered d s r.layer) r.does (data_of r.does)) e ∙ same-layer d

  -- where no command is unfinished, one that is not 255
  pub octet-clear : (d : Side) → Clear d s → eqb x iac ≡ false → octet_step f d s x ≡ line_step f d s x
  octet-clear d e n = line-octet d (handed-on (is_in_lines (direction_of d s.control).place) (layer_in d s.control) x e n)

  -- any one of a direction that passes at once, or has ended
  pub octet-past : (d : Side) → is_in_lines (direction_of d s.control).place ≡ false → octet_step f d s x ≡ line_step f d s x
  octet-past d e = line-octet d (past-lines (is_in_lines (direction_of d s.control).place) (layer_in d s.control) x e)
