-- The two readings agree on what is spoken to the server; more octets only add to it; and an item's role stays what it is.
use mathlib.Core.Path.{◌≡◌, refl, sym, ap, ap₂, ◌∙◌}
use mathlib.Core.Bool.{Bool, true, false}
use mathlib.Core.List.{List, [], ◌∷◌, ◌++◌, append-nil, append_assoc}
use Prim.Native.Nat.{ℕ}
use native.Mathlib.Omega.{arith}
use lib.ListN.{length}
use Rattle.rules.specs.Octets.{choose}
use Rattle.rules.specs.Answers.{client, server}
use Rattle.rules.specs.Lines.{passed}
use Rattle.rules.specs.Telnet.{data_of, LayerStep, fresh_layer, layer_octet, data_octets}
use Rattle.rules.specs.Edition.{LineRules}
use Rattle.rules.specs.History.{Item, octet, end, text_of, has_ended}
use Rattle.rules.specs.ToClient.{Place, ended, fresh_client, held, is_in_line, let_go}
use Rattle.rules.specs.Items.{Moment, ClientRead, item_step, read_items, fresh_moment}
use Rattle.rules.specs.Pieces.{Role, telnet, octet_role, end_role, roles_from, spoken_part, spoken}
use Rattle.rules.specs.declared.Telnet.{Telnet}
use Rattle.rules.specs.declared.Layer.{Layer}
use Rattle.readings.specs.ByOctets.{Client}
use Rattle.readings.specs.Readings.{Orderly, ReadingsAgree, ReadingGrows, RolesKept}
use Rattle.readings.proofs.ByOctets.{Ok, ok-empty}
use Rattle.readings.proofs.Rest.{
  count_at,
  rest,
  roles_at,
  reading-rest,
  roles-rest,
  count-some,
  turn_of,
  Turns,
  client-octet,
  ok-turn,
  rest_end,
  end-role,
  end-speaks,
  nothing-spoken,
}

not-nil : (x : ℕ) (xs : List ℕ) → (x ∷ xs) ≡ [] → ⊥
not-nil x xs e = omega (arith, ap length e)

-- an end behind the end lets nothing go
ended-speaks : (r : Role) (p : Place) (t : Telnet) → p ≡ ended → spoken_part r (let_go p t) ≡ []
unfolding held passed
ended-speaks r p t e = ap (λ (q : Place). spoken_part r (let_go q t)) e ∙ nothing-spoken r

-- the same before two lists of which the second begins the first
before : {A : Type 0} (s b : List A) {all first a : List A} → all ≡ s ++ a → first ≡ s ++ b → (more : List A) × (a ≡ b ++ more)
    → (more : List A) × (all ≡ first ++ more)
before {A} s b p q h =
    (h.0, p ∙ ap (λ (w : List A). s ++ w) h.1 ∙ sym (append_assoc s b h.0) ∙ ap (λ (w : List A). w ++ h.0) (sym q))

module _ (rules : LineRules) where
  -- ---- the two readings agree

  -- what items speak from a moment on is what is still to be read of the client's text
  abbrev Agrees : List Item → Moment rules.LineState → Type 0
  Agrees is m =
      let t = m.client_layer.telnet in
      spoken (roles_at rules m.client t is) (read_items rules m is) ≡ rest rules m.client t (text_of client is) (has_ended client is)

  abbrev Claim : List Item → Type 0
  Claim is = (m : Moment rules.LineState) → Ok rules m.client.place → Agrees is m

  client-step : (is : List Item) → Claim is → (x : ℕ) → Claim (octet client x ∷ is)
  unfolding spoken read_items item_step text_of has_ended
  client-step is claim x m k =
      let r : LayerStep = layer_octet (is_in_line m.client.place) m.client_layer x in
      let j : ClientRead rules.LineState = turn_of rules m.client r in
      let next : Moment rules.LineState = (item_step rules m (octet client x)).moment in
      let law : Turns rules m.client m.client_layer x = client-octet rules m.client k m.client_layer x in
      ap (λ (rs : List Role). spoken rs (read_items rules m (octet client x ∷ is))) (law.1 is)
      ∙ ap (λ (w : List ℕ). spoken_part (octet_role (data_of r.does)) j.to_server ++ w) (claim next (ok-turn rules m.client k r))
      ∙ sym (law.0 (text_of client is) (has_ended client is))

  -- behind the client's end nothing more is spoken
  behind-end : (is : List Item) (n : ℕ) (t : Telnet) (m : Moment rules.LineState) → m.client.place ≡ ended → text_of client is ≡ []
      → spoken (roles_from n t is) (read_items rules m is) ≡ []
  unfolding spoken spoken_part roles_from read_items item_step text_of
  behind-end [] n t m p e = refl
  behind-end (octet client x ∷ is) n t m p e = absurd (not-nil x (text_of client is) e)
  behind-end (octet server x ∷ is) n t m p e = behind-end is n t (item_step rules m (octet server x)).moment p e
  behind-end (end client ∷ is) n t m p e =
      ap₂ (λ (a b : List ℕ). a ++ b) (ended-speaks (end_role n t) m.client.place m.client_layer.telnet p)
      (behind-end is n t (item_step rules m (end client)).moment refl e)
  behind-end (end server ∷ is) n t m p e = behind-end is n t (item_step rules m (end server)).moment p e

  client-end : (is : List Item) → text_of client is ≡ [] → Claim (end client ∷ is)
  unfolding roles_at roles_from spoken read_items item_step text_of has_ended choose
  client-end is e m k =
      let c : Client rules = m.client in
      let t : Telnet = m.client_layer.telnet in
      let go : List ℕ = let_go c.place t in
      let n = count-some rules c (data_octets t (text_of client is)) in
      ap₂ (λ (a b : List ℕ). a ++ b) (ap (λ (i : ℕ). spoken_part (end_role i t) go) n.1 ∙ end-speaks c.place t n.0)
      (behind-end is (count_at rules c t (text_of client is)) t (item_step rules m (end client)).moment refl e)
      ∙ append-nil (passed (held c.place)) ∙ sym (rest_end rules c t true) ∙ ap (λ (xs : List ℕ). rest rules c t xs true) (sym e)

  nothing_yet : Claim []
  unfolding roles_at roles_from spoken text_of has_ended choose
  nothing_yet m k = sym (rest_end rules m.client m.client_layer.telnet false)

  -- what a server's item writes to the server is not spoken, and it leaves the client's side alone
  agrees : (is : List Item) → Orderly is → Claim is
  unfolding roles_at roles_from spoken spoken_part read_items item_step text_of has_ended
  agrees [] h m k = nothing_yet m k
  agrees (octet client x ∷ is) h m k = client-step is (agrees is h) x m k
  agrees (octet server x ∷ is) h m k = agrees is h (item_step rules m (octet server x)).moment k
  agrees (end client ∷ is) h m k = client-end is h m k
  agrees (end server ∷ is) h m k = agrees is h (item_step rules m (end server)).moment k

  pub readings-agree : ReadingsAgree rules
  readings-agree st is h =
      rw (roles-rest rules st is, reading-rest rules st (text_of client is) (has_ended client is))
      (agrees is h (fresh_moment st) (ok-empty rules))

  -- ---- more octets only add

  abbrev Grows : List ℕ → List ℕ → Bool → Type 0
  Grows xs ys e =
      (c : Client rules) (l : Layer) → Ok rules c.place
      → (added : List ℕ) × (rest rules c l.telnet (xs ++ ys) e ≡ rest rules c l.telnet xs false ++ added)

  rest-grows : (xs ys : List ℕ) (e : Bool) → Grows xs ys e
  unfolding choose
  rest-grows [] ys e c l k =
      let all : List ℕ = rest rules c l.telnet ys e in (all, ap (λ (w : List ℕ). w ++ all) (sym (rest_end rules c l.telnet false)))
  rest-grows (x ∷ xs) ys e c l k =
      let r : LayerStep = layer_octet (is_in_line c.place) l x in
      let j : ClientRead rules.LineState = turn_of rules c r in
      let says : List ℕ = spoken_part (octet_role (data_of r.does)) j.to_server in
      let law : Turns rules c l x = client-octet rules c k l x in
      before says _ (law.0 (xs ++ ys) e) (law.0 xs false) (rest-grows xs ys e j.state r.layer (ok-turn rules c k r))

  pub reading-grows : ReadingGrows rules
  reading-grows st text more e =
      before [] _ (reading-rest rules st (text ++ more) e) (reading-rest rules st text false)
      (rest-grows text more e (fresh_client st) fresh_layer (ok-empty rules))

  -- ---- an item's role stays what it is

  abbrev Stay : List Item → List Item → Type 0
  Stay is js =
      (c : Client rules) (l : Layer) → Ok rules c.place
      → (rs : List Role) × (roles_at rules c l.telnet (is ++ js) ≡ roles_at rules c l.telnet is ++ rs)

  -- an end's role is the same whatever comes later
  same_end : (c : Client rules) (t : Telnet) (xs ys : List ℕ) → end_role (count_at rules c t xs) t ≡ end_role (count_at rules c t ys) t
  same_end c t xs ys =
      let n = count-some rules c (data_octets t xs) in
      let m = count-some rules c (data_octets t ys) in
      ap (λ (i : ℕ). end_role i t) n.1 ∙ end-role c.place t n.0 m.0 ∙ ap (λ (i : ℕ). end_role i t) (sym m.1)

  stay : (is js : List Item) → Stay is js
  unfolding roles_at roles_from text_of
  stay [] js c l k = (roles_at rules c l.telnet js, refl)
  stay (octet client x ∷ is) js c l k =
      let r : LayerStep = layer_octet (is_in_line c.place) l x in
      let law : Turns rules c l x = client-octet rules c k l x in
      before (octet_role (data_of r.does) ∷ []) _ (law.1 (is ++ js)) (law.1 is) (stay is js (turn_of rules c r).state r.layer (ok-turn rules c k r))
  stay (octet server x ∷ is) js c l k = before (telnet ∷ []) (roles_at rules c l.telnet is) refl refl (stay is js c l k)
  stay (end client ∷ is) js c l k =
      let t : Telnet = l.telnet in
      let same = same_end c t (text_of client (is ++ js)) (text_of client is) in
      before (end_role (count_at rules c t (text_of client is)) t ∷ []) (roles_at rules c t is) (ap (λ (r : Role). r ∷ roles_at rules c t (is ++ js)) same) refl
      (stay is js c l k)
  stay (end server ∷ is) js c l k = before (telnet ∷ []) (roles_at rules c l.telnet is) refl refl (stay is js c l k)

  pub roles-kept : RolesKept rules
  roles-kept st is js =
      before [] _ (roles-rest rules st (is ++ js)) (roles-rest rules st is) (stay is js (fresh_client st) fresh_layer (ok-empty rules))
