-- What is still to be read of a client's text from a state on, and the roles of the items from there: one law for an octet, one for an end.
use mathlib.Core.Path.{◌≡◌, refl, sym, ap, ◌∙◌}
use mathlib.Core.Bool.{Bool}
use mathlib.Core.List.{List, [], ◌∷◌, ◌++◌, append-nil, append_assoc}
use Rattle.std.specs.Prelude.{Option, None, Some}
use Prim.Native.Nat.{ℕ, zero, suc, ◌-◌}
use native.Mathlib.Omega.{arith}
use lib.ListN.{length, take, length-append}
use lib.Seq.{take_at}
use Rattle.rules.specs.Octets.{choose}
use Rattle.rules.specs.Answers.{client}
use Rattle.rules.specs.Lines.{passed}
use Rattle.rules.specs.Telnet.{data_of, unfinished, telnet_octet, LayerStep, layer_octet, onto_data, data_octets, to_come, up_to, after_data}
use Rattle.rules.specs.Edition.{LineRules}
use Rattle.rules.specs.History.{Item, octet, text_of}
use Rattle.rules.specs.ToServer.{read_through}
use Rattle.rules.specs.ToClient.{Place, in_line, passing, ended, fresh_client, client_octet, held, is_in_line, let_go}
use Rattle.rules.specs.Items.{client_gives, ClientRead, client_read}
use Rattle.rules.specs.Pieces.{Role, speech, telnet, speech_then, octet_role, end_role, roles_from, roles_by, spoken_part}
use Rattle.rules.specs.declared.Telnet.{Telnet}
use Rattle.rules.specs.declared.Layer.{Layer}
use Rattle.rules.specs.declared.Does.{Does}
use Rattle.octets.proofs.Choices.{either}
use Rattle.readings.specs.ByOctets.{Client, standing, by_octets, if_in_line, auth_from}
use Rattle.readings.proofs.ByOctets.{Ok, ok-place}
use Rattle.readings.proofs.AuthAt.{auth-octets, by-octets}

take-nil : (n : ℕ) → take {A = ℕ} n [] ≡ []
take-nil zero = refl
take-nil (suc n) = refl

without-tail : (xs ys : List ℕ) → take (length (xs ++ ys) - length ys) (xs ++ ys) ≡ xs
without-tail xs ys = take_at xs ys (length (xs ++ ys) - length ys) (omega (arith, length-append xs ys))

after-zero : (t : Telnet) (xs : List ℕ) → after_data 0 t xs ≡ xs
unfolding after_data up_to
after-zero t [] = refl
after-zero t (x ∷ xs) = ap (λ (l : List ℕ). x ∷ l) (after-zero t xs)

module _ (rules : LineRules) where
  -- the octets of lines that are to come up to AUTH
  abbrev pub count_at : Client rules → Telnet → List ℕ → ℕ
  count_at c t xs = auth_from rules c (data_octets t xs)

  -- what is still to be spoken
  unfoldable pub rest : Client rules → Telnet → List ℕ → Bool → List ℕ
  rest c t xs e = let n = count_at c t xs in by_octets rules c (take n (data_octets t xs)) e ++ after_data n t xs

  -- the roles of the items to come
  unfoldable pub roles_at : Client rules → Telnet → List Item → List Role
  roles_at c t is = roles_from (count_at c t (text_of client is)) t is

  -- from a fresh client on it is all
  pub reading-rest : (st : rules.LineState) (xs : List ℕ) (e : Bool) → read_through rules st xs e ≡ rest (fresh_client st) Telnet.Clear xs e
  unfolding read_through rest
  reading-rest st xs e =
      let d : List ℕ = data_octets Telnet.Clear xs in
      rw (by-octets rules st d e, auth-octets rules st d)

  pub roles-rest : (st : rules.LineState) (is : List Item) → roles_by rules st is ≡ roles_at (fresh_client st) Telnet.Clear is
  unfolding roles_by roles_at
  roles-rest st is = rw (auth-octets rules st (data_octets Telnet.Clear (text_of client is)))

  -- whatever comes, AUTH is still to come just where the client is in a line
  pub count-some : (c : Client rules) (d : List ℕ) → (m : ℕ) × (auth_from rules c d ≡ if_in_line c.place m)
  unfolding auth_from
  count-some c [] = (0, refl)
  count-some c (y ∷ d) = (auth_from rules (client_octet rules c.line_state c.place y).state d, refl)

  -- ---- a client's octet

  -- what an octet of a client does at its place
  abbrev pub turn_of : Client rules → LayerStep → ClientRead rules.LineState
  turn_of c r = client_read rules c r.does (data_of r.does)

  -- what is to be spoken is what it speaks and what is to be spoken behind it
  abbrev Speaks : Client rules → Telnet → ℕ → Telnet → Option ℕ → ClientRead rules.LineState → Type 0
  Speaks c t x u o k =
      (xs : List ℕ) (e : Bool) → rest c t (x ∷ xs) e ≡ spoken_part (octet_role o) k.to_server ++ rest k.state u xs e

  -- the roles are its own and those behind it
  abbrev Roles : Client rules → Telnet → ℕ → Telnet → Option ℕ → ClientRead rules.LineState → Type 0
  Roles c t x u o k = (is : List Item) → roles_at c t (octet client x ∷ is) ≡ octet_role o ∷ roles_at k.state u is

  -- both of them, through the client's layer
  abbrev pub Turns : Client rules → Layer → ℕ → Type 0
  Turns c l x =
      let r = layer_octet (is_in_line c.place) l x in
      Speaks c l.telnet x r.layer.telnet (data_of r.does) (turn_of c r)
      × Roles c l.telnet x r.layer.telnet (data_of r.does) (turn_of c r)

  module _ (st : rules.LineState) (l : List ℕ) (t : Telnet) (x : ℕ) where
    abbrev c : Client rules
    c = standing rules st (in_line l)

    -- in a line an octet makes an octet of it or none
    data-cons : (o : Option ℕ) → data_of (telnet_octet t x).does ≡ o → (xs : List ℕ)
        → data_octets t (x ∷ xs) ≡ onto_data o (data_octets (telnet_octet t x).telnet xs)
    unfolding data_octets
    data-cons o q xs = rw q

    up_to-line : (o : Option ℕ) → data_of (telnet_octet t x).does ≡ o → (m : ℕ)
        → let s = telnet_octet t x in
        up_to (suc m) t x ≡ record { left = to_come o m; telnet = s.telnet; does = s.does; raw = [] }
    unfolding up_to
    up_to-line o q m = rw q

    count-cons : (y : ℕ) (d : List ℕ) → auth_from rules c (y ∷ d) ≡ suc (auth_from rules (client_octet rules st (in_line l) y).state d)
    unfolding auth_from
    count-cons y d = refl

    octets-cons : (y : ℕ) (d : List ℕ) (e : Bool)
        → by_octets rules c (y ∷ d) e ≡ client_gives rules st (in_line l) y ++ by_octets rules (client_octet rules st (in_line l) y).state d e
    unfolding by_octets
    octets-cons y d e = refl

    line-speaks : (o : Option ℕ) → data_of (telnet_octet t x).does ≡ o
        → Speaks c t x (telnet_octet t x).telnet o (client_read rules c (telnet_octet t x).does o)
    unfolding rest after_data spoken_part client_read
    line-speaks None q xs e =
        let n = count-some c (data_octets (telnet_octet t x).telnet xs) in rw (data-cons None q xs, n.1, up_to-line None q n.0)
    line-speaks (Some y) q xs e =
        let d : List ℕ = data_octets (telnet_octet t x).telnet xs in
        let n : ℕ = auth_from rules (client_octet rules st (in_line l) y).state d in
        rw (data-cons (Some y) q xs, count-cons y d, up_to-line (Some y) q n, octets-cons y (take n d) e)
        (append_assoc (client_gives rules st (in_line l) y) _ _)

    line-roles : (o : Option ℕ) → data_of (telnet_octet t x).does ≡ o
        → Roles c t x (telnet_octet t x).telnet o (client_read rules c (telnet_octet t x).does o)
    unfolding roles_at roles_from text_of client_read
    line-roles None q is =
        let n = count-some c (data_octets (telnet_octet t x).telnet (text_of client is)) in
        rw (data-cons None q (text_of client is), n.1, up_to-line None q n.0, q)
    line-roles (Some y) q is =
        let d : List ℕ = data_octets (telnet_octet t x).telnet (text_of client is) in
        rw (data-cons (Some y) q (text_of client is), count-cons y d, up_to-line (Some y) q _, q)

  module _ (st : rules.LineState) (t : Telnet) where
    count-passing : (d : List ℕ) → auth_from rules (standing rules st passing) d ≡ 0
    count-passing d = (count-some (standing rules st passing) d).1

    rest-passing : (xs : List ℕ) (e : Bool) → rest (standing rules st passing) t xs e ≡ xs
    unfolding rest by_octets held passed
    rest-passing xs e = rw (count-passing (data_octets t xs), after-zero t xs) (either (λ (l : List ℕ). l ++ xs ≡ xs) e [] [] refl refl)

    roles-passing : (x : ℕ) (is : List Item)
        → roles_at (standing rules st passing) t (octet client x ∷ is) ≡ speech ∷ roles_at (standing rules st passing) t is
    unfolding roles_at roles_from text_of up_to
    roles-passing x is =
        rw (count-passing (data_octets t (x ∷ text_of client is)), count-passing (data_octets t (text_of client is)))

  -- ---- at any place where the client has not ended

  octet-at : (st : rules.LineState) (p : Place) → Ok rules p → (l : Layer) (x : ℕ) → Turns (standing rules st p) l x
  unfolding layer_octet spoken_part client_read client_octet client_gives
  octet-at st (in_line q) k l x =
      let o : Option ℕ = data_of (telnet_octet l.telnet x).does in
      (line-speaks st q l.telnet x o refl, line-roles st q l.telnet x o refl)
  octet-at st passing k l x = (
    λ xs e. rest-passing st l.telnet (x ∷ xs) e ∙ ap (λ (w : List ℕ). x ∷ w) (sym (rest-passing st l.telnet xs e)),
    λ is. roles-passing st l.telnet x is,
  )
  octet-at st ended k l x = absurd k

  -- what an octet of the client's speaks, and its role
  pub client-octet : (c : Client rules) → Ok rules c.place → (l : Layer) (x : ℕ) → Turns c l x
  client-octet c k l x = octet-at c.line_state c.place k l x

  -- the client has not ended then
  ok-by : (c : Client rules) → Ok rules c.place → (d : Does) (o : Option ℕ) → Ok rules (client_read rules c d o).state.place
  unfolding client_read
  ok-by c k d None = k
  ok-by c k d (Some y) = ok-place rules c.line_state c.place y k

  pub ok-turn : (c : Client rules) → Ok rules c.place → (r : LayerStep) → Ok rules (turn_of c r).state.place
  ok-turn c k r = ok-by c k r.does (data_of r.does)

  -- ---- the client's end

  pub rest_end : (c : Client rules) (t : Telnet) (e : Bool) → rest c t [] e ≡ choose e (passed (held c.place)) []
  unfolding rest data_octets after_data by_octets
  rest_end c t e = rw (take-nil (auth_from rules c [])) (append-nil (choose e (passed (held c.place)) []))

-- an end's role is the same whatever is to come, and speaks the octets held
pub end-role : (p : Place) (t : Telnet) (m n : ℕ) → end_role (if_in_line p m) t ≡ end_role (if_in_line p n) t
end-role (in_line l) t m n = refl
end-role passing t m n = refl
end-role ended t m n = refl

pub end-speaks : (p : Place) (t : Telnet) (m : ℕ) → spoken_part (end_role (if_in_line p m) t) (let_go p t) ≡ passed (held p)
unfolding spoken_part
end-speaks (in_line l) t m = without-tail (passed (held (in_line l))) (unfinished t)
end-speaks passing t m = append-nil (passed (held passing))
end-speaks ended t m = append-nil (passed (held ended))

-- where nothing was written, nothing was spoken
pub nothing-spoken : (r : Role) → spoken_part r [] ≡ []
unfolding spoken_part
nothing-spoken speech = refl
nothing-spoken telnet = refl
nothing-spoken (speech_then n) = take-nil (0 - n)
