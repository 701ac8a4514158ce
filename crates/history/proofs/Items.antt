-- The readings of a history, item by item: items one behind the other, and that no octet of the client's follows its end. For any
-- line rules.
use mathlib.Core.Path.{◌≡◌, refl, ap}
use mathlib.Core.List.{List, [], ◌∷◌, ◌++◌, map}
use Prim.Native.Nat.{ℕ}
use Rattle.rules.specs.Answers.{Side, client, server}
use Rattle.rules.specs.Edition.{LineRules}
use Rattle.rules.specs.History.{Item, octet, end, text_of}
use Rattle.rules.specs.ToClient.{Place, in_line, passing, ended}
use Rattle.rules.specs.Items.{Piece, Moment, item_step, read_items, moment_after}
use Rattle.readings.specs.Readings.{Orderly}

-- ---- the client's end

-- the client has not ended
abbrev pub Speaks : Place → Type 0
Speaks (in_line l) = Unit {0}
Speaks passing = Unit {0}
Speaks ended = ⊥

-- if it has, none of its octets comes
abbrev pub Silent : Place → List Item → Type 0
Silent (in_line l) is = Unit {0}
Silent passing is = Unit {0}
Silent ended is = text_of client is ≡ []

-- items that may come where the client stands so
abbrev pub Follows : Place → List Item → Type 0
Follows p is = Silent p is × Orderly is

pub follows_nothing : (p : Place) → Follows p []
unfolding text_of
follows_nothing (in_line l) = (tt, tt)
follows_nothing passing = (tt, tt)
follows_nothing ended = (refl, tt)

speaks-silent : (p : Place) (is : List Item) → Speaks p → Silent p is
speaks-silent (in_line l) is h = tt
speaks-silent passing is h = tt
speaks-silent ended is h = absurd h

-- an item that is no octet of the client's
silent-past : (p : Place) (i : Item) (js : List Item) → text_of client (i ∷ js) ≡ text_of client js → Silent p js → Silent p (i ∷ js)
silent-past (in_line l) i js e h = tt
silent-past passing i js e h = tt
silent-past ended i js e h = rw e h

orderly-octets : (d : Side) (xs : List ℕ) (js : List Item) → Orderly js → Orderly (map (octet d) xs ++ js)
orderly-octets d [] js h = h
orderly-octets d (x ∷ xs) js h = orderly-octets d xs js h

-- the side that arrives has not ended
abbrev pub MaySpeak : Side → Place → Type 0
MaySpeak client p = Speaks p
MaySpeak server p = Unit {0}

module _ (rules : LineRules) where
  -- what may come behind items may come with them before it
  abbrev pub Leads : Moment rules.LineState → List Item → Type 0
  Leads m is = (js : List Item) → Follows (moment_after rules m is).client.place js → Follows m.client.place (is ++ js)

  pub octets-lead : (d : Side) (m : Moment rules.LineState) (xs : List ℕ) → MaySpeak d m.client.place → Leads m (map (octet d) xs)
  unfolding moment_after item_step text_of
  octets-lead client m xs h js k = (speaks-silent m.client.place (map (octet client) xs ++ js) h, orderly-octets client xs js k.1)
  octets-lead server m [] h js k = k
  octets-lead server m (x ∷ xs) h js k =
      let rest : Follows m.client.place (map (octet server) xs ++ js) = octets-lead server (item_step rules m (octet server x)).moment xs h js k in
      (silent-past m.client.place (octet server x) (map (octet server) xs ++ js) refl rest.0, rest.1)

  pub end-leads : (d : Side) (m : Moment rules.LineState) → Leads m (end d ∷ [])
  unfolding moment_after item_step text_of
  end-leads client m js k = (silent-past m.client.place (end client) js refl (any-silent m.client.place js k.0), k.0)
    where
      any-silent : (p : Place) (js : List Item) → text_of client js ≡ [] → Silent p js
      any-silent (in_line l) js e = tt
      any-silent passing js e = tt
      any-silent ended js e = e
  end-leads server m js k = (silent-past m.client.place (end server) js refl k.0, k.1)

  -- ---- items one behind the other

  pub read-append : (m : Moment rules.LineState) (is js : List Item)
      → read_items rules m (is ++ js) ≡ read_items rules m is ++ read_items rules (moment_after rules m is) js
  unfolding read_items moment_after
  read-append m [] js = refl
  read-append m (i ∷ is) js = ap (λ (ps : List Piece). (item_step rules m i).piece ∷ ps) (read-append (item_step rules m i).moment is js)

  pub after-append : (m : Moment rules.LineState) (is js : List Item)
      → moment_after rules m (is ++ js) ≡ moment_after rules (moment_after rules m is) js
  unfolding moment_after
  after-append m [] js = refl
  after-append m (i ∷ is) js = after-append (item_step rules m i).moment is js
