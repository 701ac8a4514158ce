-- What is claimed of the two readings, for any line rules: the one of the client's text, which goes line by line, and the one of the
-- history, which goes item by item.
use Rattle.std.specs.Prelude.{◌≡◌, Bool, false, List, [], ◌∷◌, ◌++◌, ℕ, take}
use Rattle.rules.specs.Answers.{client, server}
use Rattle.rules.specs.Edition.{LineRules}
use Rattle.rules.specs.History.{Item, octet, end, text_of, has_ended}
use Rattle.rules.specs.ToServer.{read_to_server, auth_at, read_through}
use Rattle.rules.specs.ToClient.{fresh_client}
use Rattle.rules.specs.Items.{fresh_moment, read_items}
use Rattle.rules.specs.Pieces.{Role, roles_by, spoken}
use Rattle.readings.specs.ByOctets.{by_octets, auth_from}

-- no octet of the client's follows its end: an arrival behind it answers 6, and is no item of a history
abbrev pub Orderly : List Item → Type 0
Orderly [] = Unit {0}
Orderly (octet s x ∷ is) = Orderly is
Orderly (end client ∷ is) = text_of client is ≡ []
Orderly (end server ∷ is) = Orderly is

module _ (rules : LineRules) where
  -- AUTH is recognised at the same octet, line by line and octet by octet
  abbrev pub SameAuth : Type 0
  SameAuth = (st : rules.LineState) (d : List ℕ) → auth_at rules st d ≡ auth_from rules (fresh_client st) d

  -- up to there, data octets read line by line give what they give one by one
  abbrev pub SameByOctets : Type 0
  SameByOctets =
      (st : rules.LineState) (d : List ℕ) (at_end : Bool)
      → let lines = take (auth_at rules st d) d in
      read_to_server rules st lines at_end ≡ by_octets rules (fresh_client st) lines at_end

  -- demand 3's to-server half: what the items of a history speak to the server is the reading of the client's text
  abbrev pub ReadingsAgree : Type 0
  ReadingsAgree =
      (st : rules.LineState) (is : List Item) → Orderly is
      → spoken (roles_by rules st is) (read_items rules (fresh_moment st) is)
      ≡ read_through rules st (text_of client is) (has_ended client is)

  -- up to some octets the reading is what it was, whatever comes behind, and whether or not the client ends then
  abbrev pub ReadingGrows : Type 0
  ReadingGrows =
      (st : rules.LineState) (text more : List ℕ) (ended : Bool)
      → (added : List ℕ) × (read_through rules st (text ++ more) ended ≡ read_through rules st text false ++ added)

  -- an item's role never changes, whatever comes later
  abbrev pub RolesKept : Type 0
  RolesKept =
      (st : rules.LineState) (is js : List Item) → (rs : List Role) × (roles_by rules st (is ++ js) ≡ roles_by rules st is ++ rs)
