-- The client's lines octet by octet: what a text of data octets gives from a state on, and where AUTH is in it.
use Rattle.std.specs.Prelude.{Bool, List, [], ◌∷◌, ◌++◌, ℕ, suc}
use Rattle.rules.specs.Octets.{choose}
use Rattle.rules.specs.Lines.{passed}
use Rattle.rules.specs.Edition.{LineRules}
use Rattle.rules.specs.ToClient.{Place, in_line, passing, ended, ClientState, client_octet, held}
use Rattle.rules.specs.Items.{client_gives}

-- the client's side of the reading by given rules
abbrev pub Client : LineRules → Type 0
Client rules = ClientState rules.LineState

-- it, in a state of the rules and at a place
abbrev pub standing : (rules : LineRules) → rules.LineState → Place → Client rules
standing rules st p = record { line_state = st; place = p }

-- what a text gives from a state on, and at its end the octets held
unfoldable pub by_octets : (rules : LineRules) → Client rules → List ℕ → Bool → List ℕ
by_octets rules c [] at_end = choose at_end (passed (held c.place)) []
by_octets rules c (x ∷ xs) at_end =
    let next = (client_octet rules c.line_state c.place x).state in
    client_gives rules c.line_state c.place x ++ by_octets rules next xs at_end

-- one more than n where octets are read as lines
abbrev pub if_in_line : Place → ℕ → ℕ
if_in_line (in_line l) n = suc n
if_in_line passing n = 0
if_in_line ended n = 0

-- how many octets there are up to AUTH, from a state on; one more than there are where none is AUTH
unfoldable pub auth_from : (rules : LineRules) → Client rules → List ℕ → ℕ
auth_from rules c [] = if_in_line c.place 0
auth_from rules c (x ∷ xs) =
    let next = (client_octet rules c.line_state c.place x).state in if_in_line c.place (auth_from rules next xs)
