-- "To the server: the client's octets are one text, read line by line, with the setup's EPSV and EPRT switches."
-- By request 2 of document 02, "both readings take this layer in": the lines are read over a text's data octets.
use Rattle.std.specs.Prelude.{Bool, true, false, List, [], ◌∷◌, ◌++◌, ℕ, suc, ◌+◌, eqb, length, take}
use Rattle.rules.specs.Octets.{lf, choose}
use Rattle.rules.specs.Setup.{setup_switches}
use Rattle.rules.specs.declared.Setup.{Setup}
use Rattle.rules.specs.Lines.{judged, is_whole, starts_auth, passed, unchanged}
use Rattle.rules.specs.Telnet.{data_octets, after_data}
use Rattle.rules.specs.declared.Telnet.{Telnet}
use Rattle.rules.specs.Replies.{is_auth}
use Rattle.rules.specs.Edition.{ClientLine, LineRules, document01}
use Rattle.rules.specs.declared.Kind.{Kind}

-- a text as its finished lines, each without its LF, and the unfinished line after them
pub record Text : Type 0 where
  pub lines : List (List ℕ)
  pub rest : List ℕ

-- an octet before the first line of a text
unfoldable pub onto_line : ℕ → List (List ℕ) → List ℕ → Text
onto_line x [] rest = record { lines = []; rest = x ∷ rest }
onto_line x (l ∷ ls) rest = record { lines = (x ∷ l) ∷ ls; rest = rest }

-- an octet before a text: an LF makes an empty line in front, any other octet joins the first line
unfoldable pub onto_text : Bool → ℕ → Text → Text
onto_text true x t = record { lines = [] ∷ t.lines; rest = t.rest }
onto_text false x t = onto_line x t.lines t.rest

-- "A line ends with LF"
unfoldable pub as_lines : List ℕ → Text
as_lines [] = record { lines = []; rest = [] }
as_lines (x ∷ xs) = onto_text (eqb x lf) x (as_lines xs)

-- what a finished flowing line owes: it is AUTH "if its first five octets are AUTH and a space"
unfoldable pub long_owes : Bool → Kind
long_owes true = Kind.Auth
long_owes false = Kind.Plain

-- "A line judged whole gives what "Client lines" makes of it", "A longer one gives itself"
unfoldable pub finished_line : (rules : LineRules) → rules.LineState → List ℕ → ClientLine rules.LineState
finished_line rules st l =
    choose (is_whole l) (rules.client_line st l)
    (record { to_server = unchanged l; owes = long_owes (starts_auth l); after = st })

-- "An unfinished one gives nothing up to 511 octets, and itself from 512 or once the client has ended"
unfoldable pub unfinished_line : List ℕ → Bool → List ℕ
unfinished_line rest ended = choose (is_whole rest) (choose ended (passed rest) []) (passed rest)

-- "read line by line": octets up to AUTH
unfoldable pub read_lines : (rules : LineRules) → rules.LineState → List (List ℕ) → List ℕ → Bool → List ℕ
read_lines rules st [] rest ended = unfinished_line rest ended
read_lines rules st (l ∷ ls) rest ended =
    let line = finished_line rules st l in line.to_server ++ read_lines rules line.after ls rest ended

-- "the client's octets are one text": read by any rules, from one of their states on
unfoldable pub read_to_server : (rules : LineRules) → rules.LineState → List ℕ → Bool → List ℕ
read_to_server rules st text ended = let t = as_lines text in read_lines rules st t.lines t.rest ended

-- ---- through the Telnet layer

-- an unfinished line is AUTH at its 512th octet, if it flows and starts so; else the number is one more than its octets
abbrev pub rest_auth_at : List ℕ → ℕ
rest_auth_at rest = choose (is_whole rest) (suc (length rest)) (choose (starts_auth rest) judged (suc (length rest)))

-- a finished AUTH line is recognised at its LF, or at its 512th octet if it flowed
abbrev pub line_auth_at : List ℕ → ℕ
line_auth_at l = choose (is_whole l) (suc (length l)) judged

-- the octets of lines up to AUTH, the one at which it is recognised included; one more than there are where none is AUTH
unfoldable pub auth_lines : (rules : LineRules) → rules.LineState → List (List ℕ) → List ℕ → ℕ
auth_lines rules st [] rest = rest_auth_at rest
auth_lines rules st (l ∷ ls) rest =
    let line = finished_line rules st l in
    let next = auth_lines rules line.after ls rest in
    choose (is_auth line.owes) (line_auth_at l) (suc (length l) + next)

-- the same of a text of data octets
unfoldable pub auth_at : (rules : LineRules) → rules.LineState → List ℕ → ℕ
auth_at rules st d = let t = as_lines d in auth_lines rules st t.lines t.rest

-- lines are read over the data octets up to AUTH, and of a flowing AUTH line these are its first 512; "After AUTH every octet gives itself"
unfoldable pub read_through : (rules : LineRules) → rules.LineState → List ℕ → Bool → List ℕ
read_through rules st text ended =
    let d = data_octets Telnet.Clear text in
    let n = auth_at rules st d in
    read_to_server rules st (take n d) ended ++ after_data n Telnet.Clear text

-- what was spoken to the server after a setup, by the client's text and whether the client has ended
unfoldable pub to_server : Setup → List ℕ → Bool → List ℕ
to_server su text ended = read_through (document01 su) (setup_switches su.flags) text ended

-- this page's definitions, for a proof that computes with them
unfoldable pub to-server-opened : Unit {0}
unfolding onto_line onto_text as_lines long_owes finished_line unfinished_line read_lines read_to_server auth_lines auth_at read_through to_server
to-server-opened = tt
