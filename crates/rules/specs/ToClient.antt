-- "To the client: the history is read item by item." What octets of lines, own answers and the AUTH step give; the next page
-- reads the items.
use Rattle.std.specs.Prelude.{Bool, true, false, ◌&&◌, ◌||◌, not, List, [], ◌∷◌, ◌++◌, ℕ, eqb, length, take}
use Rattle.rules.specs.Octets.{lf, choose}
use Rattle.rules.specs.Lines.{judged, is_whole, starts_auth, passed, unchanged, content}
use Rattle.rules.specs.Replies.{is_auth, is_open, reply_line, opening_after, owed_after, head_answers, without_answers, auth_at_head}
use Rattle.rules.specs.Telnet.{unfinished_in}
use Rattle.rules.specs.Edition.{ClientLine, LineRules}
use Rattle.rules.specs.ToServer.{finished_line}
use Rattle.rules.specs.declared.Telnet.{Telnet}
use Rattle.rules.specs.declared.Kind.{Kind}
use Rattle.rules.specs.declared.ReplyLine.{ReplyLine}
use Rattle.rules.specs.declared.ReplyLine.TheVariants.{Opens, Belongs, Preliminary, Final, StandsAlone}

-- "each side's unfinished line", "which sides ended or pass at once"; a line of 512 octets or more is flowing
pub data Place : Type 0 where
  in_line : List ℕ → Place
  passing : Place
  ended : Place

-- "State: the switches, each side's unfinished line, the kinds owed .., whether a reply is unfinished, which sides ended or pass at once".
-- The switches are document 01's state of the line rules
pub record ClientState (S : Type 0) : Type 0 where
  pub line_state : S
  pub place : Place

-- the rest of it: the server's place, "the kinds owed" and "whether a reply is unfinished", which the opening code says: 0 where none is
pub record ServerState : Type 0 where
  pub place : Place
  pub owed : List Kind
  pub opening : ℕ

-- ---- a client octet: the client's state after it, and the kinds that it puts on the queue

-- the client's state after its octet, and the kinds that the octet puts on the queue
pub record ClientStep (S : Type 0) : Type 0 where
  pub state : ClientState S
  pub owes : List Kind

-- the client's place behind a finished line: it passes at once from AUTH on
abbrev pub place_after : Kind → Place
place_after k = choose (is_auth k) passing (in_line [])

-- "where it finishes one before AUTH"
unfoldable pub finishes : {S : Type 0} → ClientLine S → ClientStep S
finishes j = record { state = record { line_state = j.after; place = place_after j.owes }; owes = j.owes ∷ [] }

-- "or makes it AUTH": by the octet that lets a long line go
unfoldable pub joins : {S : Type 0} → S → List ℕ → ClientStep S
joins st l =
    choose (eqb (length l) judged && starts_auth l)
    (record { state = record { line_state = st; place = passing }; owes = Kind.Auth ∷ [] })
    (record { state = record { line_state = st; place = in_line l }; owes = [] })

-- "A client octet joins its line"
unfoldable pub client_octet : (rules : LineRules) → rules.LineState → Place → ℕ → ClientStep rules.LineState
client_octet rules st (in_line l) x = choose (eqb x lf) (finishes (finished_line rules st l)) (joins st (l ++ (x ∷ [])))
client_octet rules st passing x = record { state = record { line_state = st; place = passing }; owes = [] }
client_octet rules st ended x = record { state = record { line_state = st; place = ended }; owes = [] }

-- ---- a server octet: what it gives, and the server's state after it

-- the server's state, and what has gone to the client on the way to it
pub record ServerStep : Type 0 where
  pub state : ServerState
  pub gives : List ℕ

-- a step of the server's to this place, queue and reply
abbrev pub server_step_to : Place → List Kind → ℕ → List ℕ → ServerStep
server_step_to p owed opening gives = record { state = record { place = p; owed = owed; opening = opening }; gives = gives }

-- "no earlier line belongs to its reply": else the line passes
unfoldable pub final_line_gives : LineRules → List Kind → ℕ → List ℕ → List ℕ
final_line_gives rules [] opening l = unchanged l
final_line_gives rules (k ∷ ks) opening l = choose (is_open opening) (unchanged l) (rules.final_line k l)

-- a line judged whole: one that does not end a final reply passes
unfoldable pub whole_line_gives : LineRules → List Kind → ℕ → List ℕ → ReplyLine → List ℕ
whole_line_gives rules owed opening l (Opens code) = unchanged l
whole_line_gives rules owed opening l Belongs = unchanged l
whole_line_gives rules owed opening l Preliminary = unchanged l
whole_line_gives rules owed opening l Final = final_line_gives rules owed opening l
whole_line_gives rules owed opening l StandsAlone = unchanged l

-- what a line is classed by: its content, or, by request 1 of document 02, "A flowing line is judged by its first four octets"
unfoldable pub classed_by : List ℕ → List ℕ
classed_by l = choose (is_whole l) (content l) (take 4 l)

-- "the LF of a line judged whole gives what "Server lines" makes of it, and each LF changes queue and reply as there"
unfoldable pub server_line : LineRules → List Kind → ℕ → List ℕ → ServerStep
server_line rules owed opening l =
    let r = reply_line opening (classed_by l) in
    server_step_to (in_line []) (owed_after r owed) (opening_after opening r)
    (choose (is_whole l) (whole_line_gives rules owed opening l r) (lf ∷ []))

-- "up to 511 without LF give nothing, a 512th not LF gives all, later ones themselves": l ends with the octet x
unfoldable pub line_octet_gives : List ℕ → ℕ → List ℕ
line_octet_gives l x = choose (is_whole l) [] (choose (eqb (length l) judged) (passed l) (passed (x ∷ [])))

-- a server octet that is no LF joins its line
unfoldable pub line_octet : List Kind → ℕ → List ℕ → ℕ → ServerStep
line_octet owed opening l x = server_step_to (in_line l) owed opening (line_octet_gives l x)

-- "A server octet gives itself once its side passes at once"
unfoldable pub server_octet : LineRules → Place → List Kind → ℕ → ℕ → ServerStep
server_octet rules (in_line l) owed opening x =
    choose (eqb x lf) (server_line rules owed opening l) (line_octet owed opening (l ++ (x ∷ [])) x)
server_octet rules passing owed opening x = server_step_to passing owed opening (x ∷ [])
server_octet rules ended owed opening x = server_step_to ended owed opening []

-- ---- "After each octet follow the own answers and the AUTH step"

-- the held octets: an unfinished line that does not flow yet
unfoldable pub held : Place → List ℕ
held (in_line l) = choose (is_whole l) l []
held passing = []
held ended = []

-- "a server line is flowing, or the server direction has ended"
unfoldable pub flows_or_ended : Place → Bool
flows_or_ended (in_line l) = not (is_whole l)
flows_or_ended passing = false
flows_or_ended ended = true

-- "the gateway's own answers at the head of the queue are written in order, unless .."
unfoldable pub own_answers : Place → List Kind → ℕ → List ℕ → ServerStep
own_answers p owed opening gives =
    choose (is_open opening || flows_or_ended p) (server_step_to p owed opening gives)
    (server_step_to p (without_answers owed) opening (gives ++ head_answers owed))

-- "all later ones pass at once", unless the server has ended
abbrev pub passes_from_now : Place → Place
passes_from_now (in_line l) = passing
passes_from_now passing = passing
passes_from_now ended = ended

-- a side's octets are read as lines, with the Telnet layer below them
abbrev pub is_in_line : Place → Bool
is_in_line (in_line l) = true
is_in_line passing = false
is_in_line ended = false

-- by request 2 of document 02, "Where held octets pass at an end or for AUTH, any other command still unfinished passes after
-- them, also where none are held"
abbrev pub let_go : Place → Telnet → List ℕ
let_go p t = passed (held p) ++ unfinished_in (is_in_line p) t

-- "When AUTH reaches the head, held server octets pass and all later ones pass at once"
unfoldable pub auth_step : Telnet → ServerStep → ServerStep
auth_step telnet t =
    let s = t.state in
    choose (auth_at_head s.owed)
    (server_step_to (passes_from_now s.place) s.owed s.opening (t.gives ++ let_go s.place telnet))
    t

-- after an octet that gave what `t` says and put `new` on the queue; what has come of a server's command is `telnet`
unfoldable pub after_octet : Telnet → ServerStep → List Kind → ServerStep
after_octet telnet t new =
    let s = t.state in auth_step telnet (own_answers s.place (s.owed ++ new) s.opening t.gives)

-- "the kinds owed (at first plain, the greeting)"
abbrev pub fresh_server : ServerState
fresh_server = record { place = in_line []; owed = Kind.Plain ∷ []; opening = 0 }

-- nothing of a line yet, and the first state of the line rules
abbrev pub fresh_client : {S : Type 0} → S → ClientState S
fresh_client st = record { line_state = st; place = in_line [] }

-- this page's definitions, for a proof that computes with them
unfoldable pub to-client-opened : Unit {0}
unfolding finishes joins client_octet final_line_gives whole_line_gives classed_by server_line line_octet_gives line_octet server_octet held flows_or_ended own_answers auth_step after_octet
to-client-opened = tt
