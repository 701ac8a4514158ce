-- What a server octet does on its own side: what it gives, where the direction stands then, and what is removed.
use Rattle.std.specs.Prelude.{Option, None, Some}
use Rattle.std.specs.Prelude.{Bool, true, false, List, ℕ, ◌+◌, eqb, ltb, take}
use Rattle.rules.specs.Octets.{lf, choose}
use Rattle.rules.specs.Lines.{judged, content}
use Rattle.rules.specs.Replies.{is_open, reply_line, opening_after, passive_reply, foreign}
use Rattle.rules.specs.declared.Fixed.{Fixed}
use Rattle.rules.specs.declared.Kind.{Kind}
use Rattle.rules.specs.declared.ReplyLine.{ReplyLine}
use Rattle.rules.specs.declared.PassiveReply.{PassiveReply}
use Rattle.places.specs.declared.Place.{Place}
use Rattle.places.specs.declared.Direction.{Direction}
use Rattle.gives.specs.declared.Gives.{Gives}
use Rattle.downstream.specs.declared.ServerEffect.{ServerEffect}
use Rattle.places.specs.Places.{at}

-- the effect of a server octet, by its parts
abbrev pub server_effect_of : Gives → Direction → ℕ → ℕ → ServerEffect
server_effect_of g d n opening = record { gives = g; direction = d; removes = n; opening = opening }

-- "removes the first owed kind, unless none is owed or it is the gateway's own answer"
unfoldable pub kind_removed : Kind → ℕ
kind_removed Kind.Plain = 1
kind_removed Kind.TranslatedEpsv = 1
kind_removed (Kind.Own a) = 0
kind_removed Kind.Auth = 1

-- the same of the first kind owed: none is removed where "none is owed"
unfoldable pub head_removed : Option Kind → ℕ
head_removed None = 0
head_removed (Some k) = kind_removed k

-- only a line that ends a final reply removes one
unfoldable pub line_removes : ReplyLine → Option Kind → ℕ
line_removes (ReplyLine.Opens code) o = 0
line_removes ReplyLine.Belongs o = 0
line_removes ReplyLine.Preliminary o = 0
line_removes ReplyLine.Final o = head_removed o
line_removes ReplyLine.StandsAlone o = 0

-- "the line becomes `229 ..`. Otherwise it passes"; by request 4 of document 02, "`425 ..` instead of the 229"
unfoldable pub passive_effect : Fixed → Option PassiveReply → Gives
passive_effect f None = Gives.HeldAndOctet
passive_effect f (Some reply) = choose (foreign f reply.address) Gives.CannotOpen (Gives.ExtendedPassive reply.port)

-- the 227 that answers a translated EPSV is read, any other line passes; by what the setup fixes
unfoldable pub kind_effect : Fixed → Kind → List ℕ → Gives
kind_effect f Kind.Plain c = Gives.HeldAndOctet
kind_effect f Kind.TranslatedEpsv c = passive_effect f (passive_reply c)
kind_effect f (Kind.Own a) c = Gives.HeldAndOctet
kind_effect f Kind.Auth c = Gives.HeldAndOctet

-- the same of the first kind owed: where there is none, the line passes
unfoldable pub head_effect : Fixed → Option Kind → List ℕ → Gives
head_effect f None c = Gives.HeldAndOctet
head_effect f (Some k) c = kind_effect f k c

-- a line judged whole of content c gives itself, unless it ends a final reply of no earlier line
unfoldable pub line_gives : Fixed → ReplyLine → ℕ → Option Kind → List ℕ → Gives
line_gives f (ReplyLine.Opens code) opening o c = Gives.HeldAndOctet
line_gives f ReplyLine.Belongs opening o c = Gives.HeldAndOctet
line_gives f ReplyLine.Preliminary opening o c = Gives.HeldAndOctet
line_gives f ReplyLine.Final opening o c = choose (is_open opening) Gives.HeldAndOctet (head_effect f o c)
line_gives f ReplyLine.StandsAlone opening o c = Gives.HeldAndOctet

-- the LF of a line judged whole
unfoldable pub whole_line : Fixed → ℕ → Option Kind → List ℕ → ServerEffect
whole_line f opening o c =
    let r = reply_line opening c in
    server_effect_of (line_gives f r opening o c) (at Place.Holding 0) (line_removes r o) (opening_after opening r)

-- the LF of a flowing line, whose first four octets are still in the array
unfoldable pub flowing_line : ℕ → Option Kind → List ℕ → ServerEffect
flowing_line opening o line =
    let r = reply_line opening (take 4 line) in
    server_effect_of Gives.LineOctet (at Place.Holding 0) (line_removes r o) (opening_after opening r)

-- another octet of a held line: it is held, or lets the line go
unfoldable pub reply_octet : ℕ → ℕ → ServerEffect
reply_octet opening held =
    choose (ltb (held + 1) judged) (server_effect_of Gives.Held (at Place.Holding (held + 1)) 0 opening)
    (server_effect_of Gives.HeldAndOctet (at Place.Flowing 0) 0 opening)

-- by the place of the direction, and whether the octet is LF
unfoldable pub reply_effect : Fixed → ℕ → Option Kind → Place → ℕ → List ℕ → Bool → ServerEffect
reply_effect f opening o Place.Holding held line true = whole_line f opening o (content (take held line))
reply_effect f opening o Place.Holding held line false = reply_octet opening held
reply_effect f opening o Place.Flowing held line true = flowing_line opening o line
reply_effect f opening o Place.Flowing held line false = server_effect_of Gives.LineOctet (at Place.Flowing 0) 0 opening
reply_effect f opening o Place.Passing held line b = server_effect_of Gives.Octet (at Place.Passing 0) 0 opening
reply_effect f opening o Place.Ended held line b = server_effect_of Gives.Nothing (at Place.Ended 0) 0 opening

-- line is the array that holds the server's octets, o the first kind owed
unfoldable pub server_effect : Fixed → ℕ → Option Kind → Direction → List ℕ → ℕ → ServerEffect
server_effect f opening o d line x = reply_effect f opening o d.place d.held line (eqb x lf)

-- this page's definitions, for a proof that computes with them
unfoldable pub downstream-opened : Unit {0}
unfolding kind_removed head_removed line_removes passive_effect kind_effect head_effect line_gives whole_line flowing_line reply_octet reply_effect server_effect
downstream-opened = tt
