-- "Server lines", as requests 1 and 4 of document 02 leave them: which lines open, belong to and end a reply; the 227 reader, the
-- lines that the gateway writes, and the queue.
use Rattle.std.specs.Prelude.{Bool, true, false, not, ◌&&◌, ◌||◌, List, [], ◌∷◌, ◌++◌, ℕ, zero, suc, ◌+◌, ◌-◌, ◌*◌, eqb, length, get_or, take, drop}
use Rattle.std.specs.Prelude.{Option, None, Some}
use Rattle.rules.specs.Octets.{oct, space, hyphen, comma, choose, within, equal, digit, not_digit, front, after, decimal}
use Rattle.rules.specs.Address.{both, octet_number}
use Rattle.rules.specs.Lines.{unchanged, content}
use Rattle.rules.specs.declared.OwnAnswer.{OwnAnswer}
use Rattle.rules.specs.declared.OwnAnswer.TheVariants.{ProtocolNotSupported, ParameterNotImplemented, State}
use Rattle.rules.specs.declared.Kind.{Kind}
use Rattle.rules.specs.declared.Fixed.{Fixed}
use Rattle.rules.specs.declared.ReplyLine.{ReplyLine}
use Rattle.rules.specs.declared.ReplyLine.TheVariants.{Opens, Belongs, Preliminary, Final, StandsAlone}
use Rattle.rules.specs.declared.PassiveReply.{PassiveReply}

-- ---- replies, in the words of request 1 where document 01 has others

-- a code: "a digit 1 to 5, two digits"
unfoldable pub starts_with_code : List ℕ → Bool
starts_with_code c = within 49 53 (get_or c 0 0) && digit (get_or c 1 0) && digit (get_or c 2 0)

-- the number that its three digits write
unfoldable pub reply_code : List ℕ → ℕ
reply_code c = (get_or c 0 0 - 48) * 100 + (get_or c 1 0 - 48) * 10 + (get_or c 2 0 - 48)

-- the end of a reply that a line is: "First digit 2 to 5 also removes the first owed kind"
unfoldable pub reply_end : List ℕ → ReplyLine
reply_end c = choose (eqb (get_or c 0 0) 49) Preliminary Final

-- a code and "then a space or the end", or "a code and a hyphen", where no reply is open: "Outside such a reply a bare
-- code is still a whole reply; a line of none of these forms passes, ends at its LF and removes nothing"
unfoldable pub line_outside : List ℕ → ReplyLine
line_outside c =
    choose (starts_with_code c)
    (choose (eqb (length c) 3 || eqb (get_or c 3 0) space) (reply_end c)
    (choose (eqb (get_or c 3 0) hyphen) (Opens (reply_code c)) StandsAlone))
    StandsAlone

-- "ends only at the same code and a space; lines between, whatever their digits, belong to it"
unfoldable pub line_inside : ℕ → List ℕ → ReplyLine
line_inside opening c =
    choose (starts_with_code c && eqb (reply_code c) opening && eqb (get_or c 3 0) space) (reply_end c) Belongs

-- a reply with this opening code is open; 0 is none
abbrev pub is_open : ℕ → Bool
is_open opening = not (eqb opening 0)

-- what a server line of content c is, by the code that opened the reply that it stands in, if one is open
unfoldable pub reply_line : ℕ → List ℕ → ReplyLine
reply_line opening c = choose (is_open opening) (line_inside opening c) (line_outside c)

-- "The record keeps the opening code", from the LF of the line that opens to that of the line that ends
abbrev pub opening_after : ℕ → ReplyLine → ℕ
opening_after opening (Opens code) = code
opening_after opening Belongs = opening
opening_after opening Preliminary = 0
opening_after opening Final = 0
opening_after opening StandsAlone = 0

-- ---- 227

-- more numbers, where a comma stands
unfoldable pub after_comma : List ℕ → Option (List ℕ) → Option (List ℕ)
after_comma t more = choose (eqb (get_or t 0 0) comma) more None

-- one number and k more: "each a whole run of 1 to 3 digits, 0 to 255, single commas between; what follows the sixth run is not looked at"
unfoldable pub numbers : ℕ → List ℕ → Option (List ℕ)
numbers zero t = octet_number (front digit t)
numbers (suc k) t = let u = after digit t in both (octet_number (front digit t)) (after_comma u (numbers k (drop 1 u)))

-- the first four numbers are an address; "The port is the fifth times 256 plus the sixth; if not 0"
unfoldable pub passive_at : Option (List ℕ) → Option PassiveReply
passive_at None = None
passive_at (Some ns) =
    let p = get_or ns 4 0 * 256 + get_or ns 5 0 in
    choose (eqb p 0) None
    (Some (record { address = get_or ns 0 0 ∷ get_or ns 1 0 ∷ get_or ns 2 0 ∷ get_or ns 3 0 ∷ []; port = p }))

-- "the code is 227"; "read six numbers from the first digit after the code's space"
unfoldable pub passive_reply : List ℕ → Option PassiveReply
passive_reply c =
    choose (equal (take 4 c) (oct "227 ")) (passive_at (numbers 5 (after not_digit (drop 4 c)))) None

-- ---- the lines that the gateway writes to the client

-- "`229 Entering Extended Passive Mode (|||port|)`"
unfoldable pub extended_passive_line : ℕ → List ℕ
extended_passive_line p = oct "229 Entering Extended Passive Mode (|||" ++ (decimal p ++ oct "|)\r\n")

-- by request 4 of document 02, "gives the client `425 Can't open data connection.` instead of the 229"
unfoldable pub cannot_open_line : List ℕ
cannot_open_line = oct "425 Can't open data connection.\r\n"

-- "`216` and NONE, EPSV, EPRT or EPSVEPRT"
unfoldable pub state_line : Bool → Bool → List ℕ
state_line false false = oct "216 NONE\r\n"
state_line true false = oct "216 EPSV\r\n"
state_line false true = oct "216 EPRT\r\n"
state_line true true = oct "216 EPSVEPRT\r\n"

-- "`522 Network protocol not supported`", "`504 Command not implemented for that parameter`", or a 216
unfoldable pub answer_line : OwnAnswer → List ℕ
answer_line ProtocolNotSupported = oct "522 Network protocol not supported\r\n"
answer_line ParameterNotImplemented = oct "504 Command not implemented for that parameter\r\n"
answer_line (State sw) = state_line sw.epsv sw.eprt

-- ---- a line that ends a final reply

-- request 4: "with setup flag bit 3 on", "whose address differs from the control channel's server address"
unfoldable pub foreign : Fixed → List ℕ → Bool
foreign f address = f.strict && not (equal address f.server)

-- "if not 0 the line becomes `229 ..`. Otherwise it passes"; request 4: "gives the client `425 ..` instead of the 229"
unfoldable pub passive_gives : Fixed → List ℕ → Option PassiveReply → List ℕ
passive_gives f l None = unchanged l
passive_gives f l (Some reply) = choose (foreign f reply.address) cannot_open_line (extended_passive_line reply.port)

-- what it becomes by the first kind owed, if it is judged whole and no earlier line belongs to its reply
unfoldable pub final_gives : Fixed → Kind → List ℕ → List ℕ
final_gives f Kind.Plain l = unchanged l
final_gives f Kind.TranslatedEpsv l = passive_gives f l (passive_reply (content l))
final_gives f (Kind.Own a) l = unchanged l
final_gives f Kind.Auth l = unchanged l

-- ---- the queue

-- the kind is AUTH
abbrev pub is_auth : Kind → Bool
is_auth Kind.Plain = false
is_auth Kind.TranslatedEpsv = false
is_auth (Kind.Own a) = false
is_auth Kind.Auth = true

-- "removes the first owed kind, unless none is owed or it is the gateway's own answer"
unfoldable pub removed : List Kind → List Kind
removed [] = []
removed (Kind.Plain ∷ ks) = ks
removed (Kind.TranslatedEpsv ∷ ks) = ks
removed (Kind.Own a ∷ ks) = Kind.Own a ∷ ks
removed (Kind.Auth ∷ ks) = ks

-- "First digit 2 to 5 also removes the first owed kind"
unfoldable pub owed_after : ReplyLine → List Kind → List Kind
owed_after (Opens code) ks = ks
owed_after Belongs ks = ks
owed_after Preliminary ks = ks
owed_after Final ks = removed ks
owed_after StandsAlone ks = ks

-- "the gateway's own answers at the head of the queue": as written in order, and the queue without them
unfoldable pub head_answers : List Kind → List ℕ
head_answers [] = []
head_answers (Kind.Plain ∷ ks) = []
head_answers (Kind.TranslatedEpsv ∷ ks) = []
head_answers (Kind.Own a ∷ ks) = answer_line a ++ head_answers ks
head_answers (Kind.Auth ∷ ks) = []

-- the queue without them
unfoldable pub without_answers : List Kind → List Kind
without_answers [] = []
without_answers (Kind.Plain ∷ ks) = Kind.Plain ∷ ks
without_answers (Kind.TranslatedEpsv ∷ ks) = Kind.TranslatedEpsv ∷ ks
without_answers (Kind.Own a ∷ ks) = without_answers ks
without_answers (Kind.Auth ∷ ks) = Kind.Auth ∷ ks

-- "When AUTH reaches the head"
unfoldable pub auth_at_head : List Kind → Bool
auth_at_head [] = false
auth_at_head (k ∷ ks) = is_auth k

-- this page's definitions, for a proof that computes with them
unfoldable pub replies-opened : Unit {0}
unfolding starts_with_code reply_code reply_end line_outside line_inside reply_line after_comma numbers passive_at passive_reply extended_passive_line cannot_open_line state_line answer_line foreign passive_gives final_gives removed owed_after head_answers without_answers auth_at_head
replies-opened = tt
