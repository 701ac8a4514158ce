-- Demand 3's to-server half "now speaks of the output without these answers and without passed Telnet commands, each told apart by the
-- octet or end that wrote it, never by its look": which part of each item's output is spoken.
use Rattle.std.specs.Prelude.{List, [], ◌∷◌, ◌++◌, ℕ, zero, suc, ◌-◌, length, take}
use Rattle.std.specs.Prelude.{Option, None, Some}
use Rattle.rules.specs.Answers.{client, server}
use Rattle.rules.specs.Setup.{setup_switches}
use Rattle.rules.specs.declared.Setup.{Setup}
use Rattle.rules.specs.Telnet.{data_of, unfinished, data_octets, up_to}
use Rattle.rules.specs.Edition.{LineRules, document01}
use Rattle.rules.specs.History.{Item, octet, end, text_of}
use Rattle.rules.specs.ToServer.{auth_at}
use Rattle.rules.specs.Items.{Piece}
use Rattle.rules.specs.declared.Telnet.{Telnet}

-- what an item's output to the server is: of the lines, or after AUTH; an answer or a passed command; or, of the client's end, held
-- octets and then so many octets of an unfinished command
pub data Role : Type 0 where
  speech : Role
  telnet : Role
  speech_then : ℕ → Role

-- a client octet speaks if it makes an octet of a line, or comes after AUTH; any other writes a command, or nothing
abbrev pub octet_role : Option ℕ → Role
octet_role None = telnet
octet_role (Some y) = speech

-- the client's end: what has come of a command is none of it where AUTH is still to come
abbrev pub end_role : ℕ → Telnet → Role
end_role zero t = speech
end_role (suc n) t = speech_then (length (unfinished t))

-- each item's role, with n octets of client lines to come up to AUTH; what the server's octets write to the server are answers
unfoldable pub roles_from : ℕ → Telnet → List Item → List Role
roles_from n t [] = []
roles_from n t (octet client x ∷ is) =
    let s = up_to n t x in octet_role (data_of s.does) ∷ roles_from s.left s.telnet is
roles_from n t (octet server x ∷ is) = telnet ∷ roles_from n t is
roles_from n t (end client ∷ is) = end_role n t ∷ roles_from n t is
roles_from n t (end server ∷ is) = telnet ∷ roles_from n t is

-- by any rules, from one of their states on: the layer's own reading of the client's text tells them
unfoldable pub roles_by : (rules : LineRules) → rules.LineState → List Item → List Role
roles_by rules st is = roles_from (auth_at rules st (data_octets Telnet.Clear (text_of client is))) Telnet.Clear is

-- the roles of a history after a setup
unfoldable pub roles_of : Setup → List Item → List Role
roles_of su is = roles_by (document01 su) (setup_switches su.flags) is

-- the part of an item's output that is spoken
unfoldable pub spoken_part : Role → List ℕ → List ℕ
spoken_part speech p = p
spoken_part telnet p = []
spoken_part (speech_then n) p = take (length p - n) p

-- "the output without these answers and without passed Telnet commands"
unfoldable pub spoken : List Role → List Piece → List ℕ
spoken [] ps = []
spoken (r ∷ rs) [] = []
spoken (r ∷ rs) (p ∷ ps) = spoken_part r p.to_server ++ spoken rs ps

-- this page's definitions, for a proof that computes with them
unfoldable pub pieces-opened : Unit {0}
unfolding roles_from roles_by roles_of spoken_part spoken
pieces-opened = tt
