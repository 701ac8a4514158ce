-- Document 02, request 2: "the Telnet layer of RFC 854 below the lines". What an octet does in it, and a text with the layer
-- taken out. What a line's octets give where they leave is `Lines.passed`, what is let go at an end and for AUTH `ToClient.let_go`,
-- an item of the history through its layer `Items.item_step`, and which part of the output is spoken stands in `Pieces`.
use Rattle.std.specs.Prelude.{Bool, true, false, List, [], ◌∷◌, ◌++◌, ℕ, zero, suc, ◌+◌, eqb}
use Rattle.std.specs.Prelude.{Option, None, Some}
use Rattle.rules.specs.Octets.{iac, choose}
use Rattle.rules.specs.Answers.{wrapped}
use Rattle.rules.specs.declared.Telnet.{Telnet}
use Rattle.rules.specs.declared.Telnet.TheVariants.{Clear, Iac, Will, Wont, Do, Dont, Within, WithinIac}
use Rattle.rules.specs.declared.Layer.{Layer}
use Rattle.rules.specs.declared.Does.{Does}
use Rattle.rules.specs.declared.Does.TheVariants.{Data, Nothing, AnswersDont, AnswersWont, Passes, Removes}
use Rattle.rules.specs.declared.TelnetStep.{TelnetStep}

-- ---- RFC 854's codes, behind a 255

-- "SE: End of subnegotiation parameters"
abbrev pub se : ℕ
se = 240

-- "SB: Indicates that what follows is subnegotiation of the indicated option"
abbrev pub sb : ℕ
sb = 250

-- "WILL (option code)"
abbrev pub will : ℕ
will = 251

-- "WON'T (option code)"
abbrev pub wont : ℕ
wont = 252

-- "DO (option code)"
abbrev pub do_it : ℕ
do_it = 253

-- "DON'T (option code)"
abbrev pub dont : ℕ
dont = 254

-- ---- one octet

-- a step to this state, by an octet that does this
abbrev pub to : Telnet → Does → TelnetStep
to t d = record { telnet = t; does = d }

-- behind 255: "a doubled 255 is one data octet of a line"; "255 and any other octet but 250 pass at once as a command"
unfoldable pub after_iac : ℕ → TelnetStep
after_iac x =
    choose (eqb x iac) (to Clear (Data iac))
    (choose (eqb x sb) (to Within (Removes 2))
    (choose (eqb x will) (to Will Nothing)
    (choose (eqb x wont) (to Wont Nothing)
    (choose (eqb x do_it) (to Do Nothing)
    (choose (eqb x dont) (to Dont Nothing) (to Clear (Passes x)))))))

-- "WILL is answered to its sender with DONT, DO with WONT, and neither is relayed; WONT and DONT are dropped"; "A subnegotiation
-- is removed up to its end", which is 255 and SE
unfoldable pub telnet_octet : Telnet → ℕ → TelnetStep
telnet_octet Clear x = choose (eqb x iac) (to Iac Nothing) (to Clear (Data x))
telnet_octet Iac x = after_iac x
telnet_octet Will x = to Clear (AnswersDont x)
telnet_octet Wont x = to Clear Nothing
telnet_octet Do x = to Clear (AnswersWont x)
telnet_octet Dont x = to Clear Nothing
telnet_octet Within x = to (choose (eqb x iac) WithinIac Within) (Removes 1)
telnet_octet WithinIac x = to (choose (eqb x se) Clear Within) (Removes 1)

-- the octet of a line that an octet makes, if it makes one
abbrev pub data_of : Does → Option ℕ
data_of (Data y) = Some y
data_of Nothing = None
data_of (AnswersDont x) = None
data_of (AnswersWont x) = None
data_of (Passes x) = None
data_of (Removes n) = None

-- what goes back to its sender
abbrev pub answer_of : Does → List ℕ
answer_of (Data y) = []
answer_of Nothing = []
answer_of (AnswersDont x) = iac ∷ dont ∷ x ∷ []
answer_of (AnswersWont x) = iac ∷ wont ∷ x ∷ []
answer_of (Passes x) = []
answer_of (Removes n) = []

-- the command that passes to the other side
abbrev pub command_of : Does → List ℕ
command_of (Data y) = []
command_of Nothing = []
command_of (AnswersDont x) = []
command_of (AnswersWont x) = []
command_of (Passes x) = iac ∷ x ∷ []
command_of (Removes n) = []

-- "all its octets removed are counted in the record, for each direction in 32 bits that wrap": the 255 that begins a subnegotiation
-- with the octet behind it
abbrev pub removed_after : ℕ → Does → ℕ
removed_after r (Data y) = r
removed_after r Nothing = r
removed_after r (AnswersDont x) = r
removed_after r (AnswersWont x) = r
removed_after r (Passes x) = r
removed_after r (Removes n) = wrapped (r + n)

-- "any other command still unfinished": other than a subnegotiation
abbrev pub unfinished : Telnet → List ℕ
unfinished Clear = []
unfinished Iac = iac ∷ []
unfinished Will = iac ∷ will ∷ []
unfinished Wont = iac ∷ wont ∷ []
unfinished Do = iac ∷ do_it ∷ []
unfinished Dont = iac ∷ dont ∷ []
unfinished Within = []
unfinished WithinIac = []

-- the same, where its direction's octets are read as lines or are not
abbrev pub unfinished_in : Bool → Telnet → List ℕ
unfinished_in true t = unfinished t
unfinished_in false t = []

-- no command is unfinished
abbrev pub is_clear : Telnet → Bool
is_clear Clear = true
is_clear Iac = false
is_clear Will = false
is_clear Wont = false
is_clear Do = false
is_clear Dont = false
is_clear Within = false
is_clear WithinIac = false

-- ---- a direction

-- nothing has come, and nothing was removed
abbrev pub fresh_layer : Layer
fresh_layer = record { telnet = Clear; removed = 0 }

-- no command is unfinished any more
abbrev pub cleared : Layer → Layer
cleared l = record { telnet = Clear; removed = l.removed }

-- an octet of a direction: its layer after it, and what it does
pub record LayerStep : Type 0 where
  pub layer : Layer
  pub does : Does

-- by what it does to the Telnet state
abbrev pub layer_step : Layer → TelnetStep → LayerStep
layer_step l s = record { layer = record { telnet = s.telnet; removed = removed_after l.removed s.does }; does = s.does }

-- "Until a direction passes at once": from then on every octet is one that passes
unfoldable pub layer_octet : Bool → Layer → ℕ → LayerStep
layer_octet true l x = layer_step l (telnet_octet l.telnet x)
layer_octet false l x = record { layer = l; does = Data x }

-- ---- a text

-- an octet that makes one of a line, before others
abbrev pub onto_data : Option ℕ → List ℕ → List ℕ
onto_data None d = d
onto_data (Some y) d = y ∷ d

-- a text with the layer taken out: the octets of its lines
unfoldable pub data_octets : Telnet → List ℕ → List ℕ
data_octets t [] = []
data_octets t (x ∷ xs) = let s = telnet_octet t x in onto_data (data_of s.does) (data_octets s.telnet xs)

-- an octet read up to the n-th data octet: how many are then to come, what it does, and, behind that one, the octet as it came
pub record UpTo : Type 0 where
  pub left : ℕ
  pub telnet : Telnet
  pub does : Does
  pub raw : List ℕ

-- one more than n data octets were to come: how many are after an octet
abbrev pub to_come : Option ℕ → ℕ → ℕ
to_come None n = suc n
to_come (Some y) n = n

-- with n data octets to come
unfoldable pub up_to : ℕ → Telnet → ℕ → UpTo
up_to zero t x = record { left = zero; telnet = t; does = Data x; raw = x ∷ [] }
up_to (suc n) t x =
    let s = telnet_octet t x in
    record { left = to_come (data_of s.does) n; telnet = s.telnet; does = s.does; raw = [] }

-- what follows the n-th data octet of a text, as it came
unfoldable pub after_data : ℕ → Telnet → List ℕ → List ℕ
after_data n t [] = []
after_data n t (x ∷ xs) = let s = up_to n t x in s.raw ++ after_data s.left s.telnet xs

-- this page's definitions, for a proof that computes with them
unfoldable pub telnet-opened : Unit {0}
unfolding after_iac telnet_octet layer_octet data_octets up_to after_data
telnet-opened = tt
