-- "Demand 3 written out": one claim about a list of calls, over any record and functions that keep a promise.
use Rattle.std.specs.Prelude.{◌≡◌, Bool, true, false, List, [], ◌∷◌, ◌++◌, map, ℕ, length, take}
use Rattle.rules.specs.Answers.{Side, client, server, side_of, offset_of}
use Rattle.rules.specs.Setup.{setup_answer}
use Rattle.rules.specs.declared.Setup.{Setup}
use Rattle.rules.specs.History.{Item, octet, end, text_of, has_ended, taken_from}
use Rattle.rules.specs.ToServer.{to_server as read_server}
use Rattle.rules.specs.Items.{Piece, all_to_server, all_to_client, each_item, to_client as read_client, removed_from}
use Rattle.rules.specs.Pieces.{roles_of, spoken}
use Rattle.rules.specs.declared.Answer.{Answer}
use Rattle.rules.specs.declared.Answer.TheVariants.{
  Done,
  QueueFull,
  NoRoom,
  UnknownDirection,
  BadRecord,
  BadSetup,
  DirectionEnded,
}

-- "any arrivals and ends .., with buffers of any size": the direction's number, the octets that arrive, and the two buffers as they were lent
pub data Call : Type 0 where
  arrival : ℕ → List ℕ → List ℕ → List ℕ → Call
  ending : ℕ → List ℕ → List ℕ → Call

-- what a call returned: the answer, the octets taken, how many it wrote into each buffer, the record, and the buffers then. No function
-- returns the pieces; a promise says them: what each octet taken wrote, or the end that answered 0
pub record Return (Session : Type 0) : Type 0 where
  pub answer : Answer
  pub taken : ℕ
  pub to_server : ℕ
  pub to_client : ℕ
  pub session : Session
  pub server_buffer : List ℕ
  pub client_buffer : List ℕ
  pub pieces : List Piece

-- a gateway: its record, "the record of a setup that answered 0", what arrival and end promise, a side's offset, and how many octets
-- of subnegotiations were removed from it
pub record Gateway : Type 1 where
  pub Session : Type 0
  pub Fresh : Setup → Session → Type 0
  pub Promise : Session → Call → Return Session → Type 0
  pub offset : Session → Side → ℕ
  pub removed : Session → Side → ℕ

-- what keeps the claim below from being empty: a setup that answers 0 has a record, and every call returns
pub record Answering (g : Gateway) : Type 0 where
  pub fresh : (su : Setup) → setup_answer su.flags ≡ Done → (r : g.Session) × g.Fresh su r
  pub only_fresh : (su : Setup) (r : g.Session) → g.Fresh su r → setup_answer su.flags ≡ Done
  pub returns : (r : g.Session) (c : Call) → (t : Return g.Session) × g.Promise r c t

-- "the ends that answered 0"
abbrev pub end_if_done : Answer → Side → List Item
end_if_done Done s = end s ∷ []
end_if_done QueueFull s = []
end_if_done NoRoom s = []
end_if_done UnknownDirection s = []
end_if_done BadRecord s = []
end_if_done BadSetup s = []
end_if_done DirectionEnded s = []

-- refused by 3, 4 or 6
abbrev pub is_refusal : Answer → Bool
is_refusal Done = false
is_refusal QueueFull = false
is_refusal NoRoom = false
is_refusal UnknownDirection = true
is_refusal BadRecord = true
is_refusal BadSetup = false
is_refusal DirectionEnded = true

-- the buffers that a call was lent
abbrev pub lent_server : Call → List ℕ
lent_server (arrival d xs s c) = s
lent_server (ending d s c) = s

-- the one for the client
abbrev pub lent_client : Call → List ℕ
lent_client (arrival d xs s c) = c
lent_client (ending d s c) = c

module _ (g : Gateway) where
  -- a call with what it returned
  abbrev pub Made : Type 0
  Made = Call × Return g.Session

  -- "Each gets the record the last one returned": calls made from a first record to a last one
  pub data Calls : g.Session → List Made → g.Session → Type 0 where
    no_calls : {r : g.Session} → Calls r [] r
    next : {r z : g.Session} {c : Call} {t : Return g.Session} {l : List Made} → g.Promise r c t → Calls t.session l z → Calls r ((c, t) ∷ l) z

  -- "The history is the octets that arrivals say they took, each with its side, and the ends that answered 0, in order"
  abbrev pub items_of : Call → Return g.Session → List Item
  items_of (arrival d xs s c) t = map (octet (side_of d)) (take t.taken xs)
  items_of (ending d s c) t = end_if_done t.answer (side_of d)

  -- "in order": the items of all calls
  abbrev pub history_of : List Made → List Item
  history_of [] = []
  history_of (m ∷ l) = items_of m.0 m.1 ++ history_of l

  -- "What has gone to a side is what the calls wrote for it, joined"
  abbrev pub gone_to_server : List Made → List ℕ
  gone_to_server [] = []
  gone_to_server (m ∷ l) = take m.1.to_server m.1.server_buffer ++ gone_to_server l

  -- the same for the client
  abbrev pub gone_to_client : List Made → List ℕ
  gone_to_client [] = []
  gone_to_client (m ∷ l) = take m.1.to_client m.1.client_buffer ++ gone_to_client l

  -- what each item of the history wrote
  abbrev pub pieces_of : List Made → List Piece
  pieces_of [] = []
  pieces_of (m ∷ l) = m.1.pieces ++ pieces_of l

  -- "the output without these answers and without passed Telnet commands, each told apart by the octet or end that wrote it"
  abbrev pub spoken_to_server : Setup → List Made → List ℕ
  spoken_to_server su l = spoken (roles_of su (history_of l)) (pieces_of l)

  -- the pieces are what has gone to each side, and each is the one that the history gives; what was spoken to the server is the reading of
  -- the client's text, what has gone to the client that of the history; "its length minus the octets taken from the other side, modulo
  -- 2^32, is the offset", over all that has gone; and the octets of subnegotiations removed are counted
  pub record Kept (su : Setup) (l : List Made) (z : g.Session) : Type 0 where
    pub joined_to_server : all_to_server (pieces_of l) ≡ gone_to_server l
    pub joined_to_client : all_to_client (pieces_of l) ≡ gone_to_client l
    pub pieces : pieces_of l ≡ each_item su (history_of l)
    pub to_server : spoken_to_server su l ≡ read_server su (text_of client (history_of l)) (has_ended client (history_of l))
    pub to_client : gone_to_client l ≡ read_client su (history_of l)
    pub client_offset : g.offset z client ≡ offset_of (length (gone_to_server l)) (taken_from client (history_of l))
    pub server_offset : g.offset z server ≡ offset_of (length (gone_to_client l)) (taken_from server (history_of l))
    pub client_removed : g.removed z client ≡ removed_from su client (history_of l)
    pub server_removed : g.removed z server ≡ removed_from su server (history_of l)

  -- demand 3
  abbrev pub Demand3 : Type 0
  Demand3 = (su : Setup) (r z : g.Session) (l : List Made) → g.Fresh su r → Calls r l z → Kept su l z

  -- ---- its consequences

  -- calls from a fresh session
  pub record FromFresh (su : Setup) (l : List Made) : Type 0 where
    pub first : g.Session
    pub last : g.Session
    pub fresh : g.Fresh su first
    pub calls : Calls first l last

  -- wherever the pieces were cut, whatever the rooms: the same history has sent the same octets to both sides
  abbrev pub SameHistory : Type 0
  SameHistory =
      (su : Setup) (l m : List Made) → FromFresh su l → FromFresh su m → history_of l ≡ history_of m
      → (gone_to_server l ≡ gone_to_server m) × (gone_to_client l ≡ gone_to_client m)

  -- whatever the server sent: the same client text and end have spoken the same to the server
  abbrev pub SameClient : Type 0
  SameClient =
      (su : Setup) (l m : List Made) → FromFresh su l → FromFresh su m
      → text_of client (history_of l) ≡ text_of client (history_of m)
      → has_ended client (history_of l) ≡ has_ended client (history_of m)
      → spoken_to_server su l ≡ spoken_to_server su m

  -- until the client's end, more client octets only add to what was spoken to the server
  abbrev pub OnlyAdds : Type 0
  OnlyAdds =
      (su : Setup) (l m : List Made) (more : List ℕ) → FromFresh su l → FromFresh su m
      → has_ended client (history_of l) ≡ false
      → text_of client (history_of m) ≡ text_of client (history_of l) ++ more
      → (added : List ℕ) × (spoken_to_server su m ≡ spoken_to_server su l ++ added)

  -- ---- refused calls

  -- "With 3, 4 and 6 nothing is written and the record comes back equal"
  pub record LeftAlone (r : g.Session) (c : Call) (t : Return g.Session) : Type 0 where
    pub taken : t.taken ≡ 0
    pub to_server : t.to_server ≡ 0
    pub to_client : t.to_client ≡ 0
    pub session : t.session ≡ r
    pub server_buffer : t.server_buffer ≡ lent_server c
    pub client_buffer : t.client_buffer ≡ lent_client c
    pub pieces : t.pieces ≡ []

  -- every refused call does so
  abbrev pub RefusalsLeaveAll : Type 0
  RefusalsLeaveAll =
      (r : g.Session) (c : Call) (t : Return g.Session) → g.Promise r c t → is_refusal t.answer ≡ true → LeftAlone r c t

  -- so a list of calls is the same without a refused one
  pub record SameWithout (r z : g.Session) (l m : List Made) (c : Call) (t : Return g.Session) : Type 0 where
    pub calls : Calls r (l ++ m) z
    pub history : history_of (l ++ (c, t) ∷ m) ≡ history_of (l ++ m)
    pub to_server : gone_to_server (l ++ (c, t) ∷ m) ≡ gone_to_server (l ++ m)
    pub to_client : gone_to_client (l ++ (c, t) ∷ m) ≡ gone_to_client (l ++ m)
    pub pieces : pieces_of (l ++ (c, t) ∷ m) ≡ pieces_of (l ++ m)

  -- it is so wherever a refused call stands in a list
  abbrev pub RefusedChangesNothing : Type 0
  RefusedChangesNothing =
      (r z : g.Session) (l m : List Made) (c : Call) (t : Return g.Session)
      → Calls r (l ++ (c, t) ∷ m) z → is_refusal t.answer ≡ true → SameWithout r z l m c t
