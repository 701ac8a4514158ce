-- "The session": the table of answers, over what it looks at in a call and in a record.
use Rattle.std.specs.Prelude.{Bool, false, ◌&&◌, not, List, ℕ, zero, suc, ◌+◌, ◌-◌, ◌*◌, ◌%◌, ◌^◌, leb, eqb, length}
use Rattle.std.specs.Prelude.{Option, None, Some}
use Rattle.rules.specs.Octets.{choose}
use Rattle.rules.specs.Lines.{most_held, judged}
use Rattle.rules.specs.declared.Answer.{Answer}
use Rattle.rules.specs.declared.Answer.TheVariants.{
  Done,
  QueueFull,
  NoRoom,
  UnknownDirection,
  BadRecord,
  BadSetup,
  DirectionEnded,
}

-- the table's first column
abbrev pub answer_number : Answer → ℕ
answer_number Done = 0
answer_number QueueFull = 1
answer_number NoRoom = 2
answer_number UnknownDirection = 3
answer_number BadRecord = 4
answer_number BadSetup = 5
answer_number DirectionEnded = 6

-- "a direction (0 client, 1 server)"
pub data Side : Type 0 where
  client server : Side

-- the side of a direction's number; a number that number 3 refuses counts as the server's
abbrev pub side_of : ℕ → Side
side_of zero = client
side_of (suc d) = server

-- "a queue of replies owed, at most 16"
abbrev pub most_owed : ℕ
most_owed = 16

-- number 1: "next octet is the client's, no AUTH yet, 16 replies owed"
unfoldable pub is_queue_full : Side → Bool → ℕ → Bool
is_queue_full client auth_yet owed = not auth_yet && leb most_owed owed
is_queue_full server auth_yet owed = false

-- number 2 is not given: each buffer has room for what goes into it
unfoldable pub fits : List ℕ → List ℕ → ℕ → ℕ → Bool
fits to_server to_client server_room client_room = leb (length to_server) server_room && leb (length to_client) client_room

-- not 4, for a side: not "over 511 octets held, or octets held where the line already flows, the direction has ended or its octets pass at once"
unfoldable pub sound_held : Bool → ℕ → Bool
sound_held may_hold held = choose may_hold (leb held most_held) (eqb held 0)

-- not 4: not "record not live, over 16 owed, an owed kind not listed here", nor a side's held octets as above
unfoldable pub sound_record : Bool → ℕ → Bool → Bool → Bool → Bool
sound_record live owed kinds_listed client_held server_held =
    live && leb owed most_owed && kinds_listed && client_held && server_held

-- "Order: 3, 4, 6": what refuses a call on a direction, if anything does
unfoldable pub refusal : ℕ → Bool → Bool → Option Answer
refusal direction sound ended =
    choose (leb 2 direction) (Some UnknownDirection)
    (choose (not sound) (Some BadRecord)
    (choose ended (Some DirectionEnded) None))

-- "then octet by octet 1 before 2": what stops a call before its next octet, if anything does
unfoldable pub stop : Bool → Bool → Option Answer
stop full room = choose full (Some QueueFull) (choose room None (Some NoRoom))

-- the octets of the longest own answer, and of a whole queue of them
abbrev pub longest_answer : ℕ
longest_answer = 48

-- those of a whole queue of them
abbrev pub most_answers : ℕ
most_answers = most_owed * longest_answer

-- "One octet writes at most .. octets to the server": 512 octets that are all doubled; "Recompute the bounds 512 and 1,280"
unfoldable pub most_to_server : ℕ
most_to_server = 2 * judged

-- "and at most .. to the client": 511 that are doubled, the LF, and sixteen answers. It is the least number for all records that
-- number 4 lets through
unfoldable pub most_to_client : ℕ
most_to_client = 2 * most_held + 1 + most_answers

-- what is reached from a fresh session: there the 511 end an open reply, so that they begin with a code and a space
unfoldable pub most_reached : ℕ
most_reached = most_to_client - 4

-- "counts octets taken and written in 32 bits that wrap"
unfoldable pub wrapped : ℕ → ℕ
wrapped n = n % 2 ^ 32

-- "Its offset is written minus taken, modulo 2^32"
unfoldable pub offset_of : ℕ → ℕ → ℕ
offset_of written taken = wrapped (wrapped written + (2 ^ 32 - wrapped taken))

-- this page's definitions, for a proof that computes with them
unfoldable pub answers-opened : Unit {0}
unfolding is_queue_full fits sound_held sound_record refusal stop most_to_server most_to_client most_reached wrapped offset_of
answers-opened = tt
