-- Plain lines: what they do to the control and the queue, and that taking them is taking their octets.
use Rattle.std.specs.Prelude.{◌≡◌, Bool, true, ◌||◌, ◌&&◌, List, ℕ, ◌≤◌, eqb, length, get_or}
use Rattle.rules.specs.Octets.{choose}
use Rattle.rules.specs.Answers.{client, server, most_owed}
use Rattle.rules.specs.declared.ReplyLine.{ReplyLine}
use Rattle.rules.specs.declared.Telnet.{Telnet}
use Rattle.rules.specs.Lines.{most_held}
use Rattle.places.specs.declared.Place.{Place}
use Rattle.places.specs.Places.{at}
use Rattle.records.specs.declared.Control.{Control}
use Rattle.records.specs.Controls.{with_client, with_server}
use Rattle.rules.specs.declared.Fixed.{Fixed}
use Rattle.arrivals.specs.declared.plain.Said.{Said}
use Rattle.arrivals.specs.declared.plain.Answered.{Answered}
use Rattle.steps.specs.Takes.{addresses_lent, kinds_lent, core_lent}
use Rattle.arrivals.specs.Runs.{Ran}
use Rattle.queue.specs.Kinds.{is_still}

-- the first kind's number is that of plain
unfoldable pub is_plain_first : List ℕ → Bool
is_plain_first kinds = eqb (get_or kinds 0 0) 0

-- how many kinds a reply's line removes, where the first one owed is no own answer
unfoldable pub plain_removes : ReplyLine → ℕ → ℕ
plain_removes (ReplyLine.Opens code) owed = 0
plain_removes ReplyLine.Belongs owed = 0
plain_removes ReplyLine.StandsAlone owed = 0
plain_removes ReplyLine.Preliminary owed = 0
plain_removes ReplyLine.Final owed = choose (eqb owed 0) 0 1

-- in a still queue: no kind is removed; or a plain one is, or the reply began before, and behind it the queue is still
unfoldable pub keeps_still : List ℕ → Bool → ℕ → ℕ → Bool
keeps_still kinds inside n owed = choose (eqb n 0) true ((inside || is_plain_first kinds) && is_still kinds n owed)

-- a control in which the client holds so many octets, and so many replies are owed
abbrev pub said_control : Control → ℕ → ℕ → Control
said_control c held owed = with_client c c.switches (at Place.Holding held) owed

-- a control in which the server holds so many octets, so many replies are owed, and one is open with this code or none
abbrev pub answered_control : Control → ℕ → ℕ → ℕ → Control
answered_control c held owed opening = with_server c (at Place.Holding held) owed opening

-- plain lines of a client that holds h octets, with m replies owed and w octets written, lead from i to where r says,
-- whatever the rest of the control, in which no Telnet command of the client is unfinished, and the client's buffer are;
-- and the queue is still then
pub record SaidPlain (l : List ℕ) (i h m : ℕ) (lent out : List ℕ) (w : ℕ) (r : Said) (lent' out' : List ℕ) : Type 0 where
  pub ran : (f : Fixed) (c : Control) → c.up.telnet ≡ Telnet.Clear → (to_client : List ℕ) (n : ℕ) → n ≤ length to_client
      → Ran f client l (core_lent (said_control c h m) lent out to_client (record { server = w; client = n })) i
      (core_lent (said_control c r.held r.owed) lent' out' to_client (record { server = r.at; client = n })) r.taken
  pub held : r.held ≤ most_held
  pub owed : r.owed ≤ most_owed
  pub written : r.at ≤ length out'
  pub still : is_still (kinds_lent lent') 0 r.owed ≡ true
  pub addresses : addresses_lent lent' ≡ addresses_lent lent

-- plain lines of the server, whatever the rest of the control, in which no Telnet command of the server is unfinished, and the
-- server's buffer are
pub record AnsweredPlain (l : List ℕ) (i h m opening : ℕ) (lent out : List ℕ) (w : ℕ) (r : Answered)
    (lent' out' : List ℕ) : Type 0 where
  pub ran : (f : Fixed) (c : Control) → c.down.telnet ≡ Telnet.Clear → (to_server : List ℕ) (n : ℕ) → n ≤ length to_server
      → Ran f server l (core_lent (answered_control c h m opening) lent to_server out (record { server = n; client = w })) i
      (core_lent (answered_control c r.held r.owed r.opening) lent' to_server out' (record { server = n; client = r.at })) r.taken
  pub held : r.held ≤ most_held
  pub owed : r.owed ≤ most_owed
  pub written : r.at ≤ length out'
  pub still : is_still (kinds_lent lent') 0 r.owed ≡ true
  pub addresses : addresses_lent lent' ≡ addresses_lent lent
