-- Calls, the last of which takes one octet and writes as much as an octet can: from a fresh session on, and on a record that number 4
-- lets through.
use Rattle.std.specs.Prelude.{◌≡◌, true, List, [], ◌∷◌, ◌++◌, ℕ, zero, suc, ◌-◌, length, replicate}
use Rattle.rules.specs.Octets.{oct, lf, iac}
use Rattle.rules.specs.Answers.{most_owed, most_to_server, most_to_client, most_reached}
use Rattle.rules.specs.Lines.{most_held}
use Rattle.rules.specs.declared.Answer.{Answer}
use Rattle.rules.specs.declared.Kind.{Kind}
use Rattle.rules.specs.declared.OwnAnswer.{OwnAnswer}
use Rattle.places.specs.declared.Place.{Place}
use Rattle.places.specs.Places.{at}
use Rattle.queue.specs.Kinds.{code_of}
use Rattle.records.specs.Controls.{with_server}
use Rattle.rules.specs.Setup.{ipv6_width, ipv4_width}
use Rattle.records.specs.declared.Session.{Session}
use Rattle.session.specs.declared.Called.{Called}
use Rattle.setups.specs.Setups.{fresh_session, no_octets, no_counts}
use Rattle.session.specs.Calls.{arrived}

-- "Recompute the bounds 512 and 1,280": those of any record that number 4 lets through, and what a fresh session can come to
pub record Recomputed : Type 0 where
  pub to_server : most_to_server ≡ 1024
  pub to_client : most_to_client ≡ 1791
  pub from_fresh : most_reached ≡ 1787

-- a fresh session: its addresses are zeros, and only EPSV translation is on
abbrev pub fresh : Session
fresh = fresh_session (record { client = replicate ipv6_width 0; mapped = replicate ipv4_width 0; flags = 1; server = replicate ipv4_width 0 })

-- the room in each buffer: enough for what one octet can write
abbrev pub enough : ℕ
enough = 4096

-- octets arrive at buffers of that room
abbrev pub arrive : Session → ℕ → List ℕ → Called
arrive s d octets = (arrived s d octets enough enough).called

-- a text n times over
abbrev pub times : ℕ → List ℕ → List ℕ
times zero l = []
times (suc n) l = l ++ times n l

-- n octets 255 of a line, each of which comes doubled
abbrev pub doubles : ℕ → List ℕ
doubles n = times n (iac ∷ iac ∷ [])

-- as many of the client's as are held of a line, and one more, the second octet of which is a call of its own
unfoldable pub long_line : Called
long_line =
    let held = (arrive fresh 0 (doubles most_held)).session in
    let last = (arrive held 0 (iac ∷ [])).session in
    arrive last 0 (iac ∷ [])

-- how the line begins that ends a reply of several
abbrev pub last_line : List ℕ
last_line = oct "200 "

-- a greeting, a reply that goes on, and how its last line begins
abbrev pub begun : Session
begun = (arrive fresh 1 (oct "220\n200-\n" ++ last_line)).session

-- all other octets of that line but its LF; as many commands as replies can be owed, each owed a 504; that LF
unfoldable pub sixteen_answers : Called
sixteen_answers =
    let held = (arrive begun 1 (doubles (most_held - length last_line))).session in
    let asked = (arrive held 0 (times most_owed (oct "ALGS\r\n"))).session in
    arrive asked 1 (lf ∷ [])

-- A record that number 4 lets through, though no calls make it: sixteen answers of the gateway's own wait where nothing keeps
-- them back, and a line of 511 octets 255 is held.
abbrev pub waiting : Session
waiting =
    let c = fresh.control in
    record {
      live = true;
      fixed = fresh.fixed;
      control = with_server c (at Place.Holding most_held) most_owed 0;
      command = no_octets;
      reply = replicate most_held iac;
      kinds = replicate most_owed (code_of (Kind.Own OwnAnswer.ParameterNotImplemented));
      up = no_counts;
      down = no_counts;
    }

-- the LF of that line
unfoldable pub all_at_once : Called
all_at_once = arrive waiting 1 (lf ∷ [])

-- a call that answers 0, takes one octet, and writes so many octets to the server and to the client
pub record Writes (r : Called) (server client : ℕ) : Type 0 where
  pub answer : r.answer ≡ Answer.Done
  pub taken : r.taken ≡ 1
  pub to_server : r.written.server ≡ server
  pub to_client : r.written.client ≡ client
