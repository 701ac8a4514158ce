-- What a setup answers, and the record that it leaves.
use Rattle.std.specs.Prelude.{Bool, true, false, List, ℕ, eqb, length, replicate}
use Rattle.rules.specs.Octets.{choose}
use Rattle.rules.specs.Answers.{most_owed}
use Rattle.rules.specs.Setup.{setup_size, setup_in, fixed_by, setup_switches, bad_flags, setup_answer, ipv6_width, ipv4_width}
use Rattle.rules.specs.Lines.{most_held}
use Rattle.rules.specs.Telnet.{fresh_layer}
use Rattle.rules.specs.declared.Answer.{Answer}
use Rattle.rules.specs.declared.Setup.{Setup}
use Rattle.rules.specs.declared.Switches.{Switches}
use Rattle.rules.specs.declared.Fixed.{Fixed}
use Rattle.places.specs.declared.Place.{Place}
use Rattle.places.specs.declared.Direction.{Direction}
use Rattle.places.specs.Places.{at}
use Rattle.records.specs.declared.Control.{Control}
use Rattle.records.specs.declared.Counts.{Counts}
use Rattle.records.specs.declared.Session.{Session}
use Rattle.setups.specs.declared.Prepared.{Prepared}

-- an array of a line, all zero
abbrev pub no_octets : List ℕ
no_octets = replicate most_held 0

-- an array of kinds, all zero
abbrev pub no_kinds : List ℕ
no_kinds = replicate most_owed 0

-- a direction's counts, both zero
abbrev pub no_counts : Counts
no_counts = record { taken = 0; written = 0 }

-- a direction at the start: nothing is held
abbrev pub start_direction : Direction
start_direction = at Place.Holding 0

-- a control at the start: the switches, and how many replies are owed
abbrev pub start_control : Switches → ℕ → Control
start_control sw owed =
    record {
      switches = sw;
      client = start_direction;
      server = start_direction;
      owed = owed;
      opening = 0;
      up = fresh_layer;
      down = fresh_layer;
    }

-- a record at the start: what is given, and arrays and counts of zeros
abbrev pub start_session : Bool → Fixed → Control → Session
start_session live fixed c =
    record {
      live = live;
      fixed = fixed;
      control = c;
      command = no_octets;
      reply = no_octets;
      kinds = no_kinds;
      up = no_counts;
      down = no_counts;
    }

-- "A fresh session owes one: the greeting", which is plain, number 0
unfoldable pub fresh_session : Setup → Session
fresh_session su = start_session true (fixed_by su) (start_control (setup_switches su.flags) 1)

-- "With 5 the record is not live and otherwise all zero"
unfoldable pub dead_session : Session
dead_session =
    start_session false
    (record {
      client = replicate ipv6_width 0;
      mapped = replicate ipv4_width 0;
      server = replicate ipv4_width 0;
      supported = false;
      strict = false;
    })
    (start_control (record { epsv = false; eprt = false }) 0)

-- "Setup gives ..": the answer, and the record that it leaves
unfoldable pub prepared : Setup → Prepared
prepared su =
    record { answer = setup_answer su.flags; session = choose (bad_flags su.flags) dead_session (fresh_session su) }

-- what a setup that is refused answers, and leaves
abbrev pub refused_setup : Prepared
refused_setup = record { answer = Answer.BadSetup; session = dead_session }

-- a setup from octets; fewer or more than it has are refused
unfoldable pub prepared_from : List ℕ → Prepared
prepared_from octets = choose (eqb (length octets) setup_size) (prepared (setup_in octets)) refused_setup

-- this page's definitions, for a proof that computes with them
unfoldable pub setups-opened : Unit {0}
unfolding fresh_session dead_session prepared prepared_from
setups-opened = tt
