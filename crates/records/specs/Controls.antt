-- A control with the parts that one side's octets or its end change.
use Rattle.std.specs.Prelude.{ℕ, Bool, true, false, List}
use Rattle.rules.specs.Answers.{Side, client, server}
use Rattle.rules.specs.Telnet.{unfinished_in, cleared}
use Rattle.rules.specs.declared.Switches.{Switches}
use Rattle.rules.specs.declared.Layer.{Layer}
use Rattle.rules.specs.declared.Telnet.{Telnet}
use Rattle.places.specs.declared.Place.{Place}
use Rattle.places.specs.declared.Direction.{Direction}
use Rattle.places.specs.Places.{at, is_in_lines}
use Rattle.records.specs.declared.Control.{Control}
use Rattle.records.specs.Sound.{direction_of}

-- what the client's octets change: the switches, its direction and how many replies are owed
abbrev pub with_client : Control → Switches → Direction → ℕ → Control
with_client c sw d n =
    record { switches = sw; client = d; server = c.server; owed = n; opening = c.opening; up = c.up; down = c.down }

-- what the server's octets change: its direction, how many replies are owed, and the code that opened one
abbrev pub with_server : Control → Direction → ℕ → ℕ → Control
with_server c d n opening =
    record { switches = c.switches; client = c.client; server = d; owed = n; opening = opening; up = c.up; down = c.down }

-- the Telnet layer of a side
abbrev pub layer_in : Side → Control → Layer
layer_in client c = c.up
layer_in server c = c.down

-- a Telnet state where octets are read as lines; where they are not, no command is unfinished
abbrev pub where_read : Bool → Telnet → Telnet
where_read true t = t
where_read false t = Telnet.Clear

-- the Telnet state of a side, as far as it is read
abbrev pub telnet_read : Side → Control → Telnet
telnet_read d c = where_read (is_in_lines (direction_of d c).place) (layer_in d c).telnet

-- what has come of a Telnet command of a side that is not finished
abbrev pub unfinished_of : Side → Control → List ℕ
unfinished_of d c = unfinished_in (is_in_lines (direction_of d c).place) (layer_in d c).telnet

-- a control with these two layers
abbrev pub with_layers : Control → Layer → Layer → Control
with_layers c up down =
    record { switches = c.switches; client = c.client; server = c.server; owed = c.owed; opening = c.opening; up = up; down = down }

-- what a Telnet octet of a side changes: its layer
abbrev pub with_layer : Side → Control → Layer → Control
with_layer client c l = with_layers c l c.down
with_layer server c l = with_layers c c.up l

-- a direction that has ended, of which nothing is held
abbrev pub ended_direction : Direction
ended_direction = at Place.Ended 0

-- what the end of a side changes: its direction, and nothing is left of a Telnet command
abbrev pub with_ended : Side → Control → Control
with_ended client c = with_client (with_layer client c (cleared c.up)) c.switches ended_direction c.owed
with_ended server c = with_server (with_layer server c (cleared c.down)) ended_direction c.owed c.opening
