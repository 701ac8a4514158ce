-- What a client octet does on its own side: what it gives, where the direction stands then, and what is owed.
use Rattle.std.specs.Prelude.{Option, None, Some}
use Rattle.std.specs.Prelude.{Bool, true, false, List, ℕ, ◌+◌, eqb, ltb, take}
use Rattle.rules.specs.Octets.{lf, choose}
use Rattle.rules.specs.Lines.{judged, starts_auth}
use Rattle.rules.specs.Commands.{command, command_owes, command_switches}
use Rattle.rules.specs.Replies.{is_auth}
use Rattle.rules.specs.declared.Switches.{Switches}
use Rattle.rules.specs.declared.Fixed.{Fixed}
use Rattle.rules.specs.declared.Kind.{Kind}
use Rattle.rules.specs.declared.Command.{Command}
use Rattle.places.specs.declared.Place.{Place}
use Rattle.places.specs.declared.Direction.{Direction}
use Rattle.gives.specs.declared.Gives.{Gives}
use Rattle.upstream.specs.declared.ClientEffect.{ClientEffect}
use Rattle.places.specs.Places.{at}

-- the effect of a client octet, by its parts
abbrev pub client_effect_of : Gives → Direction → Switches → Option Kind → ClientEffect
client_effect_of g d sw o = record { gives = g; direction = d; switches = sw; owes = o }

-- a line judged whole, at its LF
unfoldable pub command_effect : Command → Gives
command_effect Command.Passes = Gives.HeldAndOctet
command_effect Command.Passive = Gives.Pasv
command_effect (Command.Port p) = Gives.Port p
command_effect (Command.Answered a) = Gives.Nothing
command_effect Command.Auth = Gives.HeldAndOctet

-- what a command gives and owes, and the switches then; AUTH lets all pass from now on
unfoldable pub judged_effect : Switches → Command → ClientEffect
judged_effect sw k =
    client_effect_of (command_effect k) (at (choose (is_auth (command_owes k)) Place.Passing Place.Holding) 0) (command_switches sw k)
    (Some (command_owes k))

-- another octet of a held line: it is held, or lets the line go, which may be AUTH
unfoldable pub join_effect : Switches → ℕ → List ℕ → ClientEffect
join_effect sw held h =
    choose (ltb (held + 1) judged) (client_effect_of Gives.Held (at Place.Holding (held + 1)) sw None)
    (choose (starts_auth h) (client_effect_of Gives.HeldAndOctet (at Place.Passing 0) sw (Some Kind.Auth))
    (client_effect_of Gives.HeldAndOctet (at Place.Flowing 0) sw None))

-- by the place of the direction, and whether the octet is LF
unfoldable pub place_effect : Fixed → Switches → Place → ℕ → List ℕ → Bool → ClientEffect
place_effect f sw Place.Holding held h true = judged_effect sw (command f sw h)
place_effect f sw Place.Holding held h false = join_effect sw held h
place_effect f sw Place.Flowing held h true = client_effect_of Gives.LineOctet (at Place.Holding 0) sw (Some Kind.Plain)
place_effect f sw Place.Flowing held h false = client_effect_of Gives.LineOctet (at Place.Flowing 0) sw None
place_effect f sw Place.Passing held h b = client_effect_of Gives.Octet (at Place.Passing 0) sw None
place_effect f sw Place.Ended held h b = client_effect_of Gives.Nothing (at Place.Ended 0) sw None

-- line is the array that holds the client's octets
unfoldable pub client_effect : Fixed → Switches → Direction → List ℕ → ℕ → ClientEffect
client_effect f sw d line x =
    place_effect f sw d.place d.held (take d.held line) (eqb x lf)

-- this page's definitions, for a proof that computes with them
unfoldable pub upstream-opened : Unit {0}
unfolding command_effect judged_effect join_effect place_effect client_effect
upstream-opened = tt
