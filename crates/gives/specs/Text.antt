-- What an octet gives, as a text.
use Rattle.std.specs.Prelude.{List, [], ◌∷◌, ◌++◌, ℕ, ◌-◌, ◌^◌}
use Rattle.rules.specs.Lines.{passed}
use Rattle.rules.specs.Commands.{pasv_line, port_line}
use Rattle.rules.specs.declared.Fixed.{Fixed}
use Rattle.rules.specs.Replies.{extended_passive_line, cannot_open_line}
use Rattle.gives.specs.declared.Gives.{Gives}

-- the octets that are given: h are the held ones, x the octet
unfoldable pub gives_text : Fixed → List ℕ → ℕ → Gives → List ℕ
gives_text f h x Gives.Held = []
gives_text f h x Gives.Nothing = []
gives_text f h x Gives.Octet = x ∷ []
gives_text f h x Gives.LineOctet = passed (x ∷ [])
gives_text f h x Gives.HeldAndOctet = passed h ++ passed (x ∷ [])
gives_text f h x Gives.Pasv = pasv_line
gives_text f h x (Gives.Port p) = port_line f.mapped p
gives_text f h x (Gives.ExtendedPassive p) = extended_passive_line p
gives_text f h x Gives.CannotOpen = cannot_open_line

-- the most octets that are counted: no buffer is as long
abbrev pub most_counted : ℕ
most_counted = 2 ^ 64 - 1

-- this page's definitions, for a proof that computes with them
unfoldable pub gives-opened : Unit {0}
unfolding gives_text
gives-opened = tt
