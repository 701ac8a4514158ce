-- What a call counts for each direction, and a direction's offset.
use Rattle.std.specs.Prelude.{Option, None, Some}
use Rattle.std.specs.Prelude.{ℕ, zero, suc, ◌+◌}
use Rattle.rules.specs.Answers.{Side, client, server, wrapped, offset_of}
use Rattle.records.specs.declared.Counts.{Counts}
use Rattle.records.specs.declared.Session.{Session}
use Rattle.steps.specs.declared.Written.{Written}

-- "Each direction counts octets taken and written in 32 bits that wrap"
abbrev pub counted : Counts → ℕ → ℕ → Counts
counted c taken written = record { taken = wrapped (c.taken + taken); written = wrapped (c.written + written) }

-- octets taken count for the direction that they came from
abbrev pub taken_for : Side → Side → ℕ → ℕ
taken_for client client n = n
taken_for client server n = 0
taken_for server client n = 0
taken_for server server n = n

-- n octets written for a side: the client's go to the server
abbrev pub written_from : Side → ℕ → Written
written_from client n = record { server = n; client = 0 }
written_from server n = record { server = 0; client = n }

-- "Its offset is written minus taken, modulo 2^32"
unfoldable pub offset : Session → ℕ → Option ℕ
offset s zero = Some (offset_of s.up.written s.up.taken)
offset s (suc zero) = Some (offset_of s.down.written s.down.taken)
offset s (suc (suc d)) = None

-- this page's definitions, for a proof that computes with them
unfoldable pub counts-opened : Unit {0}
unfolding offset
counts-opened = tt
