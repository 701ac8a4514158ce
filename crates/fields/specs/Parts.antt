-- The parts that the report is written by.
use Rattle.std.specs.Prelude.{Option, Some, None, List, ℕ, ◌-◌, leb}
use Rattle.rules.specs.Octets.{choose}
use Rattle.setups.specs.Setups.{dead_session}
use Rattle.fields.specs.Report.{Done}

-- the room that is left after n octets, where they fit
unfoldable pub room_after : ℕ → ℕ → Option ℕ
room_after room n = choose (leb n room) (Some (room - n)) None

-- what an entry did, by the parts that its line shows; its line does not show the record
unfoldable pub done_of : ℕ → ℕ → List ℕ → List ℕ → Done
done_of taken number to_server to_client =
    record { taken = taken; number = number; to_server = to_server; to_client = to_client; session = dead_session }
