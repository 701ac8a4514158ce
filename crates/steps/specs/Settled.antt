-- A state in which nothing is left to settle: settling it once more would change nothing and write nothing.
use Rattle.std.specs.Prelude.{◌≡◌, true, false, ℕ}
use Rattle.rules.specs.Replies.{auth_at_head}
use Rattle.rules.specs.declared.Telnet.{Telnet}
use Rattle.places.specs.declared.Place.{Place}
use Rattle.queue.specs.Kinds.{queue_of, answers_at_head}
use Rattle.records.specs.Sound.{blocked}
use Rattle.steps.specs.Steps.{State}

-- the server's octets pass at once, or it has ended, none is held, and no Telnet command is unfinished
pub data Through : Place → ℕ → Telnet → Type 0 where
  through_passing : Through Place.Passing 0 Telnet.Clear
  through_ended : Through Place.Ended 0 Telnet.Clear

-- no own answer waits at the head of the queue unless something blocks it, and AUTH is first only where the server is through
pub record Settled (s : State) : Type 0 where
  pub answers : blocked s.control ≡ false → answers_at_head (queue_of s.kinds s.control.owed) ≡ 0
  pub auth : auth_at_head (queue_of s.kinds s.control.owed) ≡ true
      → Through s.control.server.place s.control.server.held s.control.down.telnet
