-- "The session": how much one octet writes, and that a call goes on where there is room.
use Rattle.std.specs.Prelude.{◌≡◌, true, false, List, ◌≢◌, ℕ, ◌^◌, ◌≤◌, ◌<◌, leb, length}
use Rattle.rules.specs.Octets.{every}
use Rattle.rules.specs.Answers.{Side, most_owed, most_to_server, most_to_client, is_queue_full}
use Rattle.rules.specs.Lines.{most_held}
use Rattle.rules.specs.Demand3.{is_refusal}
use Rattle.rules.specs.declared.Answer.{Answer}
use Rattle.rules.specs.Setup.{ipv4_width}
use Rattle.records.specs.declared.Session.{Session}
use Rattle.steps.specs.Steps.{Step, octet_step}
use Rattle.records.specs.Sound.{sound}
use Rattle.places.specs.Places.{is_passing}
use Rattle.session.specs.Calls.{state_of}

-- what the types of a record's arrays, of its opening code and of its counts of removed octets say of it
pub record Shaped (s : Session) : Type 0 where
  pub mapped : length s.fixed.mapped ≡ ipv4_width
  pub octets : every (λ n. leb n 255) s.fixed.mapped ≡ true
  pub command : length s.command ≡ most_held
  pub reply : length s.reply ≡ most_held
  pub kinds : length s.kinds ≡ most_owed
  pub opening : s.control.opening < 2 ^ 32
  pub removed_up : s.control.up.removed < 2 ^ 32
  pub removed_down : s.control.down.removed < 2 ^ 32

-- "One octet writes at most .. octets to the server and at most .. to the client"
pub record WritesAtMost (t : Step) : Type 0 where
  pub to_server : length t.to_server ≤ most_to_server
  pub to_client : length t.to_client ≤ most_to_client

-- so does an octet of either side, of a record that number 4 does not refuse and before which number 1 is not given
abbrev pub OctetBound : Type 0
OctetBound =
    (s : Session) (d : Side) (x : ℕ) → Shaped s → sound s ≡ true
    → is_queue_full d (is_passing s.control.client.place) s.control.owed ≡ false
    → WritesAtMost (octet_step s.fixed d (state_of s) x)

-- "So a non-empty arrival not refused by 3, 4, 6 or stopped by 1 takes at least one octet when each buffer has .. free":
-- the octets that arrive, the room in each buffer, the answer, and how many octets are taken
abbrev pub Progress : List ℕ → ℕ → ℕ → Answer → ℕ → Type 0
Progress octets server_room client_room answer taken =
    1 ≤ length octets → is_refusal answer ≡ false → answer ≢ Answer.QueueFull
    → most_to_client ≤ server_room → most_to_client ≤ client_room → 1 ≤ taken
