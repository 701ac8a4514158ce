-- The record as octets: its fields in their order, each where the one before it ends. docs/RECORD.md tells what they hold.
use Rattle.std.specs.Prelude.{ℕ, ◌+◌, ◌-◌}
use Rattle.rules.specs.Lines.{most_held}
use Rattle.rules.specs.Answers.{most_owed}
use Rattle.rules.specs.Setup.{ipv6_width, ipv4_width}

-- ---- how wide a field is

-- a mark: yes or no, a place, or a Telnet state
abbrev pub mark_width : ℕ
mark_width = 1

-- a number of 32 bits
abbrev pub number_width : ℕ
number_width = 4

-- ---- where it begins: three marks that stay from the setup on

abbrev pub live_at : ℕ
live_at = 0

abbrev pub supported_at : ℕ
supported_at = live_at + mark_width

abbrev pub strict_at : ℕ
strict_at = supported_at + mark_width

-- ---- the marks that calls can change

abbrev pub epsv_at : ℕ
epsv_at = strict_at + mark_width

abbrev pub eprt_at : ℕ
eprt_at = epsv_at + mark_width

abbrev pub client_place_at : ℕ
client_place_at = eprt_at + mark_width

abbrev pub server_place_at : ℕ
server_place_at = client_place_at + mark_width

abbrev pub client_telnet_at : ℕ
client_telnet_at = server_place_at + mark_width

abbrev pub server_telnet_at : ℕ
server_telnet_at = client_telnet_at + mark_width

-- ---- the numbers

abbrev pub opening_at : ℕ
opening_at = server_telnet_at + mark_width

abbrev pub owed_at : ℕ
owed_at = opening_at + number_width

abbrev pub client_held_at : ℕ
client_held_at = owed_at + number_width

abbrev pub server_held_at : ℕ
server_held_at = client_held_at + number_width

abbrev pub up_taken_at : ℕ
up_taken_at = server_held_at + number_width

abbrev pub up_written_at : ℕ
up_written_at = up_taken_at + number_width

abbrev pub down_taken_at : ℕ
down_taken_at = up_written_at + number_width

abbrev pub down_written_at : ℕ
down_written_at = down_taken_at + number_width

abbrev pub up_removed_at : ℕ
up_removed_at = down_written_at + number_width

abbrev pub down_removed_at : ℕ
down_removed_at = up_removed_at + number_width

-- ---- the arrays

abbrev pub client_at : ℕ
client_at = down_removed_at + number_width

abbrev pub mapped_at : ℕ
mapped_at = client_at + ipv6_width

abbrev pub server_at : ℕ
server_at = mapped_at + ipv4_width

abbrev pub kinds_at : ℕ
kinds_at = server_at + ipv4_width

abbrev pub command_at : ℕ
command_at = kinds_at + most_owed

abbrev pub reply_at : ℕ
reply_at = command_at + most_held

abbrev pub image_size : ℕ
image_size = reply_at + most_held

-- ---- parts of several fields

-- the marks that say yes or no, those that are places, those that are Telnet states, and all of them
abbrev pub bits_size : ℕ
bits_size = client_place_at - live_at

abbrev pub places_size : ℕ
places_size = client_telnet_at - client_place_at

abbrev pub telnets_size : ℕ
telnets_size = opening_at - client_telnet_at

abbrev pub marks_size : ℕ
marks_size = opening_at - live_at

abbrev pub numbers_size : ℕ
numbers_size = client_at - opening_at

-- the two lines
abbrev pub lines_size : ℕ
lines_size = image_size - command_at

-- ---- the arrays by themselves, as an arrival is lent them, and where each begins there

abbrev pub lent_mapped : ℕ
lent_mapped = mapped_at - client_at

abbrev pub lent_server_address : ℕ
lent_server_address = server_at - client_at

abbrev pub lent_kinds : ℕ
lent_kinds = kinds_at - client_at

abbrev pub lent_command : ℕ
lent_command = command_at - client_at

abbrev pub lent_reply : ℕ
lent_reply = reply_at - client_at

abbrev pub lent_size : ℕ
lent_size = image_size - client_at
