-- A host in C as a gateway of demand 3: its memory is the record, and the functions of the crate fashlemor are the calls.
use Rattle.std.specs.Prelude.{◌≡◌, true, List, ℕ, ◌≤◌, leb, length, get_or}
use Rattle.rules.specs.Octets.{every}
use Rattle.rules.specs.Answers.{answer_number}
use Rattle.rules.specs.Setup.{setup_answer, setup_in, setup_size}
use Rattle.rules.specs.declared.Setup.{Setup}
use Rattle.rules.specs.Demand3.{Call, arrival, ending, Return, Gateway, lent_server, lent_client}
use Rattle.rules.specs.declared.Answer.{Answer}
use Rattle.records.specs.Layout.{image_size}
use Rattle.output.specs.Buffer.{put_at}
use Rattle.setups.specs.Setups.{prepared_from}
use Rattle.counts.specs.Counts.{offset as session_offset}
use Rattle.session.specs.Calls.{Outcome}
use Rattle.records.specs.Controls.{layer_in}
use Rattle.history.specs.Gateway.{direction_number, call_pieces, returned_offset}
use Rattle.image.specs.Image.{image_of, session_of}
use Rattle.image.specs.Lent.{arrived_on, ended_on, image_after, server_after, client_after}
use Rattle.fashlemor.specs.Host.{setup_number, counts_of}

-- "the record of a setup that answered 0": what `fashlemor_setup` left in memory that had room for a record
pub record HostFresh (su : Setup) (image : List ℕ) : Type 0 where
  pub memory : List ℕ
  pub room : image_size ≤ length memory
  pub octets : List ℕ
  pub setup : su ≡ setup_in octets
  pub each : every (λ n. leb n 255) octets ≡ true
  pub number : setup_number memory (prepared_from octets) ≡ answer_number Answer.Done
  pub put : image ≡ put_at memory 0 (image_of (prepared_from octets).session)

-- what `fashlemor_arrive` and `fashlemor_end` do
unfoldable pub outcome_at : List ℕ → Call → Outcome
outcome_at image (arrival d octets s c) = arrived_on image d octets s c
outcome_at image (ending d s c) = ended_on image d s c

-- all that they do: the number n, and memory, buffers and counts then
pub record Does (image : List ℕ) (c : Call) (n : ℕ) (image' server client counts' : List ℕ) : Type 0 where
  pub number : n ≡ answer_number (outcome_at image c).called.answer
  pub memory : image' ≡ image_after image (outcome_at image c).called
  pub server_buffer : server ≡ server_after (outcome_at image c) (lent_server c)
  pub client_buffer : client ≡ client_after (outcome_at image c) (lent_client c)
  pub told : counts' ≡ counts_of (outcome_at image c).called

-- what they promise: the number, the three counts, the memory, the two buffers, and the pieces of what was taken
pub record HostPromise (image : List ℕ) (c : Call) (t : Return (List ℕ)) : Type 0 where
  pub number : answer_number t.answer ≡ answer_number (outcome_at image c).called.answer
  pub taken : t.taken ≡ (outcome_at image c).called.taken
  pub to_server : t.to_server ≡ (outcome_at image c).called.written.server
  pub to_client : t.to_client ≡ (outcome_at image c).called.written.client
  pub memory : t.session ≡ image_after image (outcome_at image c).called
  pub server_buffer : t.server_buffer ≡ server_after (outcome_at image c) (lent_server c)
  pub client_buffer : t.client_buffer ≡ client_after (outcome_at image c) (lent_client c)
  pub pieces : t.pieces ≡ call_pieces (session_of image) c t.answer t.taken

-- what a call on a memory told a host: the answer whose number it returned, the three counts, the memory then and the two buffers
abbrev pub told_by : List ℕ → Call → Answer → List ℕ → List ℕ → List ℕ → List ℕ → Return (List ℕ)
told_by before c a counts image server_buffer client_buffer =
    record {
      answer = a;
      taken = get_or counts 0 0;
      to_server = get_or counts 1 0;
      to_client = get_or counts 2 0;
      session = image;
      server_buffer = server_buffer;
      client_buffer = client_buffer;
      pieces = call_pieces (session_of before) c a (get_or counts 0 0);
    }

-- with the offset that `fashlemor_offset` sets, and the counts of octets removed that the memory has
abbrev pub host : Gateway
host =
    record {
      Session = List ℕ;
      Fresh = HostFresh;
      Promise = HostPromise;
      offset = λ image side. returned_offset (session_offset (session_of image) (direction_number side));
      removed = λ image side. (layer_in side (session_of image).control).removed;
    }

-- what keeps demand 3 of a host from being empty: octets of a setup that answers 0 have a memory, only such a setup's is fresh, and
-- every call returns
pub record HostAnswering : Type 0 where
  pub fresh : (octets : List ℕ) → length octets ≡ setup_size → every (λ n. leb n 255) octets ≡ true
      → setup_answer (setup_in octets).flags ≡ Answer.Done → (image : List ℕ) × HostFresh (setup_in octets) image
  pub only_fresh : (su : Setup) (image : List ℕ) → HostFresh su image → setup_answer su.flags ≡ Answer.Done
  pub returns : (image : List ℕ) (c : Call) → (t : Return (List ℕ)) × HostPromise image c t
