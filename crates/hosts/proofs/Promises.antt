-- From the contracts of the functions that C calls to what demand 3 assumes of a gateway: a fresh memory, the promise of a call, and the offset.
use mathlib.Core.Path.{◌≡◌, refl, sym, ◌∙◌}
use mathlib.Core.Bool.{Bool, true, false}
use mathlib.Core.List.{List}
use Prim.Native.Nat.{ℕ, zero, suc, ◌≤◌, ◌<◌}
use native.Mathlib.Omega.{arith}
use lib.Dec.{leb}
use lib.ListN.{length}
use borrow.Author.Tests.{leb-true}
use Rattle.rules.specs.Octets.{choose, every}
use Rattle.rules.specs.Answers.{answer_number, side_of}
use Rattle.rules.specs.Setup.{setup_in}
use Rattle.rules.specs.Demand3.{Call, lent_server, lent_client}
use Rattle.rules.specs.declared.Answer.{Answer}
use Rattle.records.specs.Layout.{image_size}
use Rattle.output.specs.Buffer.{put_at}
use Rattle.records.specs.declared.Session.{Session}
use Rattle.setups.specs.declared.Prepared.{Prepared}
use Rattle.setups.specs.Setups.{prepared_from}
use Rattle.counts.specs.Counts.{offset}
use Rattle.history.specs.Gateway.{direction_number, returned_offset}
use Rattle.image.specs.Image.{image_of}
use Rattle.image.specs.Lent.{image_after, server_after, client_after}
use Rattle.fashlemor.specs.Host.{setup_number, counts_of, offset_after}
use Rattle.hosts.specs.Memory.{HostFresh, outcome_at, Does, HostPromise, told_by}

-- ---- a setup that is told 0 had room for the record

five : {A : Type 0} → ◌≡◌ {A = ℕ} 5 0 → A
five e = absurd (omega arith)

had-room : (memory : List ℕ) (p : Prepared) (b : Bool) → leb image_size (length memory) ≡ b → setup_number memory p ≡ 0
    → (image_size ≤ length memory) × (answer_number p.answer ≡ 0)
unfolding setup_number choose
had-room memory p true e h = (leb-true image_size (length memory) e, rw e at h)
had-room memory p false e h = five (rw e at h)

pub fresh-promised : (memory octets : List ℕ) {n : ℕ} {image : List ℕ} → n ≡ setup_number memory (prepared_from octets)
    → image ≡ put_at memory 0 (image_of (prepared_from octets).session) → every (λ n. leb n 255) octets ≡ true → n ≡ answer_number Answer.Done
    → HostFresh (setup_in octets) image
fresh-promised memory octets number put each done =
    let told = sym number ∙ done in
    let had = had-room memory (prepared_from octets) (leb image_size (length memory)) refl told in
    record { memory = memory; room = had.0; octets = octets; setup = refl; each = each; number = told; put = put }

-- ---- a call

-- its equations, as a function that C calls ensures them
pub call-promised : (image : List ℕ) (c : Call) {n : ℕ} {counts image' server client : List ℕ}
    → ((n ≡ answer_number (outcome_at image c).called.answer) × (counts ≡ counts_of (outcome_at image c).called))
    × ((image' ≡ image_after image (outcome_at image c).called)
    × ((server ≡ server_after (outcome_at image c) (lent_server c)) × (client ≡ client_after (outcome_at image c) (lent_client c))))
    → Does image c n image' server client counts
    × ((a : Answer) → answer_number a ≡ n → HostPromise image c (told_by image c a counts image' server client))
unfolding counts_of
call-promised image c ((number, told), (memory, (server, client))) = (
  record { number = number; memory = memory; server_buffer = server; client_buffer = client; told = told },
  λ a e. record {
    number = e ∙ number;
    taken = rw told;
    to_server = rw told;
    to_client = rw told;
    memory = memory;
    server_buffer = server;
    client_buffer = client;
    pieces = refl;
  },
)

-- ---- the offset

set_to : (s : Session) (d old : ℕ) → d < 2 → offset_after (offset s d) old ≡ returned_offset (offset s (direction_number (side_of d)))
unfolding offset offset_after
set_to s zero old h = refl
set_to s (suc zero) old h = refl
set_to s (suc (suc d)) old h = absurd (omega arith)

pub offset-promised : (s : Session) (d old : ℕ) {out : ℕ} → out ≡ offset_after (offset s d) old → d < 2
    → out ≡ returned_offset (offset s (direction_number (side_of d)))
offset-promised s d old e h = e ∙ set_to s d old h
