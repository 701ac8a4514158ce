-- Demand 3 for a host in C: its calls are calls of the session on the record that its memory holds.
use mathlib.Core.Path.{◌≡◌, refl, ap, sym, ◌∙◌}
use mathlib.Core.List.{List, [], ◌∷◌}
use mathlib.Core.Bool.{true}
use Prim.Native.Nat.{ℕ, ◌≤◌}
use native.Mathlib.Omega.{arith}
use lib.Dec.{leb}
use lib.ListN.{length, replicate, length-replicate}
use Rattle.rules.specs.Answers.{answer_number}
use Rattle.rules.specs.Octets.{every}
use Rattle.rules.specs.Setup.{setup_size, setup_in, setup_answer}
use Rattle.rules.specs.declared.Setup.{Setup}
use Rattle.rules.specs.Demand3.{Call, arrival, ending, Return, Made, Calls, no_calls, next, lent_server, lent_client, items_of, history_of, gone_to_server, gone_to_client, pieces_of, Demand3}
use Rattle.rules.specs.Items.{all_to_server, all_to_client}
use Rattle.rules.specs.declared.Answer.{Answer}
use Rattle.records.specs.Layout.{image_size}
use Rattle.records.specs.declared.Session.{Session}
use Rattle.setups.specs.declared.Prepared.{Prepared}
use Rattle.setups.specs.Setups.{prepared, prepared_from, fresh_session}
use Rattle.session.specs.Calls.{Outcome}
use Rattle.answers.specs.Table.{Situation as TableCall, Result, of_arrival as arrival_result, of_end as ending_result}
use Rattle.answers.proofs.Rows.{same_number}
use Rattle.answers.proofs.Table.{setup-zero}
use Rattle.history.specs.Gateway.{Fresh as SessionFresh, Promise as SessionPromise, outcome_of, call_pieces, gateway}
use Rattle.history.proofs.Demand3.{demand3}
use Rattle.output.specs.Buffer.{put_at}
use Rattle.image.specs.Image.{image_of, session_of}
use Rattle.image.specs.Lent.{arrived_on, ended_on, image_after, server_after, client_after}
use Rattle.setups.proofs.Octets.{of_size}
use Rattle.fashlemor.specs.Carried.{Holds}
use Rattle.fashlemor.proofs.Calls.{room}
use Rattle.fashlemor.proofs.Carrying.{good-flags, done-size, begun, carried}
use Rattle.hosts.specs.Memory.{HostFresh, outcome_at, HostPromise, host, HostAnswering}

-- ---- one call

-- the call as the table of answers has it
table_call : Session → Call → TableCall
table_call s (arrival d octets out back) = record { session = s; direction = d; server_room = length out; client_room = length back }
table_call s (ending d out back) = record { session = s; direction = d; server_room = length out; client_room = length back }

table-session : (s : Session) (c : Call) → (table_call s c).session ≡ s
unfolding table_call
table-session s (arrival d octets out back) = refl
table-session s (ending d out back) = refl

result : (s : Session) (c : Call) → Result (table_call s c) (outcome_of s c)
unfolding table_call outcome_of
result s (arrival d octets out back) = arrival_result octets
result s (ending d out back) = ending_result

outcome-at : (image : List ℕ) (c : Call) → outcome_at image c ≡ outcome_of (session_of image) c
unfolding outcome_at arrived_on ended_on outcome_of
outcome-at image (arrival d octets out back) = refl
outcome-at image (ending d out back) = refl

-- what the host was told, with the session's record in place of the memory
abbrev told : Return (List ℕ) → Session → Return Session
told t s =
    record {
      answer = t.answer;
      taken = t.taken;
      to_server = t.to_server;
      to_client = t.to_client;
      session = s;
      server_buffer = t.server_buffer;
      client_buffer = t.client_buffer;
      pieces = t.pieces;
    }

module _ (image : List ℕ) (s : Session) (h : Holds image s) (c : Call) (t : Return (List ℕ)) (p : HostPromise image c t) where
  here : outcome_at image c ≡ outcome_of s c
  here = outcome-at image c ∙ ap (λ (r : Session). outcome_of r c) h.read

  promised : SessionPromise s c (told t (outcome_of s c).called.session)
  unfolding server_after client_after
  promised =
      record {
        answer = same_number _ _ p.number ∙ ap (λ (o : Outcome). o.called.answer) here;
        taken = p.taken ∙ ap (λ (o : Outcome). o.called.taken) here;
        to_server = p.to_server ∙ ap (λ (o : Outcome). o.called.written.server) here;
        to_client = p.to_client ∙ ap (λ (o : Outcome). o.called.written.client) here;
        session = refl;
        server_buffer = p.server_buffer ∙ rw (p.to_server, here);
        client_buffer = p.client_buffer ∙ rw (p.to_client, here);
        pieces = p.pieces ∙ ap (λ (r : Session). call_pieces r c t.answer t.taken) h.read;
      }

  holds_then : Holds t.session (outcome_of s c).called.session
  holds_then =
      let held = carried image (table_call s c) (outcome_of s c) (rw (table-session s c) h) (result s c) in
      rw (p.memory, here) held

-- ---- lists of calls

items : (c : Call) (t : Return (List ℕ)) (s : Session) → items_of gateway c (told t s) ≡ items_of host c t
items (arrival d octets out back) t s = refl
items (ending d out back) t s = refl

-- calls of the session that do what a host's calls did
record Run (s : Session) (l : List (Made host)) (z : List ℕ) : Type 0 where
  made : List (Made gateway)
  last : Session
  calls : Calls gateway s made last
  holds : Holds z last
  history : history_of gateway made ≡ history_of host l
  to_server : gone_to_server gateway made ≡ gone_to_server host l
  to_client : gone_to_client gateway made ≡ gone_to_client host l
  pieces : pieces_of gateway made ≡ pieces_of host l

run : {image z : List ℕ} {l : List (Made host)} (s : Session) → Holds image s → Calls host image l z → Run s l z
run s h no_calls = record { made = []; last = s; calls = no_calls; holds = h; history = refl; to_server = refl; to_client = refl; pieces = refl }
run {image} {z} s h (next {c = c} {t = t} {l = l} p rest) =
    let then = (outcome_of s c).called.session in
    let r = run then (holds_then image s h c t p) rest in
    record {
      made = (c, told t then) ∷ r.made;
      last = r.last;
      calls = next (promised image s h c t p) r.calls;
      holds = r.holds;
      history = rw (items c t then, r.history);
      to_server = rw r.to_server;
      to_client = rw r.to_client;
      pieces = rw r.pieces;
    }

-- ---- demand 3

module _ (su : Setup) (image : List ℕ) (f : HostFresh su image) where
  done : (prepared_from f.octets).answer ≡ Answer.Done
  done = same_number _ _ (room f.memory (prepared_from f.octets) f.room refl ∙ f.number)

  made-fresh : prepared su ≡ record { answer = Answer.Done; session = fresh_session su }
  made-fresh =
      let from = of_size f.octets (done-size f.octets done) ∙ ap prepared (sym f.setup) in
      setup-zero su (good-flags su (rw from at done))

  session-fresh : SessionFresh su (fresh_session su)
  session-fresh =
      record {
        answer = ap (λ (p : Prepared). p.answer) made-fresh;
        session = sym (ap (λ (p : Prepared). p.session) made-fresh);
      }

  first-held : Holds image (fresh_session su)
  first-held =
      rw (f.put, f.setup) (begun f.memory f.octets f.room f.each done)

-- what the functions that C calls have sent is the reading of the setup and the history
pub host-demand3 : Demand3 host
host-demand3 su image z l fresh calls =
    let r = run (fresh_session su) (first-held su image fresh) calls in
    let k = demand3 su _ r.last r.made (session-fresh su image fresh) r.calls in
    record {
      joined_to_server = ap all_to_server (sym r.pieces) ∙ (k.joined_to_server ∙ r.to_server);
      joined_to_client = ap all_to_client (sym r.pieces) ∙ (k.joined_to_client ∙ r.to_client);
      pieces = sym r.pieces ∙ (k.pieces ∙ rw r.history);
      to_server = rw (r.history, r.pieces) at k.to_server;
      to_client = sym r.to_client ∙ (k.to_client ∙ rw r.history);
      client_offset = rw r.holds.read (k.client_offset ∙ rw (r.to_server, r.history));
      server_offset = rw r.holds.read (k.server_offset ∙ rw (r.to_client, r.history));
      client_removed = rw r.holds.read (k.client_removed ∙ rw r.history);
      server_removed = rw r.holds.read (k.server_removed ∙ rw r.history);
    }

-- ---- the claim is not empty

-- a setup of octets enough answers as its flags do
setup-answer : (octets : List ℕ) → length octets ≡ setup_size → (prepared_from octets).answer ≡ setup_answer (setup_in octets).flags
unfolding prepared
setup-answer octets size = ap (λ (p : Prepared). p.answer) (of_size octets size)

there : (octets : List ℕ) → length octets ≡ setup_size → every (λ n. leb n 255) octets ≡ true
    → setup_answer (setup_in octets).flags ≡ Answer.Done → (image : List ℕ) × HostFresh (setup_in octets) image
there octets size each zero-told =
    let p = prepared_from octets in
    let blank : List ℕ = replicate image_size 0 in
    let long-blank : length blank ≡ image_size = length-replicate {A = ℕ} image_size 0 in
    let long : image_size ≤ length blank = omega arith in (
      put_at blank 0 (image_of p.session),
      record {
        memory = blank;
        room = long;
        octets = octets;
        setup = refl;
        each = each;
        number = sym (room blank p long (sym (ap answer_number (setup-answer octets size ∙ zero-told))));
        put = refl;
      },
    )

only : (su : Setup) (image : List ℕ) → HostFresh su image → setup_answer su.flags ≡ Answer.Done
only su image f = rw f.setup (sym (setup-answer f.octets (done-size f.octets (done su image f))) ∙ done su image f)

call_returns : (image : List ℕ) (c : Call) → (t : Return (List ℕ)) × HostPromise image c t
call_returns image c =
    let o = outcome_at image c in (
      record {
        answer = o.called.answer;
        taken = o.called.taken;
        to_server = o.called.written.server;
        to_client = o.called.written.client;
        session = image_after image o.called;
        server_buffer = server_after o (lent_server c);
        client_buffer = client_after o (lent_client c);
        pieces = call_pieces (session_of image) c o.called.answer o.called.taken;
      },
      record {
        number = refl;
        taken = refl;
        to_server = refl;
        to_client = refl;
        memory = refl;
        server_buffer = refl;
        client_buffer = refl;
        pieces = refl;
      },
    )

pub host-answering : HostAnswering
host-answering = record { fresh = there; only_fresh = only; returns = call_returns }
