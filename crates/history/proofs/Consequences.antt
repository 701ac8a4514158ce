-- What follows from demand 3: the same history, the same client, more of the client's text, and a refused call.
use mathlib.Core.Path.{◌≡◌, refl, sym, ap, ◌∙◌, subst}
use mathlib.Core.Bool.{Bool, true, false, true≢false}
use mathlib.Core.List.{List, [], ◌∷◌, ◌++◌}
use Rattle.std.specs.Prelude.{Option, None, Some}
use Prim.Native.Nat.{ℕ, ◌-◌}
use lib.ListN.{length, take, drop}
use Rattle.rules.specs.Answers.{Side, client, side_of, fits, stop}
use Rattle.rules.specs.Setup.{setup_switches}
use Rattle.rules.specs.Edition.{document01}
use Rattle.rules.specs.History.{Item, text_of, has_ended}
use Rattle.rules.specs.ToServer.{to_server as read_server}
use Rattle.rules.specs.Items.{Piece}
use Rattle.rules.specs.Demand3.{
  Call,
  arrival,
  ending,
  Return,
  Calls,
  next,
  is_refusal,
  lent_server,
  lent_client,
  items_of,
  history_of,
  gone_to_server,
  gone_to_client,
  pieces_of,
  SameHistory,
  SameClient,
  OnlyAdds,
  LeftAlone,
  RefusalsLeaveAll,
  SameWithout,
  Answering,
  RefusedChangesNothing,
}
use Rattle.rules.proofs.Consequences.{any-same-client, any-same-history}
use Rattle.rules.specs.declared.Answer.{Answer}
use Rattle.records.specs.declared.Session.{Session}
use Rattle.rules.specs.declared.Fixed.{Fixed}
use Rattle.steps.specs.Steps.{State, Step, octet_step}
use Rattle.steps.specs.Takes.{Took, stop_of, takes}
use Rattle.session.specs.Calls.{state_of, Outcome, refused, outcome, arrived, end_step, end_outcome, end_called as session_ended}
use Rattle.steps.proofs.Stops.{stop-cases, unless-stopped}
use Rattle.readings.proofs.Readings.{reading-grows}
use Rattle.history.specs.Gateway.{octet_pieces, call_pieces, outcome_of, gateway}
use Rattle.history.proofs.Calls.{unless-refused, refused_end}
use Rattle.history.proofs.Fresh.{fresh-there, only-fresh, returns}
use Rattle.history.proofs.Demand3.{demand3}

-- the claim is not empty
pub answering : Answering gateway
answering = record { fresh = fresh-there; only_fresh = only-fresh; returns = returns }

pub same-history : SameHistory gateway
same-history = any-same-history gateway demand3

pub same-client : SameClient gateway
same-client = any-same-client gateway demand3

pub only-adds : OnlyAdds gateway
unfolding read_server
only-adds su l m more a b not_ended text =
    let p = (demand3 su a.first a.last l a.fresh a.calls).to_server in
    let q = (demand3 su b.first b.last m b.fresh b.calls).to_server in
    let g = reading-grows (document01 su) (setup_switches su.flags) (text_of client (history_of gateway l)) more (has_ended client (history_of gateway m)) in
    (g.0, q ∙ rw text (g.1 ∙ ap (λ (x : List ℕ). x ++ g.0) (sym (rw not_ended at p))))

-- ---- a refused call

abbrev refuses : Option Answer → Bool
refuses None = false
refuses (Some a) = is_refusal a

stop-refuses : (full fitting : Bool) → refuses (stop full fitting) ≡ false
stop-refuses full fitting = stop-cases (λ o. refuses o ≡ false) full fitting (λ _. refl) (λ _ _. refl) (λ _ _. refl)

not-refused : (full fitting : Bool) (a : Answer) → stop full fitting ≡ Some a → is_refusal a ≡ false
not-refused full fitting a e = ap refuses (sym e) ∙ stop-refuses full fitting

-- what stops an arrival between octets is no refusal
takes-answer : (f : Fixed) (d : Side) (s : State) (xs : List ℕ) (rs rc : ℕ) → is_refusal (takes f d s xs rs rc).answer ≡ false
unfolding takes stop_of
takes-answer f d s [] rs rc = refl
takes-answer f d s (x ∷ xs) rs rc =
    let t : Step = octet_step f d s x in
    let P : Took → Type 0 = λ r. is_refusal r.answer ≡ false in
    unless-stopped P (stop_of d s t rs rc) s _ (λ a e. not-refused _ (fits t.to_server t.to_client rs rc) a e)
    (λ e. takes-answer f d t.state xs (rs - length t.to_server) (rc - length t.to_client))

-- a call whose answer is a refusal does nothing
abbrev IfRefused : Session → Outcome → Type 0
IfRefused r o = is_refusal o.called.answer ≡ true → o ≡ refused o.called.answer r

end-answer : (r : Session) (d : Side) (t : Step) (b : Bool) → IfRefused r (end_outcome r d t b)
unfolding end_outcome outcome refused
end-answer r d t true e = absurd (true≢false (sym e))
end-answer r d t false e = absurd (true≢false (sym e))

refused-same : (r : Session) (a : Answer) → refused a r ≡ refused (refused a r).called.answer r
unfolding refused
refused-same r a = refl

if-refused : (r : Session) (c : Call) → IfRefused r (outcome_of r c)
unfolding outcome_of arrived session_ended outcome
if-refused r (arrival d xs s c) =
    unless-refused (IfRefused r) r d _ (λ a e h. refused-same r a)
    (λ e h. absurd (true≢false (sym h ∙ takes-answer r.fixed (side_of d) (state_of r) xs (length s) (length c))))
if-refused r (ending d s c) = unless-refused (IfRefused r) r d _ (λ a e h. refused-same r a) (λ e h. end-answer r (side_of d) _ _ h)

-- it adds nothing to the history, and has no pieces
no_items : (r : Session) (c : Call) (t : Return Session) → t.taken ≡ 0 → is_refusal t.answer ≡ true
    → (items_of gateway c t ≡ []) × (call_pieces r c t.answer t.taken ≡ [])
unfolding octet_pieces
no_items r (arrival d xs s b) t n e = (rw n, rw n)
no_items r (ending d s b) t n e = refused_end t.answer (side_of d) (end_step (side_of d) (state_of r)) e

pub refusals-leave-all : RefusalsLeaveAll gateway
unfolding refused
refusals-leave-all r c t p e =
    let o : Outcome = outcome_of r c in
    let same : o ≡ refused o.called.answer r = if-refused r c (rw p.answer at e) in
    let taken : t.taken ≡ 0 = p.taken ∙ ap (λ (x : Outcome). x.called.taken) same in
    record {
      taken = taken;
      to_server = p.to_server ∙ ap (λ (x : Outcome). x.called.written.server) same;
      to_client = p.to_client ∙ ap (λ (x : Outcome). x.called.written.client) same;
      session = p.session ∙ ap (λ (x : Outcome). x.called.session) same;
      server_buffer = p.server_buffer ∙ rw p.to_server (ap (λ (x : Outcome). x.to_server ++ drop x.called.written.server (lent_server c)) same);
      client_buffer = p.client_buffer ∙ rw p.to_client (ap (λ (x : Outcome). x.to_client ++ drop x.called.written.client (lent_client c)) same);
      pieces = p.pieces ∙ (no_items r c t taken e).1;
    }

pub refused-changes-nothing : RefusedChangesNothing gateway
refused-changes-nothing r z [] m c t (next p rest) e =
    let n : LeftAlone gateway r c t = refusals-leave-all r c t p e in
    record {
      calls = subst (λ (x : Session). Calls gateway x m z) n.session rest;
      history = ap (λ (is : List Item). is ++ history_of gateway m) (no_items r c t n.taken e).0;
      to_server = ap (λ (k : ℕ). take k t.server_buffer ++ gone_to_server gateway m) n.to_server;
      to_client = ap (λ (k : ℕ). take k t.client_buffer ++ gone_to_client gateway m) n.to_client;
      pieces = ap (λ (ps : List Piece). ps ++ pieces_of gateway m) n.pieces;
    }
refused-changes-nothing r z ((d, u) ∷ l) m c t (next p rest) e =
    let n : SameWithout gateway u.session z l m c t = refused-changes-nothing u.session z l m c t rest e in
    record {
      calls = next p n.calls;
      history = ap (λ (is : List Item). items_of gateway d u ++ is) n.history;
      to_server = ap (λ (w : List ℕ). take u.to_server u.server_buffer ++ w) n.to_server;
      to_client = ap (λ (w : List ℕ). take u.to_client u.client_buffer ++ w) n.to_client;
      pieces = ap (λ (ps : List Piece). u.pieces ++ ps) n.pieces;
    }
