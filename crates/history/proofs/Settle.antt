-- The server's side of the record and of the reading; after each octet the own answers and the AUTH step, on both.
use mathlib.Core.Path.{◌≡◌, refl, sym, ap, ◌∙◌}
use mathlib.Core.Bool.{Bool, true, false, ◌||◌}
use mathlib.Core.List.{List, [], ◌++◌, append-nil, append_assoc}
use Prim.Native.Nat.{ℕ, ◌-◌}
use lib.ListN.{drop}
use lib.Seq.{drop-drop}
use Rattle.rules.specs.Octets.{choose}
use Rattle.rules.specs.Replies.{is_open, head_answers, without_answers, auth_at_head}
use Rattle.rules.specs.ToClient.{
  ServerState,
  ServerStep,
  server_step_to,
  flows_or_ended as read_flows_or_ended,
  let_go,
  own_answers,
  auth_step,
}
use Rattle.rules.specs.Telnet.{cleared}
use Rattle.rules.specs.Items.{layer_then}
use Rattle.rules.specs.Answers.{server}
use Rattle.rules.specs.declared.Layer.{Layer}
use Rattle.rules.specs.declared.Kind.{Kind}
use Rattle.places.specs.declared.Direction.{Direction}
use Rattle.queue.specs.Kinds.{queue_of, answers_at_head, shifted}
use Rattle.records.specs.Sound.{blocked}
use Rattle.steps.specs.Steps.{State, owed_from, leaving, answers_text, is_auth_next, let_go_of, settled_control, settled_state, settled_text}
use Rattle.history.proofs.Queue.{Queue, queue-leave, answers-drop}
use Rattle.history.proofs.Places.{Stands, FirstFour, Full, let-go, flows-or-ended, passes_on}

-- direction, count of kinds, opening code, layer and arrays of the record's server side, and the reading's server with its layer
pub record ServerAlike (d : Direction) (owed code : ℕ) (down : Layer) (reply kinds : List ℕ) (v : ServerState) (w : Layer) : Type 0 where
  pub place : Stands FirstFour d.place d.held reply v.place
  pub full : Full reply
  pub queue : Queue kinds owed v.owed
  pub opening : code ≡ v.opening
  pub layer : down ≡ w

-- of a state
abbrev pub ServerOf : State → ServerState → Layer → Type 0
ServerOf s v w = let c = s.control in ServerAlike c.server c.owed c.opening c.down s.reply s.kinds v w

-- the record's side of an octet that removes n kinds and gives `given` to the client, settled as the reading's step t, from the
-- server's layer w
pub record Settled (s : State) (n : ℕ) (given : List ℕ) (w : Layer) (t : ServerStep) : Type 0 where
  pub gives : given ++ settled_text s n ≡ t.gives
  pub server : ServerOf (settled_state s n) t.state (layer_then t w)

-- what stands in the queue after the kinds that leave, and what is written for them
record Left (s : State) (n : ℕ) (ks : List Kind) (text : List ℕ) : Type 0 where
  owed : owed_from s (leaving s n) ≡ ks
  answers : answers_text s n ≡ text

left : (s : State) (n : ℕ) (ks₀ ks : List Kind) → Queue s.kinds s.control.owed ks₀ → drop n ks₀ ≡ ks
    → (b : Bool) → blocked s.control ≡ b → Left s n (choose b ks (without_answers ks)) (choose b [] (head_answers ks))
unfolding leaving answers_text choose
left s n ks₀ ks q e true p =
    let now : owed_from s n ≡ ks = ap (λ (l : List Kind). drop n l) q.same ∙ e in
    record { owed = rw p now; answers = rw p }
left s n ks₀ ks q e false p =
    let now : owed_from s n ≡ ks = ap (λ (l : List Kind). drop n l) q.same ∙ e in
    record {
      owed = rw (p, now) (sym (drop-drop (answers_at_head ks) n (queue_of s.kinds s.control.owed)) ∙ rw now (answers-drop ks));
      answers = rw (p, now);
    }

module _ (s : State) (n : ℕ) (given : List ℕ) (v : ServerState) (w : Layer) (a : ServerOf s v w) where
  left-queue : (ks : List Kind) (text : List ℕ) → Left s n ks text → Queue (shifted s.kinds (leaving s n) s.control.owed) (s.control.owed - leaving s n) ks
  left-queue ks text l =
      let now : drop (leaving s n) v.owed ≡ ks = ap (λ (k : List Kind). drop (leaving s n) k) (sym a.queue.same) ∙ l.owed in
      rw now at (queue-leave a.queue (leaving s n))

  auth-settled : (ks : List Kind) (text : List ℕ) → Left s n ks text → (b : Bool) → auth_at_head ks ≡ b
      → Settled s n given w (auth_step w.telnet (server_step_to v.place ks v.opening (given ++ text)))
  unfolding auth_step settled_control settled_state settled_text is_auth_next choose
  auth-settled ks text l true e =
      let next : auth_at_head (owed_from s (leaving s n)) ≡ true = ap auth_at_head l.owed ∙ e in
      let go : let_go_of server s ≡ let_go v.place w.telnet =
      let-go a.place a.full s.control.down.telnet ∙ ap (λ (k : Layer). let_go v.place k.telnet) a.layer in
      rw e (record {
        gives = rw (next, l.answers, go) (sym (append_assoc given text (let_go v.place w.telnet)));
        server = rw (next, e) (record { place = passes_on a.place; full = a.full; queue = left-queue ks text l; opening = a.opening; layer = ap cleared a.layer });
      })
  auth-settled ks text l false e =
      let next : auth_at_head (owed_from s (leaving s n)) ≡ false = ap auth_at_head l.owed ∙ e in
      rw e (record {
        gives = rw (next, l.answers, append-nil text);
        server = rw (next, e) (record { place = a.place; full = a.full; queue = left-queue ks text l; opening = a.opening; layer = a.layer });
      })

  answers-settled : (ks : List Kind) → drop n v.owed ≡ ks → (b : Bool) → blocked s.control ≡ b
      → Settled s n given w (auth_step w.telnet
      (choose b (server_step_to v.place ks v.opening given) (server_step_to v.place (without_answers ks) v.opening (given ++ head_answers ks))))
  unfolding choose
  answers-settled ks e true p = rw append-nil at (auth-settled ks [] (left s n v.owed ks a.queue e true p) (auth_at_head ks) refl)
  answers-settled ks e false p =
      auth-settled (without_answers ks) (head_answers ks) (left s n v.owed ks a.queue e false p) (auth_at_head (without_answers ks)) refl

  pub settle : (ks : List Kind) → drop n v.owed ≡ ks → Settled s n given w (auth_step w.telnet (own_answers v.place ks v.opening given))
  unfolding own_answers blocked
  settle ks e = answers-settled ks e (is_open v.opening || read_flows_or_ended v.place) (rw (a.opening, flows-or-ended a.place a.full))
