-- Plain lines of the server, as runs over what is lent: octets that are held, and the LF whose line passes as it is.
use Rattle.std.specs.Prelude.{None, Some}
use mathlib.Core.Path.{◌≡◌, refl, sym, ap, subst, ◌∙◌}
use mathlib.Core.Bool.{Bool, true, false, ◌||◌, ◌&&◌}
use mathlib.Core.List.{List, [], ◌∷◌, ◌++◌, append-nil}
use Prim.Native.Nat.{ℕ, zero, suc, ◌+◌, ◌-◌, ◌≤◌, ◌<◌}
use native.Mathlib.Numerals.{add-one}
use native.Mathlib.Omega.{arith}
use lib.Dec.{eqb, leb, ltb, eqb-suc-zero}
use lib.ListN.{length, take, drop, get_or, length-append, length-drop}
use lib.Seq.{length-take-le, take_all, get_or-take, drop-cons, drop-drop}
use borrow.Author.Tests.{leb-true, leb-false, ltb-true, eqb-true, eqb-false, le-leb, lt-leb}
use borrow.Rule.Slice.PartMut.{put_mid, mid_of}
use Rattle.rules.specs.Octets.{choose, lf, every}
use Rattle.rules.specs.Lines.{content, most_held, passed, is_ordinary}
use Rattle.rules.specs.Telnet.{cleared}
use Rattle.rules.specs.Replies.{is_open, reply_line, opening_after, head_answers, auth_at_head}
use Rattle.rules.specs.Answers.{server, is_queue_full, most_owed}
use Rattle.rules.specs.declared.ReplyLine.{ReplyLine}
use Rattle.records.specs.Layout.{lent_kinds, lent_command, lent_reply, lent_size}
use Rattle.octets.proofs.Ranges.{and_both}
use Rattle.octets.proofs.Choices.{either, choose-true, choose-false}
use Rattle.octets.proofs.Runs.{part_length}
use Rattle.output.specs.Buffer.{put_at, position_after}
use Rattle.output.proofs.Placing.{length-put, take-put-at, after-fits, nothing_put}
use Rattle.places.specs.declared.Place.{Place}
use Rattle.places.specs.Places.{at, direction_from_now}
use Rattle.gives.specs.declared.Gives.{Gives}
use Rattle.gives.specs.Text.{gives_text}
use Rattle.queue.specs.Kinds.{kind_of, head_of, answers_at_head, shifted, is_still}
use Rattle.queue.proofs.Listed.{length-shifted}
use Rattle.downstream.specs.Downstream.{server_effect_of, kind_removed, head_removed, line_removes, kind_effect, head_effect, line_gives, whole_line, reply_effect, server_effect}
use Rattle.records.specs.declared.Control.{Control}
use Rattle.records.specs.Controls.{with_server, with_layer}
use Rattle.rules.specs.declared.Fixed.{Fixed}
use Rattle.steps.specs.declared.Written.{Written}
use Rattle.arrivals.specs.declared.plain.Answered.{Answered}
use Rattle.records.specs.Sound.{blocked}
use Rattle.steps.specs.Steps.{State, stored, let_go_of, owed_from, leaving, answers_text, is_auth_next, settled_control, settled_state, settled_text, server_effect_in, server_state, server_step, line_step, octet_step}
use Rattle.steps.specs.Takes.{takes, Core, core_from, state_from, command_in, reply_in, kinds_lent, lines_lent, state_lent, core_lent}
use Rattle.arrivals.specs.Runs.{Ran}
use Rattle.arrivals.specs.PlainRuns.{is_plain_first, plain_removes, keeps_still, answered_control, AnsweredPlain}
use Rattle.arrivals.proofs.Single.{step_to}
use Rattle.queue.proofs.Answers.{answers-none}
use Rattle.arrivals.proofs.Runs.{one-taken, server-open}
use Rattle.arrivals.proofs.Parts.{ran-none, ran_then, ran-held}
use Rattle.queue.proofs.Still.{still-answers, still-auth}
use Rattle.arrivals.proofs.LineEnds.{still-settled}
use Rattle.steps.proofs.Through.{Clear, octet-clear}
use Rattle.steps.proofs.Lent.{put-size, kinds-size, kinds-addresses, kinds-back, put-part, reply-addresses, reply-kinds, reply-back}

-- ---- a queue that is still behind the kinds removed

module _ (s : State) (n : ℕ) (size : s.control.owed ≤ length s.kinds) (still : is_still s.kinds n s.control.owed ≡ true) where
  none-behind : answers_at_head (owed_from s n) ≡ 0
  none-behind = still-answers s.kinds n s.control.owed still

  still-leaving : leaving s n ≡ n
  unfolding leaving
  still-leaving =
      either (λ (m : ℕ). m ≡ n) (blocked s.control) n (n + answers_at_head (owed_from s n)) refl (omega (arith, none-behind))

  still-next : is_auth_next s n ≡ false
  unfolding is_auth_next
  still-next =
      ap (λ (m : ℕ). auth_at_head (owed_from s m)) still-leaving ∙ still-auth s.kinds n s.control.owed still

  -- only those kinds leave
  abbrev without : State
  without =
      let c = s.control in
      state_from (with_server c c.server (c.owed - n) c.opening)
      s.command s.reply (shifted s.kinds n c.owed)

  still-state : settled_state s n ≡ without
  unfolding settled_state settled_control
  still-state =
      let c = s.control in
      let stays = choose-false (direction_from_now c.server c.server.place) c.server still-next in
      let down = choose-false (cleared c.down) c.down still-next in
      λ i. state_from (with_server (with_layer server c (down i)) (stays i) (c.owed - still-leaving i) c.opening)
      s.command s.reply (shifted s.kinds (still-leaving i) c.owed)

  still-text : settled_text s n ≡ []
  unfolding settled_text answers_text
  still-text =
      let none = either (λ (l : List ℕ). l ≡ []) (blocked s.control) [] (head_answers (owed_from s n)) refl (answers-none (owed_from s n) none-behind) in
      let stays = choose-false (let_go_of server s) [] still-next in
      λ i. none i ++ stays i

-- what is first once n kinds are removed
shifted-first : (kinds : List ℕ) (n owed : ℕ) → n < owed → owed ≤ length kinds → get_or (shifted kinds n owed) 0 0 ≡ get_or kinds n 0
unfolding shifted
shifted-first kinds n owed h size =
    let first = drop-cons (take owed kinds) n 0 (omega (arith, length-take-le owed kinds size)) in
    ap (λ (l : List ℕ). get_or (l ++ drop (owed - n) kinds) 0 0) first ∙ get_or-take owed kinds n 0 h

pub shifted-still : (kinds : List ℕ) (n owed : ℕ) → owed ≤ length kinds → is_still kinds n owed ≡ true → is_still (shifted kinds n owed) 0 (owed - n) ≡ true
unfolding is_still
shifted-still kinds n owed size still = by_cases (leb owed n) refl
  where
    by_cases : (b : Bool) → leb owed n ≡ b → choose (leb (owed - n) 0) true (ltb (get_or (shifted kinds n owed) 0 0) 2) ≡ true
    by_cases true e = choose-true true (ltb (get_or (shifted kinds n owed) 0 0) 2) (le-leb (owed - n) 0 (omega (arith, leb-true owed n e)))
    by_cases false e =
        let more = leb-false owed n e in
        choose-false true (ltb (get_or (shifted kinds n owed) 0 0) 2) (lt-leb (owed - n) 0 (omega arith))
        ∙ (ap (λ (x : ℕ). ltb x 2) (shifted-first kinds n owed more size) ∙ (sym (choose-false true (ltb (get_or kinds n 0) 2) e) ∙ still))

-- ---- what a plain line gives and removes

low-removed : (m : ℕ) → m < 2 → kind_removed (kind_of m) ≡ 1
unfolding kind_removed kind_of choose
low-removed zero h = refl
low-removed (suc zero) h = refl
low-removed (suc (suc m)) h = absurd (omega arith)

plain-effect : (f : Fixed) (m : ℕ) → m ≡ 0 → (c : List ℕ) → kind_effect f (kind_of m) c ≡ Gives.HeldAndOctet
unfolding kind_effect kind_of choose
plain-effect f m e c = rw e

module _ (kinds : List ℕ) (u : ℕ) (owed : ℕ) (still : is_still kinds 0 owed ≡ true) where
  first-low : eqb owed 0 ≡ false → get_or kinds 0 0 < 2
  unfolding is_still
  first-low e =
      let none = eqb-false owed 0 e in
      ltb-true (get_or kinds 0 0) 2 (sym (choose-false true (ltb (get_or kinds 0 0) 2) (lt-leb owed 0 (some-owed owed none))) ∙ still)
    where
      some-owed : (m : ℕ) → (m ≡ 0 → ⊥) → 0 < m
      some-owed zero none = absurd (none refl)
      some-owed (suc m) none = omega arith

  final-removes : (b : Bool) → eqb owed 0 ≡ b → head_removed (choose b None (Some (kind_of (get_or kinds 0 0)))) ≡ choose b 0 1
  unfolding head_removed choose
  final-removes true e = refl
  final-removes false e = low-removed (get_or kinds 0 0) (first-low e)

  line-removes : (r : ReplyLine) → line_removes r (head_of kinds owed) ≡ plain_removes r owed
  unfolding line_removes plain_removes head_of
  line-removes (ReplyLine.Opens code) = refl
  line-removes ReplyLine.Belongs = refl
  line-removes ReplyLine.StandsAlone = refl
  line-removes ReplyLine.Preliminary = refl
  line-removes ReplyLine.Final = final-removes (eqb owed 0) refl

  final-gives : (f : Fixed) (c : List ℕ) (b v : Bool) → keeps_still kinds v (choose b 0 1) owed ≡ true
      → choose v Gives.HeldAndOctet (head_effect f (choose b None (Some (kind_of (get_or kinds 0 0)))) c) ≡ Gives.HeldAndOctet
  unfolding head_effect choose keeps_still is_plain_first
  final-gives f c true true h = refl
  final-gives f c true false h = refl
  final-gives f c false true h = refl
  final-gives f c false false h = plain-effect f (get_or kinds 0 0) (eqb-true (get_or kinds 0 0) 0 (and_both (is_plain_first kinds) (is_still kinds 1 owed) h).0) c

  line_gives_lem : (f : Fixed) (r : ReplyLine) (c : List ℕ) → keeps_still kinds (is_open u) (plain_removes r owed) owed ≡ true → line_gives f r u (head_of kinds owed) c ≡ Gives.HeldAndOctet
  unfolding line_gives plain_removes head_of
  line_gives_lem f (ReplyLine.Opens code) c h = refl
  line_gives_lem f ReplyLine.Belongs c h = refl
  line_gives_lem f ReplyLine.StandsAlone c h = refl
  line_gives_lem f ReplyLine.Preliminary c h = refl
  line_gives_lem f ReplyLine.Final c h = final-gives f c (eqb owed 0) (is_open u) h

  -- the queue is still behind what leaves
  kept-still : (n : ℕ) → keeps_still kinds (is_open u) n owed ≡ true → is_still kinds n owed ≡ true
  unfolding keeps_still
  kept-still zero h = still
  kept-still (suc n) h =
      let both : Bool = (is_open u || is_plain_first kinds) && is_still kinds (suc n) owed in
      (and_both (is_open u || is_plain_first kinds) (is_still kinds (suc n) owed) (sym (choose-false true both (eqb-suc-zero n)) ∙ h)).1

pub removes-within : (r : ReplyLine) (owed : ℕ) → plain_removes r owed ≤ owed
unfolding plain_removes choose
removes-within (ReplyLine.Opens code) owed = omega arith
removes-within ReplyLine.Belongs owed = omega arith
removes-within ReplyLine.StandsAlone owed = omega arith
removes-within ReplyLine.Preliminary owed = omega arith
removes-within ReplyLine.Final zero = omega arith
removes-within ReplyLine.Final (suc n) = rw (eqb-suc-zero n) (omega arith)

-- ---- the LF of a plain line

module _ (f : Fixed) (s : State) (place : s.control.server.place ≡ Place.Holding) (clear : Clear server s) (still : is_still s.kinds 0 s.control.owed ≡ true)
    (size : s.control.owed ≤ length s.kinds) (r : ReplyLine) (read : r ≡ reply_line s.control.opening (content (take s.control.server.held s.reply)))
    (keeps : keeps_still s.kinds (is_open s.control.opening) (plain_removes r s.control.owed) s.control.owed ≡ true) where
  abbrev n : ℕ
  n = plain_removes r s.control.owed

  -- the state before what leaves the queue
  abbrev ended : State
  ended =
      let c = s.control in
      state_from (with_server c (at Place.Holding 0) c.owed (opening_after s.control.opening r))
      s.command s.reply s.kinds

  abbrev pub answered_next : State
  answered_next =
      state_from (answered_control s.control 0 (s.control.owed - n) (opening_after s.control.opening r)) s.command s.reply (shifted s.kinds n s.control.owed)

  line_effect : server_effect_in f s lf ≡ server_effect_of Gives.HeldAndOctet (at Place.Holding 0) n (opening_after s.control.opening r)
  unfolding server_effect_in server_effect reply_effect whole_line
  line_effect =
      let c = s.control in
      let o = head_of s.kinds c.owed in
      let t = content (take c.server.held s.reply) in
      ap (λ (p : Place). reply_effect f c.opening o p c.server.held s.reply true) place
      ∙ ((λ i. server_effect_of (line_gives f (sym read i) c.opening o t) (at Place.Holding 0) (line_removes (sym read i) o) (opening_after c.opening (sym read i)))
      ∙ (λ i. server_effect_of (line_gives_lem s.kinds c.opening c.owed still f r t keeps i) (at Place.Holding 0)
      (line-removes s.kinds c.opening c.owed still r i) (opening_after s.control.opening r)))

  line-ends : line_step f server s lf ≡ step_to answered_next [] (passed (take s.control.server.held s.reply) ++ (lf ∷ []))
  unfolding line_step server_step server_state stored gives_text passed choose
  line-ends =
      let behind = kept-still s.kinds s.control.opening s.control.owed still n keeps in
      let line = passed (take s.control.server.held s.reply) ++ (lf ∷ []) in
      rw line_effect ((λ i. record {
        state = still-state ended n size behind i;
        to_server = [];
        to_client = line ++ still-text ended n size behind i;
      }) ∙ ap (step_to answered_next []) (append-nil line))

  pub server-line : octet_step f server s lf ≡ step_to answered_next [] (passed (take s.control.server.held s.reply) ++ (lf ∷ []))
  server-line = octet-clear f s lf server clear refl ∙ line-ends

  -- the same as a run of one octet: out is the client's buffer then, and next the position behind the line
  module _ (l sb cb : List ℕ) (w : Written) (j : ℕ) (h : j < length l) (end : get_or l j 0 ≡ lf) (line : List ℕ)
      (text : line ≡ take s.control.server.held s.reply) (room : w.client + length (passed line) < length cb) (other : w.server ≤ length sb)
      (next : ℕ) (out : List ℕ) (en : next ≡ position_after cb w.client (passed line ++ (lf ∷ []))) (eo : out ≡ put_at cb w.client (passed line ++ (lf ∷ []))) where
    pub server-ended : Ran f server l (core_from s sb cb w) j (core_from answered_next sb out (record { server = w.server; client = next })) (j + 1)
    unfolding is_queue_full
    server-ended =
        let x = passed line ++ (lf ∷ []) in
        let long = length-append (passed line) (lf ∷ []) in
        let fits : w.client + length x ≤ length cb = omega arith in
        let at = en ∙ after-fits cb w.client x fits in
        let kept = (nothing_put sb w.server).1 in
        let ws : w.server ≡ w.server + 0 = omega arith in
        let step = server-line ∙ ap (λ (z : List ℕ). step_to answered_next [] (passed z ++ (lf ∷ []))) (sym text) in
        record {
          to_server = [];
          to_client = x;
          forward = omega arith;
          inside = omega arith;
          server = omega arith;
          client = fits;
          rest = λ m n a b.
              let r = takes f server answered_next (drop (j + 1) l) (m - 0) (n - length x) in
              let count : suc r.taken ≡ j + 1 - j + r.taken = omega arith in
              (λ t. takes f server s (drop-cons l j 0 h t) m n)
              ∙ ((λ t. takes f server s (end t ∷ drop (sym (add-one j) t) l) m n)
              ∙ (one-taken f server s lf (drop (j + 1) l) m n (step_to answered_next [] x) step refl a b
              ∙ (λ t. record { answer = r.answer; taken = count t; to_server = r.to_server; to_client = x ++ r.to_client; state = r.state })));
          core = λ t. core_from answered_next (kept t) (eo t) (record { server = ws t; client = at t });
          counted = λ c. let most = c.owed in record { owed = omega arith; command = c.command; reply = omega arith };
        }

-- ---- the server's line, as it is lent

-- the octets from 547 on are the server's line
reply-lent : (lent : List ℕ) → length lent ≡ lent_size → mid_of lent_reply most_held lent ≡ reply_in (lines_lent lent)
reply-lent lent all = take_all most_held (drop lent_reply lent) (omega (arith, all, length-drop lent_reply lent)) ∙ sym (drop-drop most_held lent_command lent)

-- no octet, and one run behind the other
module _ (l : List ℕ) (i h m : ℕ) (u : ℕ) (lent out : List ℕ) (w : ℕ) where
  pub answered-none : i ≤ length l → h ≤ most_held → m ≤ most_owed → w ≤ length out → is_still (kinds_lent lent) 0 m ≡ true
      → AnsweredPlain l i h m u lent out w (record { taken = i; held = h; owed = m; opening = u; at = w }) lent out
  answered-none inside held owed written still =
      record {
        ran = λ f c _ sb n room. ran-none f server l (core_lent (answered_control c h m u) lent sb out (record { server = n; client = w })) i inside room written;
        held = held;
        owed = owed;
        written = written;
        still = still;
        addresses = refl;
      }

  pub answered-then : (r r' : Answered) (lent' out' lent'' out'' : List ℕ) → AnsweredPlain l i h m u lent out w r lent' out'
      → AnsweredPlain l r.taken r.held r.owed r.opening lent' out' r.at r' lent'' out''
      → AnsweredPlain l i h m u lent out w r' lent'' out''
  answered-then r r' lent' out' lent'' out'' a b =
      record {
        ran = λ f c e sb n room.
            ran_then f server l _ (core_lent (answered_control c r.held r.owed r.opening) lent' sb out' (record { server = n; client = r.at })) _
            i r.taken r'.taken (a.ran f c e sb n room) (b.ran f c e sb n room);
        held = b.held;
        owed = b.owed;
        written = b.written;
        still = b.still;
        addresses = b.addresses ∙ a.addresses;
      }

-- a run from a control in which the server holds its octets
pub answered-from : (f : Fixed) (l : List ℕ) (c : Control) (lent sb cb : List ℕ) (w : Written) (i j : ℕ) (then : Control → Core) {after before : Control}
    → c.server.place ≡ Place.Holding → after ≡ before
    → Ran f server l (core_lent (answered_control c c.server.held c.owed c.opening) lent sb cb w) i (then before) j
    → Ran f server l (core_lent c lent sb cb w) i (then after) j
answered-from f l c lent sb cb w i j then {after} {before} e built ran =
    subst (λ (d : Control). Ran f server l (core_lent c lent sb cb w) i (then d) j) (sym built)
    (subst (λ (p : Place). Ran f server l (core_lent (with_server c (at p c.server.held) c.owed c.opening) lent sb cb w) i (then before) j) (sym e) ran)

-- octets of a line that has not ended: p is the server's line then
module _ (l : List ℕ) (i j h : ℕ) (lent p : List ℕ) (all : length lent ≡ lent_size) (forward : i ≤ j) (inside : j ≤ length l)
    (room : h + (j - i) ≤ length (mid_of lent_reply most_held lent)) (put : p ≡ put_at (mid_of lent_reply most_held lent) h (take (j - i) (drop i l))) where
  abbrev ys : List ℕ
  ys = take (j - i) (drop i l)

  abbrev held : ℕ
  held = h + (j - i)

  line-size : length (mid_of lent_reply most_held lent) ≡ most_held
  line-size = length-take-le most_held (drop lent_reply lent) (omega (arith, all, length-drop lent_reply lent))

  part-size : length p ≡ most_held
  part-size = ap length put ∙ (length-put (mid_of lent_reply most_held lent) h ys (omega (arith, part_length l i j forward inside)) ∙ line-size)

  pub held-size : length (put_mid lent_reply most_held lent p) ≡ lent_size
  held-size = put-size lent_reply most_held lent p (omega (arith, all)) part-size ∙ all

  -- where none was held before, they are all that is held
  pub held-text : h ≡ 0 → ys ≡ take (lent_reply + held - lent_reply) (drop lent_reply (put_mid lent_reply most_held lent p))
  held-text e =
      let part = part_length l i j forward inside in
      let line = mid_of lent_reply most_held lent in
      let now = drop lent_reply (put_mid lent_reply most_held lent p) in
      let whole = take_all most_held now (omega (arith, length-drop lent_reply (put_mid lent_reply most_held lent p), held-size)) in
      let same = sym whole ∙ (put-part lent_reply most_held lent p (omega (arith, all)) part-size ∙ (put ∙ ap (λ (k : ℕ). put_at line k ys) e)) in
      let long : lent_reply + held - lent_reply ≡ 0 + length ys = omega arith in
      sym (ap (take (lent_reply + held - lent_reply)) same ∙ (ap (λ (k : ℕ). take k (put_at line 0 ys)) long ∙ take-put-at line 0 ys (omega arith)))

  pub reply-held : (m : ℕ) (u : ℕ) (out : List ℕ) (w : ℕ) → m ≤ most_owed → w ≤ length out → is_still (kinds_lent lent) 0 m ≡ true → every is_ordinary ys ≡ true
      → AnsweredPlain l i h m u lent out w (record { taken = j; held = held; owed = m; opening = u; at = w }) (put_mid lent_reply most_held lent p) out
  reply-held m u out w owed written still none =
      record {
        ran = λ f c clear sb k other.
            let s = state_lent (answered_control c h m u) lent in
            let b : Written = record { server = k; client = w } in
            let before = reply-lent lent all in
            let run = ran-held f server l (core_from s sb out b) i j forward inside (still-settled s still) clear (server-open s) other written held p refl none
            (omega (arith, line-size)) (sym (ap length before) ∙ line-size) refl (put ∙ ap (λ (z : List ℕ). put_at z h ys) before) in
            subst (λ (z : State). Ran f server l (core_from s sb out b) i (core_from z sb out b) j) (sym (reply-back lent all p part-size (answered_control c held m u))) run;
        held = omega (arith, line-size);
        owed = owed;
        written = written;
        still = subst (λ (z : List ℕ). is_still z 0 m ≡ true) (sym (reply-kinds lent all p part-size)) still;
        addresses = reply-addresses lent all p part-size;
      }

-- the LF of a plain line; the code reads the line once to judge it, and once to write it
module _ (l : List ℕ) (j n m : ℕ) (u : ℕ) (lent p out out' : List ℕ) (w next k : ℕ) (v : ℕ) (all : length lent ≡ lent_size)
    (held : n ≤ most_held) (owed : m ≤ most_owed) (still : is_still (kinds_lent lent) 0 m ≡ true) (inside : j < length l) (end : get_or l j 0 ≡ lf)
    (seen line : List ℕ) (es : seen ≡ take (lent_reply + n - lent_reply) (drop lent_reply lent)) (el : line ≡ take (lent_reply + n - lent_reply) (drop lent_reply lent))
    (room : length (passed seen) < length out - w) (r : ReplyLine) (read : r ≡ reply_line u (content seen)) (ek : k ≡ plain_removes r m) (ev : v ≡ opening_after u r)
    (keeps : keeps_still (kinds_lent lent) (is_open u) k m ≡ true)
    (en : next ≡ position_after out w (passed line ++ (lf ∷ []))) (eo : out' ≡ put_at out w (passed line ++ (lf ∷ []))) (put : p ≡ shifted (kinds_lent lent) k m) where
  kinds-hold : m ≤ length (kinds_lent lent)
  kinds-hold = omega (arith, kinds-size lent all)

  kinds-left : length p ≡ most_owed
  kinds-left = ap length put ∙ (length-shifted (kinds_lent lent) k m kinds-hold ∙ kinds-size lent all)

  -- either reading is the line
  as-held : {x : List ℕ} → x ≡ take (lent_reply + n - lent_reply) (drop lent_reply lent) → x ≡ take n (reply_in (lines_lent lent))
  as-held e =
      let cut : lent_reply + n - lent_reply ≡ n = omega arith in
      e ∙ (λ i. take (cut i) (sym (drop-drop most_held lent_command lent) i))

  line-long : length (passed line) ≡ length (passed seen)
  line-long = ap (λ (x : List ℕ). length (passed x)) (el ∙ sym es)

  pub reply-ended : AnsweredPlain l j n m u lent out w (record { taken = j + 1; held = 0; owed = m - k; opening = v; at = next }) (put_mid lent_kinds most_owed lent p) out'
  reply-ended =
      let x = passed line ++ (lf ∷ []) in
      let fits : w + length x ≤ length out = omega (arith, line-long, length-append (passed line) (lf ∷ [])) in
      record {
        ran = λ f c clear sb a other.
            let s = state_lent (answered_control c n m u) lent in
            let b : Written = record { server = a; client = w } in
            let e : Written = record { server = a; client = next } in
            let lines = lines_lent lent in
            let kinds = put ∙ ap (λ (q : ℕ). shifted (kinds_lent lent) q m) ek in
            let run = server-ended f s refl clear still kinds-hold r (read ∙ ap (λ (z : List ℕ). reply_line u (content z)) (as-held es))
            (subst (λ (q : ℕ). keeps_still (kinds_lent lent) (is_open u) q m ≡ true) ek keeps) l sb out b j inside end line (as-held el) (omega (arith, line-long)) other next out' en eo in
            subst (λ (z : State). Ran f server l (core_from s sb out b) j (core_from z sb out' e) (j + 1))
            (sym (kinds-back lent all p kinds-left (answered_control c 0 (m - k) v)
            ∙ (λ i. state_from (answered_control c 0 (m - ek i) (ev i)) (command_in lines) (reply_in lines) (kinds i)))) run;
        held = omega arith;
        owed = omega arith;
        written = omega (arith, en ∙ after-fits out w x fits, ap length eo, length-put out w x fits);
        still = subst (λ (z : List ℕ). is_still z 0 (m - k) ≡ true) (sym (put-part lent_kinds most_owed lent p (omega (arith, all)) kinds-left ∙ put))
            (shifted-still (kinds_lent lent) k m kinds-hold (kept-still (kinds_lent lent) u m still k keeps));
        addresses = kinds-addresses lent all p kinds-left;
      }
