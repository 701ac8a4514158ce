-- Plain lines of the client, as runs of what is lent: the octets that it holds, the LF behind them, and one line after another.
use mathlib.Core.Path.{◌≡◌, refl, sym, ap, subst, ◌∙◌}
use mathlib.Core.Bool.{true, false}
use mathlib.Core.List.{List, [], ◌∷◌, ◌++◌}
use Prim.Native.Nat.{ℕ, suc, ◌+◌, ◌-◌, ◌≤◌, ◌<◌}
use native.Mathlib.Numerals.{add-one}
use native.Mathlib.Omega.{arith}
use lib.ListN.{length, take, drop, set, get_or, length-append, length-drop, length-set}
use lib.Seq.{length-take-le, take-take, drop-cons}
use borrow.Author.Tests.{lt-leb}
use borrow.Rule.Slice.PartMut.{put_mid}
use Rattle.rules.specs.Octets.{lf, every}
use Rattle.rules.specs.Answers.{client, is_queue_full, most_owed}
use Rattle.rules.specs.Lines.{most_held, passed, is_ordinary}
use Rattle.rules.specs.Telnet.{fresh_layer}
use Rattle.rules.specs.declared.Telnet.{Telnet}
use Rattle.records.specs.Layout.{lent_kinds, lent_command, lent_size}
use Rattle.octets.proofs.Runs.{part_length}
use Rattle.output.specs.Buffer.{put_at, position_after}
use Rattle.output.proofs.Placing.{length-put, take-put-at, after-fits, nothing_put}
use Rattle.places.specs.declared.Place.{Place}
use Rattle.places.specs.declared.Direction.{Direction}
use Rattle.places.specs.Places.{at}
use Rattle.commands.specs.Plain.{is_plain}
use Rattle.records.specs.declared.Control.{Control}
use Rattle.records.specs.Controls.{with_client}
use Rattle.rules.specs.declared.Fixed.{Fixed}
use Rattle.steps.specs.declared.Written.{Written}
use Rattle.arrivals.specs.declared.plain.Said.{Said}
use Rattle.steps.specs.Steps.{State}
use Rattle.steps.specs.Takes.{Core, takes, command_in, addresses_lent, kinds_lent, lines_lent, state_from, state_lent, core_from, core_lent}
use Rattle.arrivals.specs.Runs.{Ran}
use Rattle.queue.specs.Kinds.{is_still}
use Rattle.arrivals.specs.PlainRuns.{said_control, SaidPlain}
use Rattle.records.proofs.Limits.{full-by-count}
use Rattle.arrivals.proofs.Runs.{Open, one-taken}
use Rattle.arrivals.proofs.Single.{step_to}
use Rattle.arrivals.proofs.Parts.{ran-none, ran_then, ran-held}
use Rattle.arrivals.proofs.LineEnds.{client-line, still-settled, pushed-still}
use Rattle.steps.proofs.Through.{Clear}
use Rattle.steps.proofs.Lent.{put-part, put-size, kinds-size, kinds-back, kinds-addresses, kind-stored, command-back, command-kinds, command-addresses}

-- ---- no line, and lines behind others

pub said-none : (l : List ℕ) (i held owed : ℕ) (lent out : List ℕ) (at : ℕ) → i ≤ length l → held ≤ most_held → owed ≤ most_owed → at ≤ length out
    → is_still (kinds_lent lent) 0 owed ≡ true
    → SaidPlain l i held owed lent out at (record { taken = i; held = held; owed = owed; at = at }) lent out
said-none l i held owed lent out at inside most count room still =
    record {
      ran = λ f c _ to_client n h.
          ran-none f client l (core_lent (said_control c held owed) lent out to_client (record { server = at; client = n })) i inside room h;
      held = most;
      owed = count;
      written = room;
      still = still;
      addresses = refl;
    }

module _ {l : List ℕ} {i held owed : ℕ} {lent out : List ℕ} {at : ℕ} {r : Said} {lent' out' : List ℕ} where
  pub said-then : {q : Said} {lent'' out'' : List ℕ} → SaidPlain l i held owed lent out at r lent' out'
      → SaidPlain l r.taken r.held r.owed lent' out' r.at q lent'' out'' → SaidPlain l i held owed lent out at q lent'' out''
  said-then {q} {lent''} {out''} one two =
      record {
        ran = λ f c e to_client n h.
            ran_then f client l (core_lent (said_control c held owed) lent out to_client (record { server = at; client = n }))
            (core_lent (said_control c r.held r.owed) lent' out' to_client (record { server = r.at; client = n }))
            (core_lent (said_control c q.held q.owed) lent'' out'' to_client (record { server = q.at; client = n }))
            i r.taken q.taken (one.ran f c e to_client n h) (two.ran f c e to_client n h);
        held = two.held;
        owed = two.owed;
        written = two.written;
        still = two.still;
        addresses = two.addresses ∙ one.addresses;
      }

  -- any session has the same end of the octets taken
  pub said-inside : SaidPlain l i held owed lent out at r lent' out' → r.taken ≤ length l
  said-inside s =
      let start : Direction = record { place = Place.Holding; held = 0 } in
      (s.ran (record { client = []; mapped = []; server = []; supported = false; strict = false })
      (record {
        switches = record { epsv = false; eprt = false };
        client = start;
        server = start;
        owed = 0;
        opening = 0;
        up = fresh_layer;
        down = fresh_layer;
      })
      refl [] 0 (omega arith)).inside

-- of a whole control in which the client holds its octets
module _ (c : Control) {l : List ℕ} {i : ℕ} {lent out : List ℕ} (w : Written) {r : Said} {lent' out' : List ℕ} where
  pub said-ran : c.client.place ≡ Place.Holding → c.up.telnet ≡ Telnet.Clear → SaidPlain l i c.client.held c.owed lent out w.server r lent' out'
      → {after : Control} → after ≡ said_control c r.held r.owed → (f : Fixed) (to_client : List ℕ) → w.client ≤ length to_client
      → Ran f client l (core_lent c lent out to_client w) i (core_lent after lent' out' to_client (record { server = r.at; client = w.client })) r.taken
  said-ran e clear s built f to_client h =
      let same : said_control c c.client.held c.owed ≡ c = λ t. with_client c c.switches (at (sym e t) c.client.held) c.owed in
      let then : Control → Core = λ d. core_lent d lent' out' to_client (record { server = r.at; client = w.client }) in
      subst (λ (d : Control). Ran f client l (core_lent c lent out to_client w) i (then d) r.taken) (sym built)
      (subst (λ (d : Control). Ran f client l (core_lent d lent out to_client w) i (then (said_control c r.held r.owed)) r.taken) same
      (s.ran f c clear to_client w.client h))

-- ---- the octets that are held

few-open : (owed : ℕ) → owed < most_owed → is_queue_full client false owed ≡ false
few-open owed h = sym (full-by-count true false owed refl refl) ∙ lt-leb most_owed owed h

module _ (l : List ℕ) {i j : ℕ} (held : ℕ) (lent : List ℕ) {p : List ℕ} (all : length lent ≡ lent_size) (h : i ≤ j) (g : j ≤ length l)
    (room : held + (j - i) ≤ length (command_in (lines_lent lent)))
    (line : p ≡ put_at (command_in (lines_lent lent)) held (take (j - i) (drop i l))) where
  abbrev xs : List ℕ
  xs = take (j - i) (drop i l)

  abbrev before : List ℕ
  before = command_in (lines_lent lent)

  before-size : length before ≡ most_held
  before-size = length-take-le most_held (drop lent_command lent) (omega (arith, all, length-drop lent_command lent))

  xs-fit : held + length xs ≤ length before
  xs-fit = omega (arith, part_length l i j h g, room)

  line-size : length p ≡ most_held
  line-size = ap (λ (x : List ℕ). length x) line ∙ (length-put before held xs xs-fit ∙ before-size)

  pub lent-size : length (put_mid lent_command most_held lent p) ≡ lent_size
  lent-size = put-size lent_command most_held lent p (omega (arith, all)) line-size ∙ all

  -- a line of which none was held before is all in the arrival
  pub all-arrived : held ≡ 0 → xs ≡ take (lent_command + (held + (j - i)) - lent_command) (drop lent_command (put_mid lent_command most_held lent p))
  all-arrived e =
      let now = drop lent_command (put_mid lent_command most_held lent p) in
      let count : lent_command + (held + (j - i)) - lent_command ≡ held + length xs = omega (arith, part_length l i j h g) in
      let part = put-part lent_command most_held lent p (omega (arith, all)) line-size in
      sym (ap (λ (n : ℕ). take n now) count
      ∙ (sym (take-take (held + length xs) most_held now (omega (arith, xs-fit, before-size)))
      ∙ (ap (take (held + length xs)) (part ∙ line)
      ∙ (take-put-at before held xs xs-fit ∙ ap (λ (n : ℕ). take n before ++ xs) e))))

  -- the octets up to an LF, put behind those that are held
  pub line-held : (owed : ℕ) (out : List ℕ) (at : ℕ) → every is_ordinary xs ≡ true → owed < most_owed → is_still (kinds_lent lent) 0 owed ≡ true
      → at ≤ length out
      → SaidPlain l i held owed lent out at (record { taken = j; held = held + (j - i); owed = owed; at = at })
      (put_mid lent_command most_held lent p) out
  line-held owed out at none few still inside =
      let n = held + (j - i) in
      let most : n ≤ most_held = omega (arith, room, before-size) in
      record {
        ran = λ f c clear to_client m fits.
            let w : Written = record { server = at; client = m } in
            let s = state_lent (said_control c held owed) lent in
            let settled = still-settled s still in
            subst (λ (t : State). Ran f client l (core_from s out to_client w) i (core_from t out to_client w) j)
            (sym (command-back lent all p line-size (said_control c n owed)))
            (ran-held f client l (core_from s out to_client w) i j h g settled clear (few-open owed few) inside fits n p refl none most before-size refl line);
        held = most;
        owed = omega arith;
        written = inside;
        still = subst (λ (kinds : List ℕ). is_still kinds 0 owed ≡ true) (sym (command-kinds lent all p line-size)) still;
        addresses = command-addresses lent all p line-size;
      }

-- ---- the LF of a plain line

-- as a run of one octet: its text is the line, and a plain kind is owed
module _ (f : Fixed) (l : List ℕ) (s : State) (sb cb : List ℕ) (w : Written) (j next : ℕ) (out : List ℕ) where
  abbrev text : List ℕ
  text = passed (take s.control.client.held s.command) ++ (lf ∷ [])

  abbrev ended : State
  ended =
      state_from (said_control s.control 0 (s.control.owed + 1)) s.command s.reply (set s.kinds s.control.owed 0)

  client-ended : j < length l → get_or l j 0 ≡ lf → s.control.client.place ≡ Place.Holding → Clear client s → Open client s
      → is_still s.kinds 0 s.control.owed ≡ true → is_plain (take s.control.client.held s.command) ≡ true
      → s.control.owed < most_owed → length s.kinds ≡ most_owed → w.server + length text ≤ length sb → w.client ≤ length cb
      → next ≡ position_after sb w.server text → out ≡ put_at sb w.server text
      → Ran f client l (core_from s sb cb w) j (core_from ended out cb (record { server = next; client = w.client })) (j + 1)
  client-ended h e place clear queue still plain few size room other en eo =
      let x = text in
      let step = client-line f s place clear still plain in
      let at = en ∙ after-fits sb w.server x room in
      let kept = (nothing_put cb w.client).1 in
      let wc : w.client ≡ w.client + 0 = omega arith in
      record {
        to_server = x;
        to_client = [];
        forward = omega arith;
        inside = omega arith;
        server = room;
        client = omega arith;
        rest = λ m n a b.
            let r = takes f client ended (drop (j + 1) l) (m - length x) (n - 0) in
            let count : suc r.taken ≡ j + 1 - j + r.taken = omega arith in
            (λ t. takes f client s (drop-cons l j 0 h t) m n)
            ∙ ((λ t. takes f client s (e t ∷ drop (sym (add-one j) t) l) m n)
            ∙ (one-taken f client s lf (drop (j + 1) l) m n (step_to ended x []) step queue a b
            ∙ (λ t. record { answer = r.answer; taken = count t; to_server = x ++ r.to_server; to_client = r.to_client; state = r.state })));
        core = λ t. core_from ended (eo t) (kept t) (record { server = at t; client = wc t });
        counted = λ c. record { owed = omega arith; command = omega arith; reply = c.reply };
      }

-- the same over what is lent, into which the code stores the kind
module _ (l : List ℕ) {j : ℕ} (n owed : ℕ) (lent : List ℕ) (all : length lent ≡ lent_size) (out : List ℕ) (at : ℕ) {next : ℕ} {out' line : List ℕ} where
  pub line-ended : j < length l → get_or l j 0 ≡ lf → n ≤ most_held → owed < most_owed → is_still (kinds_lent lent) 0 owed ≡ true → at ≤ length out
      → length (passed line) < length out - at → line ≡ take (lent_command + n - lent_command) (drop lent_command lent) → is_plain line ≡ true
      → next ≡ position_after out at (passed line ++ (lf ∷ [])) → out' ≡ put_at out at (passed line ++ (lf ∷ []))
      → SaidPlain l j n owed lent out at (record { taken = j + 1; held = 0; owed = owed + 1; at = next })
      (set lent (lent_kinds + owed) 0) out'
  line-ended h e most few still inside room el plain en eo =
      let kinds = kinds-size lent all in
      let p = set (kinds_lent lent) owed 0 in
      let size : length p ≡ most_owed = length-set (kinds_lent lent) owed 0 ∙ kinds in
      let back = kind-stored lent all owed 0 few in
      let count : lent_command + n - lent_command ≡ n = omega arith in
      let same : line ≡ take n (command_in (lines_lent lent)) =
      el ∙ (ap (λ (k : ℕ). take k (drop lent_command lent)) count ∙ sym (take-take n most_held (drop lent_command lent) most)) in
      let fits : at + length (passed line ++ (lf ∷ [])) ≤ length out = omega (arith, length-append (passed line) (lf ∷ [])) in
      let end = en ∙ after-fits out at (passed line ++ (lf ∷ [])) fits in
      let whole = ap (λ (x : List ℕ). length x) eo ∙ length-put out at (passed line ++ (lf ∷ [])) fits in
      record {
        ran = λ f c clear to_client m other.
            let w : Written = record { server = at; client = m } in
            let s = state_lent (said_control c n owed) lent in
            let after : State = state_lent (said_control c 0 (owed + 1)) (set lent (lent_kinds + owed) 0) in
            let path : after ≡ ended f l s out to_client w j next out' =
            ap (state_lent (said_control c 0 (owed + 1))) back ∙ kinds-back lent all p size (said_control c 0 (owed + 1)) in
            subst (λ (t : State). Ran f client l (core_from s out to_client w) j (core_from t out' to_client (record { server = next; client = m })) (j + 1))
            (sym path)
            (client-ended f l s out to_client w j next out' h e refl clear (few-open owed few) still
            (subst (λ (x : List ℕ). is_plain x ≡ true) same plain) few kinds
            (subst (λ (x : List ℕ). at + length (passed x ++ (lf ∷ [])) ≤ length out) same fits) other
            (en ∙ ap (λ (x : List ℕ). position_after out at (passed x ++ (lf ∷ []))) same) (eo ∙ ap (λ (x : List ℕ). put_at out at (passed x ++ (lf ∷ []))) same));
        held = omega arith;
        owed = omega arith;
        written = omega arith;
        still = subst (λ (x : List ℕ). is_still x 0 (owed + 1) ≡ true)
            (sym (ap kinds_lent back ∙ put-part lent_kinds most_owed lent p (omega (arith, all)) size)) (pushed-still (kinds_lent lent) owed still);
        addresses = ap addresses_lent back ∙ kinds-addresses lent all p size;
      }
