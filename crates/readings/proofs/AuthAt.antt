-- AUTH found line by line is AUTH found octet by octet, for any line rules; so up to AUTH the readings are the same.
use mathlib.Core.Path.{◌≡◌, refl, sym, ap, ◌∙◌}
use mathlib.Core.Bool.{Bool, true, false}
use mathlib.Core.List.{List, [], ◌∷◌, ◌++◌, append-nil, append_assoc}
use Prim.Native.Nat.{ℕ, suc, ◌+◌, ◌≤◌, ◌<◌}
use native.Mathlib.Omega.{arith}
use lib.Dec.{eqb, ltb}
use lib.ListN.{length, take, length-append}
use borrow.Author.Tests.{ltb-true, ltb-false, eq-eqb, ne_eqb}
use Rattle.rules.specs.Octets.{lf, choose}
use Rattle.rules.specs.Lines.{judged, starts_auth}
use Rattle.rules.specs.Replies.{is_auth}
use Rattle.rules.specs.Edition.{ClientLine, LineRules}
use Rattle.rules.specs.ToServer.{Text, as_lines, onto_text, onto_line, long_owes, finished_line, auth_lines, auth_at, rest_auth_at}
use Rattle.rules.specs.ToClient.{Place, in_line, passing, ended, ClientStep, fresh_client, finishes, joins, client_octet}
use Rattle.readings.specs.ByOctets.{Client, standing, if_in_line, auth_from}
use Rattle.readings.specs.Readings.{SameAuth, SameByOctets}
use Rattle.readings.proofs.ByOctets.{
  six,
  whole,
  long,
  length-snoc,
  grows,
  starts,
  NoLf,
  no_lf-snoc,
  lead,
  as_lines-lead,
  lines_at,
  line-text,
  finished-whole,
  finished-long,
  Ok,
  ok-empty,
  ok-place,
  lines-octets,
}

whole-at : (l : List ℕ) → length l < judged → rest_auth_at l ≡ suc (length l)
unfolding choose
whole-at l h = rw (whole l h)

long-at : (l : List ℕ) (a : Bool) → judged ≤ length l → starts_auth l ≡ a → rest_auth_at l ≡ choose a judged (suc (length l))
unfolding choose
long-at l a h e = rw (long l h, e)

module _ (rules : LineRules) where
  abbrev auth_text : rules.LineState → Text → ℕ
  auth_text st t = auth_lines rules st t.lines t.rest

  -- from within a line that flows
  flow_at : rules.LineState → List (List ℕ) → List ℕ → ℕ
  flow_at st [] t = suc (length t)
  flow_at st (l ∷ ls) t = suc (length l) + auth_lines rules st ls t

  -- a count from a place on is the one that the lines give
  abbrev AtPlace : rules.LineState → Place → List ℕ → ℕ → Type 0
  AtPlace st (in_line l) xs n =
      (length l < judged → length l + n ≡ auth_text st (as_lines (l ++ xs)))
      × (judged ≤ length l → n ≡ flow_at st (as_lines xs).lines (as_lines xs).rest)
  AtPlace st passing xs n = n ≡ 0
  AtPlace st ended xs n = ⊥

  -- ---- nothing more comes

  end_whole : (st : rules.LineState) (l : List ℕ) → NoLf l → length l < judged → length l + 1 ≡ auth_text st (as_lines (l ++ []))
  unfolding lead as_lines auth_lines
  end_whole st l n h = rw (as_lines-lead l [] n, append-nil l, whole-at l h) (omega arith)

  at-nil : (st : rules.LineState) (p : Place) → Ok rules p → AtPlace st p [] (if_in_line p 0)
  unfolding flow_at as_lines
  at-nil st (in_line l) k = (λ h. end_whole st l k.0 h, λ h. refl)
  at-nil st passing k = refl
  at-nil st ended k = absurd k

  -- ---- one octet

  -- the count after an octet
  abbrev After : List ℕ → ClientStep rules.LineState → ℕ → Type 0
  After xs j n = AtPlace j.state.line_state j.state.place xs n

  module _ (st : rules.LineState) (x : ℕ) (xs : List ℕ) (n : ℕ) where
    lines_cons : (l : List ℕ) (ls : List (List ℕ)) (t : List ℕ) (a : Bool) → length l < judged → is_auth (rules.client_line st l).owes ≡ a
        → auth_lines rules st (l ∷ ls) t ≡ choose a (suc (length l)) (suc (length l) + auth_lines rules (rules.client_line st l).after ls t)
    unfolding auth_lines choose
    lines_cons l ls t a h e = rw (finished-whole rules st l h, e, whole l h)

    judged-line : (l : List ℕ) (j : ClientLine rules.LineState) (a : Bool) → is_auth j.owes ≡ a → AtPlace j.after (choose a passing (in_line [])) xs n
        → length l + suc n ≡ choose a (suc (length l)) (suc (length l) + auth_text j.after (as_lines xs))
    unfolding choose
    judged-line l j true e h = omega (arith, h)
    judged-line l j false e h = omega (arith, h.0 (omega (arith, six)))

    at-end : (l : List ℕ) → NoLf l → length l < judged → eqb x lf ≡ true → After xs (finishes (finished_line rules st l)) n
        → length l + suc n ≡ auth_text st (as_lines (l ++ (x ∷ xs)))
    unfolding finishes
    at-end l k h p after =
        let j : ClientLine rules.LineState = rules.client_line st l in
        rw (line-text l x xs k p, lines_cons l (as_lines xs).lines (as_lines xs).rest (is_auth j.owes) h refl)
        (judged-line l j (is_auth j.owes) refl (rw (finished-whole rules st l h) at after))

    at-flow-end : (l : List ℕ) → judged ≤ length l → starts_auth l ≡ false → eqb x lf ≡ true → After xs (finishes (finished_line rules st l)) n
        → suc n ≡ flow_at st (as_lines (x ∷ xs)).lines (as_lines (x ∷ xs)).rest
    unfolding finishes choose onto_text flow_at long_owes
    at-flow-end l h a p after =
        let r = (rw (finished-long rules st l h, a) at after) in
        rw (lines_at x xs true p) (omega (arith, r.0 (omega (arith, six))))

    flow-onto : (ls : List (List ℕ)) (t : List ℕ) → flow_at st (onto_line x ls t).lines (onto_line x ls t).rest ≡ suc (flow_at st ls t)
    unfolding onto_line flow_at
    flow-onto [] t = refl
    flow-onto (l ∷ ls) t = omega arith

    at-flow : (l : List ℕ) → judged ≤ length l → eqb x lf ≡ false → After xs (joins st (l ++ (x ∷ []))) n
        → suc n ≡ flow_at st (as_lines (x ∷ xs)).lines (as_lines (x ∷ xs)).rest
    unfolding joins choose onto_text
    at-flow l h p after =
        let more : judged ≤ length (l ++ (x ∷ [])) = grows l (x ∷ []) h in
        let over : eqb (length (l ++ (x ∷ []))) judged ≡ false = ne_eqb _ judged (λ q. omega (arith, length-snoc l x)) in
        let r = (rw over at after) in
        rw (lines_at x xs false p, flow-onto (as_lines xs).lines (as_lines xs).rest) (ap suc (r.1 more))

    -- a line that begins with octets that flow
    long-cons : (l : List ℕ) (ls : List (List ℕ)) (t : List ℕ) (a : Bool) → judged ≤ length l → starts_auth l ≡ a
        → auth_lines rules st (l ∷ ls) t ≡ choose a judged (suc (length l) + auth_lines rules st ls t)
    unfolding auth_lines choose long_owes
    long-cons l ls t true h e = rw (finished-long rules st l h, e, long l h)
    long-cons l ls t false h e = rw (finished-long rules st l h, e)

    long-lead : (k : List ℕ) (ls : List (List ℕ)) (t : List ℕ) (a : Bool) → judged ≤ length k → starts_auth k ≡ a
        → auth_text st (lead k ls t) ≡ choose a judged (length k + flow_at st ls t)
    unfolding lead auth_lines flow_at choose
    long-lead k [] t true h e = long-at (k ++ t) true (grows k t h) (starts k t (omega (arith, six)) ∙ e)
    long-lead k [] t false h e = long-at (k ++ t) false (grows k t h) (starts k t (omega (arith, six)) ∙ e) ∙ omega (arith, length-append k t)
    long-lead k (l ∷ ls) t true h e = long-cons (k ++ l) ls t true (grows k l h) (starts k l (omega (arith, six)) ∙ e)
    long-lead k (l ∷ ls) t false h e =
        long-cons (k ++ l) ls t false (grows k l h) (starts k l (omega (arith, six)) ∙ e) ∙ omega (arith, length-append k l)

    lets_go : (k : List ℕ) → NoLf k → length k ≡ judged → (a : Bool) → starts_auth k ≡ a → After xs (joins st k) n
        → length k + n ≡ auth_text st (as_lines (k ++ xs))
    unfolding joins choose
    lets_go k f h true e after =
        let r = (rw (eq-eqb (length k) judged h, e) at after) in
        rw (as_lines-lead k xs f, long-lead k (as_lines xs).lines (as_lines xs).rest true (omega arith) e) (omega arith)
    lets_go k f h false e after =
        let r = (rw (eq-eqb (length k) judged h, e) at after) in
        rw (as_lines-lead k xs f, long-lead k (as_lines xs).lines (as_lines xs).rest false (omega arith) e) (ap (λ (m : ℕ). length k + m) (r.1 (omega arith)))

    keeps : (k : List ℕ) → length k < judged → After xs (joins st k) n → length k + n ≡ auth_text st (as_lines (k ++ xs))
    unfolding joins choose
    keeps k h after = let r = (rw (ne_eqb (length k) judged (λ q. omega arith)) at after) in r.0 h

    kept_or_not : (k : List ℕ) → NoLf k → length k ≤ judged → (b : Bool) → ltb (length k) judged ≡ b → After xs (joins st k) n
        → length k + n ≡ auth_text st (as_lines (k ++ xs))
    kept_or_not k f h true p after = keeps k (ltb-true (length k) judged p) after
    kept_or_not k f h false p after = lets_go k f (omega (arith, ltb-false (length k) judged p)) (starts_auth k) refl after

    at-octet : (l : List ℕ) → NoLf l → length l < judged → eqb x lf ≡ false → After xs (joins st (l ++ (x ∷ []))) n
        → length l + suc n ≡ auth_text st (as_lines (l ++ (x ∷ xs)))
    at-octet l f h p after =
        let r : length (l ++ (x ∷ [])) + n ≡ auth_text st (as_lines ((l ++ (x ∷ [])) ++ xs)) =
        kept_or_not (l ++ (x ∷ [])) (no_lf-snoc l x f p) (omega (arith, length-snoc l x)) (ltb (length (l ++ (x ∷ []))) judged) refl after in
        omega (arith, length-snoc l x) ∙ r ∙ ap (λ (d : List ℕ). auth_text st (as_lines d)) (append_assoc l (x ∷ []) xs)

    in-line : (l : List ℕ) → Ok rules (in_line l) → (b : Bool) → eqb x lf ≡ b
        → After xs (choose b (finishes (finished_line rules st l)) (joins st (l ++ (x ∷ [])))) n → AtPlace st (in_line l) (x ∷ xs) (suc n)
    unfolding choose
    in-line l k true p after = (λ h. at-end l k.0 h p after, λ h. at-flow-end l h (k.1 h) p after)
    in-line l k false p after = (λ h. at-octet l k.0 h p after, λ h. at-flow l h p after)

    at_place : (p : Place) → Ok rules p → After xs (client_octet rules st p x) n → AtPlace st p (x ∷ xs) (if_in_line p n)
    unfolding client_octet
    at_place (in_line l) k after = in-line l k (eqb x lf) refl after
    at_place passing k after = refl
    at_place ended k after = absurd k

  at-text : (c : Client rules) (xs : List ℕ) → Ok rules c.place → AtPlace c.line_state c.place xs (auth_from rules c xs)
  unfolding auth_from
  at-text c [] k = at-nil c.line_state c.place k
  at-text c (x ∷ xs) k =
      let next : Client rules = (client_octet rules c.line_state c.place x).state in
      at_place c.line_state x xs (auth_from rules next xs) c.place k (at-text next xs (ok-place rules c.line_state c.place x k))

  -- line by line is octet by octet
  pub auth-octets : SameAuth rules
  unfolding auth_at
  auth-octets st d = sym (omega (arith, (at-text (fresh_client st) d (ok-empty rules)).0 (omega (arith, six))))

  -- ---- the octets up to AUTH

  -- they go no further than to AUTH
  abbrev GoesTo : rules.LineState → Place → List ℕ → Type 0
  GoesTo st p d =
      let c = standing rules st p in length (take (auth_from rules c d) d) ≤ auth_from rules c (take (auth_from rules c d) d)

  goes-nil : (st : rules.LineState) (p : Place) → GoesTo st p []
  unfolding auth_from
  goes-nil st (in_line l) = omega arith
  goes-nil st passing = omega arith
  goes-nil st ended = omega arith

  goes-cons : (st : rules.LineState) (p : Place) (x : ℕ) (d : List ℕ)
      → let next = (client_octet rules st p x).state in
      GoesTo next.line_state next.place d → GoesTo st p (x ∷ d)
  unfolding auth_from
  goes-cons st (in_line l) x d h = omega (arith, h)
  goes-cons st passing x d h = omega arith
  goes-cons st ended x d h = omega arith

  goes_to : (st : rules.LineState) (p : Place) (d : List ℕ) → GoesTo st p d
  goes_to st p [] = goes-nil st p
  goes_to st p (x ∷ d) =
      let next : Client rules = (client_octet rules st p x).state in goes-cons st p x d (goes_to next.line_state next.place d)

  up-to-auth : (st : rules.LineState) (d : List ℕ)
      → let lines = take (auth_at rules st d) d in length lines ≤ auth_from rules (fresh_client st) lines
  up-to-auth st d = rw (auth-octets st d) (goes_to st (in_line []) d)

  pub by-octets : SameByOctets rules
  by-octets st d at_end = lines-octets rules st (take (auth_at rules st d) d) at_end (up-to-auth st d)
