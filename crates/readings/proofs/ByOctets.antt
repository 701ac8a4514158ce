-- Up to AUTH, reading the client's data octets line by line is reading them octet by octet, for any line rules.
use mathlib.Core.Path.{◌≡◌, refl, sym, ap, ◌∙◌}
use mathlib.Core.Bool.{Bool, true, false}
use mathlib.Core.List.{List, [], ◌∷◌, ◌++◌, append-nil, append_assoc}
use Prim.Native.Nat.{ℕ, suc, ◌≤◌, ◌<◌}
use native.Mathlib.Omega.{arith}
use lib.Dec.{eqb, ltb, lit≤}
use lib.ListN.{length, length-append}
use lib.Seq.{take-append-le}
use borrow.Author.Tests.{eqb-false, ltb-true, ltb-false, lt-ltb, le-ltb, eq-eqb, ne_eqb}
use Rattle.rules.specs.Octets.{lf, choose}
use Rattle.rules.specs.Lines.{judged, is_whole, starts_auth, passed, unchanged}
use Rattle.rules.specs.Replies.{is_auth}
use Rattle.rules.specs.Edition.{ClientLine, LineRules}
use Rattle.rules.specs.ToServer.{
  Text,
  as_lines,
  onto_text,
  onto_line,
  long_owes,
  finished_line,
  unfinished_line,
  read_lines,
  read_to_server,
}
use Rattle.rules.specs.ToClient.{
  Place,
  in_line,
  passing,
  ended,
  ClientStep,
  fresh_client,
  place_after,
  finishes,
  joins,
  client_octet,
  line_octet_gives,
  held,
}
use Rattle.rules.specs.Items.{line_end_gives, client_gives}
use Rattle.rules.specs.declared.Kind.{Kind}
use Rattle.octets.proofs.Passed.{passed-append}
use Rattle.readings.specs.ByOctets.{Client, standing, by_octets, if_in_line, auth_from}

-- ---- the judged length

pub six : 6 ≤ judged
unfolding judged
six = lit≤ tt

pub whole : (l : List ℕ) → length l < judged → is_whole l ≡ true
unfolding is_whole
whole l h = lt-ltb (length l) judged h

pub long : (l : List ℕ) → judged ≤ length l → is_whole l ≡ false
unfolding is_whole
long l h = le-ltb (length l) judged h

pub whole-lt : (l : List ℕ) → is_whole l ≡ true → length l < judged
unfolding is_whole
whole-lt l e = ltb-true (length l) judged e

pub long-le : (l : List ℕ) → is_whole l ≡ false → judged ≤ length l
unfolding is_whole
long-le l e = ltb-false (length l) judged e

pub whole-nil : is_whole [] ≡ true
whole-nil = whole [] (omega (arith, six))

pub length-snoc : (l : List ℕ) (x : ℕ) → length (l ++ (x ∷ [])) ≡ suc (length l)
length-snoc l x = simp length-append (omega arith)

pub grows : (k l : List ℕ) → judged ≤ length k → judged ≤ length (k ++ l)
grows k l h = simp length-append (omega arith)

-- a line's first five octets are there long before it flows
pub starts : (k l : List ℕ) → 5 ≤ length k → starts_auth (k ++ l) ≡ starts_auth k
unfolding starts_auth
starts k l h = rw (take-append-le 5 k l h)

-- ---- texts that begin with octets other than LF

abbrev pub NoLf : List ℕ → Type 0
NoLf [] = Unit {0}
NoLf (x ∷ xs) = (eqb x lf ≡ false) × NoLf xs

pub no_lf-snoc : (h : List ℕ) (x : ℕ) → NoLf h → eqb x lf ≡ false → NoLf (h ++ (x ∷ []))
no_lf-snoc [] x n e = (e, tt)
no_lf-snoc (y ∷ h) x n e = (n.0, no_lf-snoc h x n.1 e)

-- octets put in front of the first line
unfoldable pub lead : List ℕ → List (List ℕ) → List ℕ → Text
lead h [] t = record { lines = []; rest = h ++ t }
lead h (l ∷ ls) t = record { lines = (h ++ l) ∷ ls; rest = t }

lead-nil : (ls : List (List ℕ)) (t : List ℕ) → record { lines = ls; rest = t } ≡ lead [] ls t
unfolding lead
lead-nil [] t = refl
lead-nil (l ∷ ls) t = refl

lead-cons : (x : ℕ) (h : List ℕ) (ls : List (List ℕ)) (t : List ℕ) → onto_text false x (lead h ls t) ≡ lead (x ∷ h) ls t
unfolding lead onto_text onto_line
lead-cons x h [] t = refl
lead-cons x h (l ∷ ls) t = refl

pub as_lines-lead : (h ys : List ℕ) → NoLf h → as_lines (h ++ ys) ≡ lead h (as_lines ys).lines (as_lines ys).rest
unfolding as_lines
as_lines-lead [] ys n = lead-nil (as_lines ys).lines (as_lines ys).rest
as_lines-lead (x ∷ h) ys n = rw (n.0, as_lines-lead h ys n.1) (lead-cons x h (as_lines ys).lines (as_lines ys).rest)

pub lines_at : (x : ℕ) (xs : List ℕ) (b : Bool) → eqb x lf ≡ b → as_lines (x ∷ xs) ≡ onto_text b x (as_lines xs)
unfolding as_lines
lines_at x xs b p = rw p

pub line-text : (h : List ℕ) (x : ℕ) (xs : List ℕ) → NoLf h → eqb x lf ≡ true
    → as_lines (h ++ (x ∷ xs)) ≡ record { lines = h ∷ (as_lines xs).lines; rest = (as_lines xs).rest }
unfolding onto_text lead
line-text h x xs n p = as_lines-lead h (x ∷ xs) n ∙ rw (lines_at x xs true p, append-nil h)

unfinished-long : (l : List ℕ) (e : Bool) → judged ≤ length l → unfinished_line l e ≡ passed l
unfolding unfinished_line choose
unfinished-long l e h = rw (long l h)

nothing-either : (b : Bool) → [] ≡ choose {A = List ℕ} b [] []
unfolding choose
nothing-either true = refl
nothing-either false = refl

unfinished-whole : (l : List ℕ) (e : Bool) → is_whole l ≡ true → unfinished_line l e ≡ choose e (passed l) []
unfolding unfinished_line choose
unfinished-whole l e q = rw q

module _ (rules : LineRules) where
  pub finished-whole : (st : rules.LineState) (l : List ℕ) → length l < judged → finished_line rules st l ≡ rules.client_line st l
  unfolding finished_line choose
  finished-whole st l h = rw (whole l h)

  pub finished-long : (st : rules.LineState) (l : List ℕ) → judged ≤ length l
      → finished_line rules st l ≡ record { to_server = unchanged l; owes = long_owes (starts_auth l); after = st }
  unfolding finished_line choose
  finished-long st l h = rw (long l h)

  -- ---- what is still to go to the server, from a place of the client's side

  abbrev read_text : rules.LineState → Text → Bool → List ℕ
  read_text st t e = read_lines rules st t.lines t.rest e

  -- from within a line that flows
  flow_read : rules.LineState → List (List ℕ) → List ℕ → Bool → List ℕ
  flow_read st [] t e = passed t
  flow_read st (l ∷ ls) t e = passed l ++ (lf ∷ read_lines rules st ls t e)

  rest_of : rules.LineState → Place → List ℕ → Bool → List ℕ
  rest_of st (in_line l) xs e = choose (is_whole l) (read_text st (as_lines (l ++ xs)) e) (flow_read st (as_lines xs).lines (as_lines xs).rest e)
  rest_of st passing xs e = xs
  rest_of st ended xs e = []

  -- the client has not ended; an unfinished line has no LF, and does not flow if it is AUTH
  abbrev pub Ok : Place → Type 0
  Ok (in_line l) = NoLf l × (judged ≤ length l → starts_auth l ≡ false)
  Ok passing = Unit {0}
  Ok ended = ⊥

  -- octets go no further than to AUTH
  abbrev UpToAuth : Client rules → List ℕ → Type 0
  UpToAuth c xs = length xs ≤ auth_from rules c xs

  nothing-more : (st : rules.LineState) (xs : List ℕ) → UpToAuth (standing rules st passing) xs → xs ≡ []
  unfolding auth_from
  nothing-more st [] h = refl
  nothing-more st (x ∷ xs) h = absurd (omega (arith, h))

  rest-empty : (st : rules.LineState) (xs : List ℕ) (e : Bool) → rest_of st (in_line []) xs e ≡ read_text st (as_lines xs) e
  unfolding rest_of choose
  rest-empty st xs e = rw whole-nil

  rest-whole : (st : rules.LineState) (l xs : List ℕ) (e : Bool) → length l < judged → rest_of st (in_line l) xs e ≡ read_text st (as_lines (l ++ xs)) e
  unfolding rest_of choose
  rest-whole st l xs e h = rw (whole l h)

  rest-long : (st : rules.LineState) (l xs : List ℕ) (e : Bool) → judged ≤ length l → rest_of st (in_line l) xs e ≡ flow_read st (as_lines xs).lines (as_lines xs).rest e
  unfolding rest_of choose
  rest-long st l xs e h = rw (long l h)

  -- after a line's judgement
  after_line : ClientLine rules.LineState → List (List ℕ) → List ℕ → Bool → List ℕ
  after_line j ls t e = j.to_server ++ read_lines rules j.after ls t e

  read_lines-cons : (st : rules.LineState) (l : List ℕ) (ls : List (List ℕ)) (t : List ℕ) (e : Bool)
      → read_lines rules st (l ∷ ls) t e ≡ after_line (finished_line rules st l) ls t e
  unfolding read_lines after_line
  read_lines-cons st l ls t e = refl

  rest-passing : (st : rules.LineState) (xs : List ℕ) (e : Bool) → rest_of st passing xs e ≡ xs
  unfolding rest_of
  rest-passing st xs e = refl

  rest-nil : (st : rules.LineState) (l : List ℕ) (e : Bool) → NoLf l → read_text st (as_lines (l ++ [])) e ≡ unfinished_line l e
  unfolding lead as_lines read_lines
  rest-nil st l e n = rw (as_lines-lead l [] n, append-nil l)

  -- behind AUTH there is nothing
  read-nothing : (st : rules.LineState) (e : Bool) → read_text st (as_lines []) e ≡ []
  unfolding passed
  read-nothing st e = rest-nil st [] e tt ∙ unfinished-whole [] e whole-nil ∙ sym (nothing-either e)

  place-line : (j : ClientLine rules.LineState) (a : Bool) (xs : List ℕ) (e : Bool)
      → UpToAuth (standing rules j.after (choose a passing (in_line []))) xs
      → after_line j (as_lines xs).lines (as_lines xs).rest e ≡ j.to_server ++ rest_of j.after (choose a passing (in_line [])) xs e
  unfolding after_line choose
  place-line j true xs e up = rw (nothing-more j.after xs up, read-nothing j.after e, rest-passing j.after [] e)
  place-line j false xs e up = rw (rest-empty j.after xs e)

  -- the first octets of a line flow: it gives itself
  long-lead : (st : rules.LineState) (k : List ℕ) (ls : List (List ℕ)) (t : List ℕ) (e : Bool) → judged ≤ length k
      → read_text st (lead k ls t) e ≡ passed k ++ flow_read st ls t e
  unfolding lead read_lines flow_read
  long-lead st k [] t e h = unfinished-long (k ++ t) e (grows k t h) ∙ passed-append k t
  long-lead st k (l ∷ ls) t e h = rw (finished-long st (k ++ l) (grows k l h), passed-append k l) (simp append_assoc)

  long-text : (st : rules.LineState) (k xs : List ℕ) (e : Bool) → NoLf k → judged ≤ length k
      → read_text st (as_lines (k ++ xs)) e ≡ passed k ++ flow_read st (as_lines xs).lines (as_lines xs).rest e
  long-text st k xs e n h = rw (as_lines-lead k xs n, long-lead st k (as_lines xs).lines (as_lines xs).rest e h)

  -- ---- one octet

  -- what is to go from a place is what an octet gives and what is to go from the place after it, up to AUTH
  abbrev Goes : List ℕ → Bool → List ℕ → List ℕ → ClientStep rules.LineState → Type 0
  Goes xs e all gives j = UpToAuth j.state xs → all ≡ gives ++ rest_of j.state.line_state j.state.place xs e

  module _ (st : rules.LineState) (xs : List ℕ) (e : Bool) where
    at-end : (l : List ℕ) (x : ℕ) → NoLf l → length l < judged → eqb x lf ≡ true
        → Goes xs e (rest_of st (in_line l) (x ∷ xs) e) (line_end_gives rules st l) (finishes (finished_line rules st l))
    unfolding line_end_gives finishes choose
    at-end l x n k p up =
        rest-whole st l (x ∷ xs) e k
        ∙ rw (line-text l x xs n p, read_lines-cons st l (as_lines xs).lines (as_lines xs).rest e, finished-whole st l k, whole l k)
        (place-line (rules.client_line st l) (is_auth (rules.client_line st l).owes) xs e (rw (finished-whole st l k) at up))

    flow-onto : (x : ℕ) (ls : List (List ℕ)) (t : List ℕ)
        → flow_read st (onto_line x ls t).lines (onto_line x ls t).rest e ≡ passed (x ∷ []) ++ flow_read st ls t e
    unfolding onto_line flow_read
    flow-onto x [] t = passed-append (x ∷ []) t
    flow-onto x (l ∷ ls) t = rw (passed-append (x ∷ []) l) (append_assoc (passed (x ∷ [])) (passed l) _)

    -- the LF of a flowing line
    at-flow-end : (l : List ℕ) (x : ℕ) → judged ≤ length l → starts_auth l ≡ false → eqb x lf ≡ true
        → Goes xs e (rest_of st (in_line l) (x ∷ xs) e) (line_end_gives rules st l) (finishes (finished_line rules st l))
    unfolding line_end_gives finishes choose onto_text flow_read long_owes passed
    at-flow-end l x k a p up =
        rest-long st l (x ∷ xs) e k
        ∙ rw (lines_at x xs true p, finished-long st l k, long l k, a, rest-empty st xs e)

    -- another octet of a flowing line
    at-flow : (l : List ℕ) (x : ℕ) → judged ≤ length l → eqb x lf ≡ false
        → Goes xs e (rest_of st (in_line l) (x ∷ xs) e) (line_octet_gives (l ++ (x ∷ [])) x) (joins st (l ++ (x ∷ [])))
    unfolding line_octet_gives joins choose onto_text
    at-flow l x k p up =
        let more : judged ≤ length (l ++ (x ∷ [])) = grows l (x ∷ []) k in
        let over : eqb (length (l ++ (x ∷ []))) judged ≡ false = ne_eqb _ judged (λ q. omega (arith, length-snoc l x)) in
        rest-long st l (x ∷ xs) e k
        ∙ rw (lines_at x xs false p, long (l ++ (x ∷ [])) more, over, rest-long st (l ++ (x ∷ [])) xs e more)
        (flow-onto x (as_lines xs).lines (as_lines xs).rest)

    -- the octet that lets a line go
    lets_go : (k : List ℕ) (x : ℕ) → NoLf k → length k ≡ judged → (a : Bool) → starts_auth k ≡ a
        → Goes xs e (read_text st (as_lines (k ++ xs)) e) (line_octet_gives k x) (joins st k)
    unfolding line_octet_gives joins choose
    lets_go k x n h true p up =
        let none : xs ≡ [] = nothing-more st xs (rw (eq-eqb (length k) judged h, p) at up) in
        rw (none, long k (omega arith), eq-eqb (length k) judged h, p, rest-passing st [] e)
        (rest-nil st k e n ∙ unfinished-long k e (omega arith) ∙ sym (append-nil (passed k)))
    lets_go k x n h false p up =
        rw (long-text st k xs e n (omega arith), p, long k (omega arith), eq-eqb (length k) judged h, rest-long st k xs e (omega arith))

    keeps : (k : List ℕ) (x : ℕ) → length k < judged → Goes xs e (read_text st (as_lines (k ++ xs)) e) (line_octet_gives k x) (joins st k)
    unfolding line_octet_gives joins choose
    keeps k x h up = rw (whole k h, ne_eqb (length k) judged (λ q. omega arith), rest-whole st k xs e h)

    kept_or_not : (k : List ℕ) (x : ℕ) → NoLf k → length k ≤ judged → (b : Bool) → ltb (length k) judged ≡ b
        → Goes xs e (read_text st (as_lines (k ++ xs)) e) (line_octet_gives k x) (joins st k)
    kept_or_not k x n h true p up = keeps k x (ltb-true (length k) judged p) up
    kept_or_not k x n h false p up = lets_go k x n (omega (arith, ltb-false (length k) judged p)) (starts_auth k) refl up

    at-octet : (l : List ℕ) (x : ℕ) → NoLf l → length l < judged → eqb x lf ≡ false
        → Goes xs e (rest_of st (in_line l) (x ∷ xs) e) (line_octet_gives (l ++ (x ∷ [])) x) (joins st (l ++ (x ∷ [])))
    at-octet l x n k p up =
        rest-whole st l (x ∷ xs) e k
        ∙ rw (← (append_assoc l (x ∷ []) xs))
        (kept_or_not (l ++ (x ∷ [])) x (no_lf-snoc l x n p) (omega (arith, length-snoc l x)) (ltb (length (l ++ (x ∷ []))) judged) refl up)

    in-line : (l : List ℕ) (x : ℕ) → Ok (in_line l) → (w b : Bool) → is_whole l ≡ w → eqb x lf ≡ b
        → Goes xs e (rest_of st (in_line l) (x ∷ xs) e)
        (choose b (line_end_gives rules st l) (line_octet_gives (l ++ (x ∷ [])) x)) (choose b (finishes (finished_line rules st l)) (joins st (l ++ (x ∷ []))))
    unfolding choose
    in-line l x k true true q p up = at-end l x k.0 (whole-lt l q) p up
    in-line l x k true false q p up = at-octet l x k.0 (whole-lt l q) p up
    in-line l x k false true q p up = at-flow-end l x (long-le l q) (k.1 (long-le l q)) p up
    in-line l x k false false q p up = at-flow l x (long-le l q) p up

    at_place : (p : Place) (x : ℕ) → Ok p → Goes xs e (rest_of st p (x ∷ xs) e) (client_gives rules st p x) (client_octet rules st p x)
    unfolding client_gives client_octet rest_of
    at_place (in_line l) x k up = in-line l x k (is_whole l) (eqb x lf) refl refl up
    at_place passing x k up = refl
    at_place ended x k up = absurd k

  -- ---- the places stay well formed

  pub ok-empty : Ok (in_line [])
  ok-empty = (tt, λ h. absurd (empty-short h))
    where
      empty-short : judged ≤ 0 → ⊥
      empty-short h = omega (arith, six)

  ok-after : (k : Kind) → Ok (place_after k)
  unfolding choose
  ok-after Kind.Plain = ok-empty
  ok-after Kind.TranslatedEpsv = ok-empty
  ok-after (Kind.Own a) = ok-empty
  ok-after Kind.Auth = tt

  ok-joins : (st : rules.LineState) (l : List ℕ) → NoLf l → (b a : Bool) → eqb (length l) judged ≡ b → starts_auth l ≡ a
      → (judged < length l → starts_auth l ≡ false) → Ok (joins st l).state.place
  unfolding joins choose
  ok-joins st l n true true p q f = rw (p, q) tt
  ok-joins st l n true false p q f = rw (p, q) (n, λ h. q)
  ok-joins st l n false a p q f = rw p (n, λ h. f (omega (arith, eqb-false (length l) judged p)))

  ok-line : (st : rules.LineState) (l : List ℕ) (x : ℕ) → Ok (in_line l) → (b : Bool) → eqb x lf ≡ b
      → Ok (choose b (finishes (finished_line rules st l)) (joins st (l ++ (x ∷ [])))).state.place
  unfolding choose finishes
  ok-line st l x k true p = ok-after (finished_line rules st l).owes
  ok-line st l x k false p =
      ok-joins st (l ++ (x ∷ [])) (no_lf-snoc l x k.0 p) (eqb (length (l ++ (x ∷ []))) judged) (starts_auth (l ++ (x ∷ []))) refl refl
      (λ h. let j : judged ≤ length l = omega (arith, length-snoc l x) in starts l (x ∷ []) (omega (arith, six)) ∙ k.1 j)

  pub ok-place : (st : rules.LineState) (p : Place) (x : ℕ) → Ok p → Ok (client_octet rules st p x).state.place
  unfolding client_octet
  ok-place st (in_line l) x k = ok-line st l x k (eqb x lf) refl
  ok-place st passing x k = tt
  ok-place st ended x k = absurd k

  -- ---- nothing more comes

  rest-line : (st : rules.LineState) (l : List ℕ) (e w : Bool) → NoLf l → is_whole l ≡ w
      → rest_of st (in_line l) [] e ≡ choose e (passed (choose w l [])) []
  unfolding choose flow_read as_lines passed
  rest-line st l e true n q = rest-whole st l [] e (whole-lt l q) ∙ rest-nil st l e n ∙ unfinished-whole l e q
  rest-line st l true false n q = rest-long st l [] true (long-le l q)
  rest-line st l false false n q = rest-long st l [] false (long-le l q)

  rest_end : (st : rules.LineState) (p : Place) (e : Bool) → Ok p → rest_of st p [] e ≡ choose e (passed (held p)) []
  unfolding held rest_of passed
  rest_end st (in_line l) e k = rest-line st l e (is_whole l) k.0 refl
  rest_end st passing e k = nothing-either e
  rest_end st ended e k = absurd k

  -- ---- the whole text

  up_next : (c : Client rules) (x : ℕ) (xs : List ℕ) → UpToAuth c (x ∷ xs) → UpToAuth (client_octet rules c.line_state c.place x).state xs
  unfolding auth_from
  up_next c x xs h = fewer c.place h
    where
      fewer : {n m : ℕ} (p : Place) → suc n ≤ if_in_line p m → n ≤ m
      fewer (in_line l) h = omega (arith, h)
      fewer passing h = absurd (omega (arith, h))
      fewer ended h = absurd (omega (arith, h))

  rest : (c : Client rules) (xs : List ℕ) (e : Bool) → Ok c.place → UpToAuth c xs
      → rest_of c.line_state c.place xs e ≡ by_octets rules c xs e
  unfolding by_octets
  rest c [] e k up = rest_end c.line_state c.place e k
  rest c (x ∷ xs) e k up =
      let next : Client rules = (client_octet rules c.line_state c.place x).state in
      at_place c.line_state xs e c.place x k (up_next c x xs up)
      ∙ ap (λ (l : List ℕ). client_gives rules c.line_state c.place x ++ l)
      (rest next xs e (ok-place c.line_state c.place x k) (up_next c x xs up))

  -- line by line is octet by octet, of octets that go no further than to AUTH
  pub lines-octets : (st : rules.LineState) (d : List ℕ) (at_end : Bool) → length d ≤ auth_from rules (fresh_client st) d
      → read_to_server rules st d at_end ≡ by_octets rules (fresh_client st) d at_end
  unfolding read_to_server
  lines-octets st d at_end up = sym (rest-empty st d at_end) ∙ rest (fresh_client st) d at_end ok-empty up
