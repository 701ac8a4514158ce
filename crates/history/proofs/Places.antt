-- Where a direction of the record stands and where the reading has it, and one octet's effect on both.
use Rattle.std.specs.Prelude.{Option}
use Rattle.std.specs.Prelude.{None, Some}
use mathlib.Core.Path.{◌≡◌, refl, sym, ap, ◌∙◌}
use mathlib.Core.Bool.{Bool, true, false}
use mathlib.Core.List.{List, [], ◌∷◌, ◌++◌}
use Prim.Native.Nat.{ℕ, ◌+◌, ◌-◌, ◌≤◌, ◌<◌}
use native.Mathlib.Omega.{arith}
use native.Mathlib.Numerals.{add-one}
use lib.Dec.{eqb, ltb}
use lib.ListN.{length, take, drop, set, length-set}
use lib.Seq.{take-suc-set, length-take-le, take-append-le, take-take}
use borrow.Author.Tests.{eqb-true, ltb-true, ltb-false, eq-eqb, ne_eqb}
use Rattle.rules.specs.Octets.{lf, choose}
use Rattle.rules.specs.Lines.{judged, starts_auth, passed, unchanged, content}
use Rattle.rules.specs.Telnet.{unfinished_in}
use Rattle.rules.specs.Commands.{command, command_owes, command_switches}
use Rattle.rules.specs.Replies.{is_auth, is_open, reply_line, passive_reply, foreign}
use Rattle.rules.specs.Edition.{ClientLine, LineRules}
use Rattle.rules.specs.ToServer.{finished_line, long_owes}
use Rattle.rules.specs.ToClient.{
  Place as Reading,
  in_line,
  passing as read_passing,
  ended as read_ended,
  ClientStep,
  finishes,
  joins,
  client_octet,
  ServerStep,
  final_line_gives,
  whole_line_gives,
  classed_by,
  server_line,
  line_octet_gives,
  line_octet,
  server_octet,
  held,
  flows_or_ended as read_flows_or_ended,
  passes_from_now as read_passes_from_now,
  is_in_line,
  let_go,
}
use Rattle.rules.specs.declared.Telnet.{Telnet}
use Rattle.rules.specs.declared.Switches.{Switches}
use Rattle.rules.specs.declared.Kind.{Kind}
use Rattle.rules.specs.declared.Command.{Command}
use Rattle.rules.specs.declared.ReplyLine.{ReplyLine}
use Rattle.rules.specs.declared.PassiveReply.{PassiveReply}
use Rattle.octets.proofs.Choices.{either}
use Rattle.places.specs.declared.Place.{Place}
use Rattle.gives.specs.declared.Gives.{Gives}
use Rattle.upstream.specs.declared.ClientEffect.{ClientEffect}
use Rattle.downstream.specs.declared.ServerEffect.{ServerEffect}
use Rattle.gives.specs.Text.{gives_text}
use Rattle.places.specs.Places.{at, is_in_lines, is_flowing_or_ended, direction_from_now}
use Rattle.upstream.specs.Upstream.{command_effect, judged_effect, join_effect, place_effect, client_effect_of}
use Rattle.downstream.specs.Downstream.{passive_effect, kind_effect, head_effect, line_gives, whole_line, flowing_line, reply_octet, reply_effect}
use Rattle.rules.specs.declared.Fixed.{Fixed}
use Rattle.steps.specs.Steps.{stored}
use Rattle.rules.specs.Items.{line_end_gives, client_gives}
use Rattle.octets.proofs.Passed.{passed-append}
use Rattle.readings.proofs.ByOctets.{
  six,
  whole,
  long,
  length-snoc,
  grows,
  starts,
  finished-whole,
  finished-long,
}
use Rattle.history.proofs.Queue.{first_of, owes_list, removes-drop}

-- ---- the relation

-- place, held count and array of a direction, and its place in the reading. `Kept` says what array and line still share when the line flows
pub data Stands (Kept : List ℕ → List ℕ → Type 0) : Place → ℕ → List ℕ → Reading → Type 0 where
  holding : {n : ℕ} {line : List ℕ} → n < judged → Stands Kept Place.Holding n line (in_line (take n line))
  flowing : {line l : List ℕ} → judged ≤ length l → Kept line l → Stands Kept Place.Flowing 0 line (in_line l)
  passing : {line : List ℕ} → Stands Kept Place.Passing 0 line read_passing
  ended : {line : List ℕ} → Stands Kept Place.Ended 0 line read_ended

-- the client's flowing line is no AUTH
abbrev pub NoAuth : List ℕ → List ℕ → Type 0
NoAuth line l = starts_auth l ≡ false

-- the array has the first octets of the server's flowing line
abbrev pub FirstFour : List ℕ → List ℕ → Type 0
FirstFour line l = take 4 line ≡ take 4 l

-- the length of the arrays
abbrev pub Full : List ℕ → Type 0
Full line = length line ≡ judged - 1

module _ {Kept : List ℕ → List ℕ → Type 0} where
  -- a line begins
  pub begins : (line : List ℕ) → Stands Kept Place.Holding 0 line (in_line [])
  begins line = holding {n = 0} {line = line} (omega (arith, six))

  -- one more octet is held
  pub held_more : (line : List ℕ) (n x : ℕ) → Full line → n + 1 < judged → Stands Kept Place.Holding (n + 1) (set line n x) (in_line (take n line ++ (x ∷ [])))
  held_more line n x f h =
      let put : take (n + 1) (set line n x) ≡ take n line ++ (x ∷ []) = rw (add-one n) (take-suc-set line n x (omega arith)) in
      let now : Stands Kept Place.Holding (n + 1) (set line n x) (in_line (take (n + 1) (set line n x))) = holding h in
      rw put at now

  -- the held octets
  pub held-octets : {p : Place} {n : ℕ} {line : List ℕ} {q : Reading} → Stands Kept p n line q → Full line → take n line ≡ held q
  unfolding held choose
  held-octets (holding {n = n} {line = line} h) f = rw (whole (take n line) (omega (arith, length-take-le n line (omega arith))))
  held-octets (flowing {l = l} k g) f = rw (long l k)
  held-octets passing f = refl
  held-octets ended f = refl

  pub flows-or-ended : {p : Place} {n : ℕ} {line : List ℕ} {q : Reading} → Stands Kept p n line q → Full line → is_flowing_or_ended p ≡ read_flows_or_ended q
  unfolding is_flowing_or_ended read_flows_or_ended
  flows-or-ended (holding {n = n} {line = line} h) f = rw (whole (take n line) (omega (arith, length-take-le n line (omega arith))))
  flows-or-ended (flowing {l = l} k g) f = rw (long l k)
  flows-or-ended passing f = refl
  flows-or-ended ended f = refl

  pub in_lines : {p : Place} {n : ℕ} {line : List ℕ} {q : Reading} → Stands Kept p n line q → is_in_lines p ≡ is_in_line q
  in_lines (holding h) = refl
  in_lines (flowing k g) = refl
  in_lines passing = refl
  in_lines ended = refl

  -- what an end or the AUTH step lets go
  pub let-go : {p : Place} {n : ℕ} {line : List ℕ} {q : Reading} → Stands Kept p n line q → Full line → (t : Telnet)
      → passed (take n line) ++ unfinished_in (is_in_lines p) t ≡ let_go q t
  let-go stands full t = rw (held-octets stands full, in_lines stands)

  -- all octets pass from now on
  pub passes_on : {p : Place} {n : ℕ} {line : List ℕ} {q : Reading} → Stands Kept p n line q
      → Stands Kept (direction_from_now (at p n) p).place (direction_from_now (at p n) p).held line (read_passes_from_now q)
  passes_on (holding h) = passing
  passes_on (flowing k g) = passing
  passes_on passing = passing
  passes_on ended = ended

-- the line with which an octet is its last one
abbrev joined : List ℕ → ℕ → ℕ → List ℕ
joined line n x = take n line ++ (x ∷ [])

length-joined : (line : List ℕ) (n x : ℕ) → Full line → n < judged → length (joined line n x) ≡ n + 1
length-joined line n x f h = length-snoc (take n line) x ∙ rw (length-take-le n line (omega arith)) (omega arith)

-- what it lets go
passed-joined : (line : List ℕ) (n x : ℕ) → passed (take n line) ++ passed (x ∷ []) ≡ passed (joined line n x)
passed-joined line n x = sym (passed-append (take n line) (x ∷ []))

-- ---- line rules that the session's own page follows

-- what a line judged whole gives, owes and leaves, and what a line that ends a final reply becomes.
-- `Tied` is a relation that the proofs of lines, queue and offsets only hand on, so that the rules' state may hold more than
-- the record's switches, such as ports that are still to be granted, or less
pub record Agrees (f : Fixed) (rules : LineRules) : Type 1 where
  pub Tied : Switches → rules.LineState → Type 0
  pub gives : (sw : Switches) (st : rules.LineState) → Tied sw st → (l : List ℕ)
      → gives_text f l lf (command_effect (command f sw l)) ≡ (rules.client_line st l).to_server
  pub owes : (sw : Switches) (st : rules.LineState) → Tied sw st → (l : List ℕ)
      → command_owes (command f sw l) ≡ (rules.client_line st l).owes
  pub after : (sw : Switches) (st : rules.LineState) → Tied sw st → (l : List ℕ)
      → Tied (command_switches sw (command f sw l)) (rules.client_line st l).after
  pub final : (k : Kind) (l : List ℕ) → gives_text f l lf (kind_effect f k (content l)) ≡ rules.final_line k l

-- ---- one octet

-- its effect on the record, and what it gives and does in the reading
module _ {f : Fixed} {rules : LineRules} (agree : Agrees f rules) where
  pub record ClientFits (line : List ℕ) (n x : ℕ) (e : ClientEffect) (text : List ℕ) (j : ClientStep rules.LineState)
      : Type 0 where
    pub gives : gives_text f (take n line) x e.gives ≡ text
    pub tied : agree.Tied e.switches j.state.line_state
    pub owes : owes_list e.owes ≡ j.owes
    pub full : Full (stored line n x e.gives)
    pub place : Stands NoAuth e.direction.place e.direction.held (stored line n x e.gives) j.state.place

module _ (f : Fixed) where
  pub record ServerFits (line : List ℕ) (n x : ℕ) (ks : List Kind) (e : ServerEffect) (t : ServerStep) : Type 0 where
    pub gives : gives_text f (take n line) x e.gives ≡ t.gives
    pub owed : drop e.removes ks ≡ t.state.owed
    pub opening : e.opening ≡ t.state.opening
    pub full : Full (stored line n x e.gives)
    pub place : Stands FirstFour e.direction.place e.direction.held (stored line n x e.gives) t.state.place

module _ (f : Fixed) (rules : LineRules) (agree : Agrees f rules) where
  -- ---- of the client

  stored-command : (line : List ℕ) (n x : ℕ) (k : Command) → stored line n x (command_effect k) ≡ line
  unfolding stored command_effect
  stored-command line n x Command.Passes = refl
  stored-command line n x Command.Passive = refl
  stored-command line n x (Command.Port p) = refl
  stored-command line n x (Command.Answered a) = refl
  stored-command line n x Command.Auth = refl

  after_line : (line : List ℕ) (a : Bool) → Stands NoAuth (choose a Place.Passing Place.Holding) 0 line (choose a read_passing (in_line []))
  unfolding choose
  after_line line true = passing
  after_line line false = begins line

  command-fits : (sw : Switches) (line : List ℕ) (n : ℕ) → Full line → (k : Command) (j : ClientLine rules.LineState)
      → gives_text f (take n line) lf (command_effect k) ≡ j.to_server → command_owes k ≡ j.owes
      → agree.Tied (command_switches sw k) j.after
      → ClientFits agree line n lf (judged_effect sw k) j.to_server (finishes j)
  unfolding judged_effect finishes
  command-fits sw line n full k j g o w =
      record {
        gives = g;
        tied = w;
        owes = ap (λ (i : Kind). i ∷ []) o;
        full = rw (stored-command line n lf k) full;
        place = rw (stored-command line n lf k, o) (after_line line (is_auth j.owes));
      }

  module _ (sw : Switches) (st : rules.LineState) (tied : agree.Tied sw st) where
    line-fits : (line : List ℕ) (n : ℕ) → Full line → n < judged
        → ClientFits agree line n lf (judged_effect sw (command f sw (take n line)))
        (line_end_gives rules st (take n line)) (finishes (finished_line rules st (take n line)))
    unfolding line_end_gives choose
    line-fits line n full h =
        let short : length (take n line) < judged = omega (arith, length-take-le n line (omega arith)) in
        rw (finished-whole rules st (take n line) short, whole (take n line) short)
        (command-fits sw line n full (command f sw (take n line)) (rules.client_line st (take n line))
        (agree.gives sw st tied (take n line)) (agree.owes sw st tied (take n line)) (agree.after sw st tied (take n line)))

    -- another octet, with which the line is not yet let go
    held_fits : (line : List ℕ) (n x : ℕ) → Full line → n + 1 < judged
        → ClientFits agree line n x (client_effect_of Gives.Held (at Place.Holding (n + 1)) sw None)
        (line_octet_gives (joined line n x) x) (joins st (joined line n x))
    unfolding line_octet_gives joins choose gives_text stored
    held_fits line n x full h =
        let size : length (joined line n x) ≡ n + 1 = length-joined line n x full (omega arith) in
        rw (whole (joined line n x) (omega arith), ne_eqb (length (joined line n x)) judged (λ q. omega arith))
        (record { gives = refl; tied = tied; owes = refl; full = length-set line n x ∙ full; place = held_more line n x full h })

    -- the octet that lets the line go, which may be AUTH
    go-fits : (line : List ℕ) (n x : ℕ) → Full line → length (joined line n x) ≡ judged → (a : Bool) → starts_auth (joined line n x) ≡ a
        → ClientFits agree line n x
        (choose a (client_effect_of Gives.HeldAndOctet (at Place.Passing 0) sw (Some Kind.Auth)) (client_effect_of Gives.HeldAndOctet (at Place.Flowing 0) sw None))
        (line_octet_gives (joined line n x) x) (joins st (joined line n x))
    unfolding line_octet_gives joins choose gives_text stored
    go-fits line n x full size true e =
        rw (long (joined line n x) (omega arith), eq-eqb (length (joined line n x)) judged size, e)
        (record { gives = passed-joined line n x; tied = tied; owes = refl; full = full; place = passing })
    go-fits line n x full size false e =
        let flows : judged ≤ length (joined line n x) = omega arith in
        rw (long (joined line n x) flows, eq-eqb (length (joined line n x)) judged size, e)
        (record { gives = passed-joined line n x; tied = tied; owes = refl; full = full; place = flowing flows e })

    join-fits : (line : List ℕ) (n x : ℕ) → Full line → n < judged → (b : Bool) → ltb (n + 1) judged ≡ b
        → ClientFits agree line n x (join_effect sw n (take n line)) (line_octet_gives (joined line n x) x) (joins st (joined line n x))
    unfolding join_effect choose
    join-fits line n x full h true p = rw p (held_fits line n x full (ltb-true (n + 1) judged p))
    join-fits line n x full h false p =
        let last : n + 1 ≡ judged = omega (arith, ltb-false (n + 1) judged p) in
        rw p (go-fits line n x full (length-joined line n x full h ∙ last) (starts_auth (take n line))
        (starts (take n line) (x ∷ []) (omega (arith, six, length-take-le n line (omega arith)))))

    held-octet-fits : (line : List ℕ) (n x : ℕ) → Full line → n < judged → (b : Bool) → eqb x lf ≡ b
        → ClientFits agree line n x (place_effect f sw Place.Holding n (take n line) b)
        (choose b (line_end_gives rules st (take n line)) (line_octet_gives (joined line n x) x))
        (choose b (finishes (finished_line rules st (take n line))) (joins st (joined line n x)))
    unfolding place_effect choose
    held-octet-fits line n x full h true p = rw (eqb-true x lf p) (line-fits line n full h)
    held-octet-fits line n x full h false p = join-fits line n x full h (ltb (n + 1) judged) refl

    flowing-fits : (line l : List ℕ) (x : ℕ) → Full line → judged ≤ length l → starts_auth l ≡ false → (b : Bool) → eqb x lf ≡ b
        → ClientFits agree line 0 x (place_effect f sw Place.Flowing 0 [] b)
        (choose b (line_end_gives rules st l) (line_octet_gives (l ++ (x ∷ [])) x))
        (choose b (finishes (finished_line rules st l)) (joins st (l ++ (x ∷ []))))
    unfolding place_effect choose line_end_gives finishes long_owes line_octet_gives joins gives_text stored passed
    flowing-fits line l x full k a true p =
        rw (finished-long rules st l k, long l k, a, eqb-true x lf p)
        (record { gives = refl; tied = tied; owes = refl; full = full; place = begins line })
    flowing-fits line l x full k a false p =
        let more : judged ≤ length (l ++ (x ∷ [])) = grows l (x ∷ []) k in
        rw (long (l ++ (x ∷ [])) more, ne_eqb (length (l ++ (x ∷ []))) judged (λ q. omega (arith, length-snoc l x)))
        (record { gives = refl; tied = tied; owes = refl; full = full; place = flowing more (starts l (x ∷ []) (omega (arith, six)) ∙ a) })

    pub client-fits : {p : Place} {n : ℕ} {line : List ℕ} {q : Reading} → Stands NoAuth p n line q → Full line → (x : ℕ)
        → ClientFits agree line n x (place_effect f sw p n (take n line) (eqb x lf)) (client_gives rules st q x) (client_octet rules st q x)
    unfolding client_gives client_octet place_effect gives_text stored
    client-fits (holding {n = n} {line = line} h) full x = held-octet-fits line n x full h (eqb x lf) refl
    client-fits (flowing {line = line} {l = l} k a) full x = flowing-fits line l x full k a (eqb x lf) refl
    client-fits passing full x = record { gives = refl; tied = tied; owes = refl; full = full; place = passing }
    client-fits ended full x = record { gives = refl; tied = tied; owes = refl; full = full; place = ended }

  -- ---- of the server

  stored-passive : (line : List ℕ) (n x : ℕ) (r : Option PassiveReply) → stored line n x (passive_effect f r) ≡ line
  unfolding stored passive_effect
  stored-passive line n x None = refl
  stored-passive line n x (Some r) = either (λ (g : Gives). stored line n x g ≡ line) (foreign f r.address) _ _ refl refl

  stored-first : (line : List ℕ) (n x : ℕ) (ks : List Kind) (c : List ℕ) → stored line n x (head_effect f (first_of ks) c) ≡ line
  unfolding stored head_effect kind_effect
  stored-first line n x [] c = refl
  stored-first line n x (Kind.Plain ∷ ks) c = refl
  stored-first line n x (Kind.TranslatedEpsv ∷ ks) c = stored-passive line n x (passive_reply c)
  stored-first line n x (Kind.Own a ∷ ks) c = refl
  stored-first line n x (Kind.Auth ∷ ks) c = refl

  stored-line : (line : List ℕ) (n x : ℕ) (r : ReplyLine) (u : ℕ) (ks : List Kind) (c : List ℕ) → stored line n x (line_gives f r u (first_of ks) c) ≡ line
  unfolding stored line_gives choose
  stored-line line n x (ReplyLine.Opens code) u ks c = refl
  stored-line line n x ReplyLine.Belongs u ks c = refl
  stored-line line n x ReplyLine.StandsAlone u ks c = refl
  stored-line line n x ReplyLine.Preliminary u ks c = refl
  stored-line line n x ReplyLine.Final u ks c =
      either (λ (g : Gives). stored line n x g ≡ line) (is_open u) _ _ refl (stored-first line n x ks c)

  -- what the only line of a final reply gives, or its last one
  final-gives : (h : List ℕ) (b : Bool) (k : Kind)
      → gives_text f h lf (choose b Gives.HeldAndOctet (kind_effect f k (content h))) ≡ choose b (unchanged h) (rules.final_line k h)
  unfolding gives_text choose passed
  final-gives h true k = refl
  final-gives h false k = agree.final k h

  -- what a line judged whole gives
  line_gives_lem : (h : List ℕ) (r : ReplyLine) (u : ℕ) (ks : List Kind) → gives_text f h lf (line_gives f r u (first_of ks) (content h)) ≡ whole_line_gives rules ks u h r
  unfolding line_gives head_effect whole_line_gives final_line_gives gives_text choose passed
  line_gives_lem h (ReplyLine.Opens code) u ks = refl
  line_gives_lem h ReplyLine.Belongs u ks = refl
  line_gives_lem h ReplyLine.StandsAlone u ks = refl
  line_gives_lem h ReplyLine.Preliminary u ks = refl
  line_gives_lem h ReplyLine.Final u [] = either (λ (g : Gives). gives_text f h lf g ≡ unchanged h) (is_open u) _ _ refl refl
  line_gives_lem h ReplyLine.Final u (k ∷ ks) = final-gives h (is_open u) k

  reply-line-fits : (line : List ℕ) (n : ℕ) (u : ℕ) (ks : List Kind) → Full line → n < judged
      → ServerFits f line n lf ks (whole_line f u (first_of ks) (content (take n line))) (server_line rules ks u (take n line))
  unfolding whole_line server_line classed_by choose
  reply-line-fits line n u ks full h =
      let l : List ℕ = take n line in
      let r : ReplyLine = reply_line u (content l) in
      let kept : stored line n lf (line_gives f r u (first_of ks) (content l)) ≡ line = stored-line line n lf r u ks (content l) in
      rw (whole l (omega (arith, length-take-le n line (omega arith))))
      (record {
        gives = line_gives_lem l r u ks;
        owed = removes-drop r ks;
        opening = refl;
        full = rw kept full;
        place = rw kept (begins line);
      })

  reply-octet-fits : (line : List ℕ) (n x : ℕ) (u : ℕ) (ks : List Kind) → Full line → n < judged → (b : Bool) → ltb (n + 1) judged ≡ b
      → ServerFits f line n x ks (reply_octet u n) (line_octet ks u (joined line n x) x)
  unfolding reply_octet line_octet line_octet_gives choose gives_text stored
  reply-octet-fits line n x u ks full h true p =
      let size : length (joined line n x) ≡ n + 1 = length-joined line n x full h in
      rw (p, whole (joined line n x) (omega (arith, ltb-true (n + 1) judged p)))
      (record {
        gives = refl;
        owed = refl;
        opening = refl;
        full = length-set line n x ∙ full;
        place = held_more line n x full (ltb-true (n + 1) judged p);
      })
  reply-octet-fits line n x u ks full h false p =
      let size : length (joined line n x) ≡ n + 1 = length-joined line n x full h in
      let more : judged ≤ length (joined line n x) = omega (arith, ltb-false (n + 1) judged p) in
      let four : take 4 (joined line n x) ≡ take 4 line =
      take-append-le 4 (take n line) (x ∷ []) (omega (arith, six, length-take-le n line (omega arith)))
      ∙ take-take 4 n line (omega (arith, six)) in
      rw (p, long (joined line n x) more, eq-eqb (length (joined line n x)) judged (omega arith))
      (record { gives = passed-joined line n x; owed = refl; opening = refl; full = full; place = flowing more (sym four) })

  held-reply-fits : (line : List ℕ) (n x : ℕ) (u : ℕ) (ks : List Kind) → Full line → n < judged → (b : Bool) → eqb x lf ≡ b
      → ServerFits f line n x ks (reply_effect f u (first_of ks) Place.Holding n line b) (choose b (server_line rules ks u (take n line)) (line_octet ks u (joined line n x) x))
  unfolding reply_effect choose
  held-reply-fits line n x u ks full h true p = rw (eqb-true x lf p) (reply-line-fits line n u ks full h)
  held-reply-fits line n x u ks full h false p = reply-octet-fits line n x u ks full h (ltb (n + 1) judged) refl

  flowing-reply-fits : (line l : List ℕ) (x : ℕ) (u : ℕ) (ks : List Kind) → Full line → judged ≤ length l → FirstFour line l → (b : Bool) → eqb x lf ≡ b
      → ServerFits f line 0 x ks (reply_effect f u (first_of ks) Place.Flowing 0 line b) (choose b (server_line rules ks u l) (line_octet ks u (l ++ (x ∷ [])) x))
  unfolding reply_effect flowing_line server_line classed_by line_octet line_octet_gives choose gives_text stored passed
  flowing-reply-fits line l x u ks full k e true p =
      rw (e, long l k, eqb-true x lf p)
      (record {
        gives = refl;
        owed = removes-drop (reply_line u (take 4 l)) ks;
        opening = refl;
        full = full;
        place = begins line;
      })
  flowing-reply-fits line l x u ks full k e false p =
      let more : judged ≤ length (l ++ (x ∷ [])) = grows l (x ∷ []) k in
      rw (long (l ++ (x ∷ [])) more, ne_eqb (length (l ++ (x ∷ []))) judged (λ q. omega (arith, length-snoc l x)))
      (record {
        gives = refl;
        owed = refl;
        opening = refl;
        full = full;
        place = flowing more (e ∙ sym (take-append-le 4 l (x ∷ []) (omega (arith, six))));
      })

  pub server-fits : (u : ℕ) (ks : List Kind) {p : Place} {n : ℕ} {line : List ℕ} {q : Reading} → Stands FirstFour p n line q → Full line → (x : ℕ)
      → ServerFits f line n x ks (reply_effect f u (first_of ks) p n line (eqb x lf)) (server_octet rules q ks u x)
  unfolding server_octet reply_effect gives_text stored
  server-fits u ks (holding {n = n} {line = line} h) full x = held-reply-fits line n x u ks full h (eqb x lf) refl
  server-fits u ks (flowing {line = line} {l = l} k e) full x = flowing-reply-fits line l x u ks full k e (eqb x lf) refl
  server-fits u ks passing full x = record { gives = refl; owed = refl; opening = refl; full = full; place = passing }
  server-fits u ks ended full x = record { gives = refl; owed = refl; opening = refl; full = full; place = ended }
