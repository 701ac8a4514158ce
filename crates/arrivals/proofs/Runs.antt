-- A run is its octets: what `takes` makes of octets that pass, flow or are held, in one part.
use mathlib.Core.Path.{◌≡◌, refl, sym, ap, subst, ◌∙◌}
use mathlib.Core.Bool.{Bool, true, false, false≢true}
use mathlib.Core.List.{List, [], ◌∷◌, ◌++◌, append_assoc}
use Prim.Native.Nat.{ℕ, suc, ◌+◌, ◌-◌, ◌<◌, ◌≤◌}
use native.Mathlib.Nat.{add-zero, sub-zero}
use native.Mathlib.Numerals.{add-one}
use native.Mathlib.Omega.{arith}
use lib.Dec.{eqb}
use lib.ListN.{length, take, drop, set, length-append, length-set}
use lib.Seq.{set_split}
use borrow.Author.Tests.{le-leb, not-true}
use Rattle.rules.specs.Octets.{lf, iac, choose, every, is_not}
use Rattle.rules.specs.Lines.{judged, is_ordinary}
use Rattle.rules.specs.Answers.{Side, client, server, is_queue_full, fits, stop}
use Rattle.octets.proofs.Ranges.{and_both}
use Rattle.output.specs.Buffer.{put_at}
use Rattle.output.proofs.Placing.{put-fits, put-after, nothing_put}
use Rattle.places.specs.declared.Place.{Place}
use Rattle.places.specs.declared.Direction.{Direction}
use Rattle.places.specs.Places.{at, is_passing}
use Rattle.records.specs.Sound.{direction_of}
use Rattle.rules.specs.declared.Fixed.{Fixed}
use Rattle.steps.specs.Steps.{State, Step, octet_step}
use Rattle.steps.specs.Takes.{Took, and_then, unless_stopped, stop_of, takes}
use Rattle.steps.specs.Settled.{Settled}
use Rattle.arrivals.specs.Runs.{prefixed, to_server_of, to_client_of, line_of, with_line, holding, holds_more, GivesOn, gives_nothing, gives_passing, gives_flowing}
use Rattle.steps.proofs.Through.{Clear}
use Rattle.arrivals.proofs.Single.{step_to, holding-kept, octet-passes, octet-flows, octet-held}

-- number 1 is not given for the next octet
abbrev pub Open : Side → State → Type 0
Open d s = is_queue_full d (is_passing s.control.client.place) s.control.owed ≡ false

-- ---- none, or one octet, before the rest

none_before : (r : Took) → r ≡ prefixed 0 [] [] r
none_before r =
    let count : r.taken ≡ 0 + r.taken = omega arith in
    λ i. record {
      answer = r.answer;
      taken = count i;
      to_server = r.to_server;
      to_client = r.to_client;
      state = r.state;
    }

pub one-before : (t : Step) (n : ℕ) (a b : List ℕ) (r : Took)
    → and_then t (prefixed n a b r) ≡ prefixed (suc n) (t.to_server ++ a) (t.to_client ++ b) r
one-before t n a b r =
    let count : suc (n + r.taken) ≡ suc n + r.taken = omega arith in
    λ i. record {
      answer = r.answer;
      taken = count i;
      to_server = sym (append_assoc t.to_server a r.to_server) i;
      to_client = sym (append_assoc t.to_client b r.to_client) i;
      state = r.state;
    }

module _ (f : Fixed) (d : Side) (s : State) (x : ℕ) (ys : List ℕ) (m n : ℕ) (t : Step) (e : octet_step f d s x ≡ t)
    (queue : Open d s) where
  pub one-taken : length t.to_server ≤ m → length t.to_client ≤ n
      → takes f d s (x ∷ ys) m n ≡ and_then t
      (takes f d t.state ys (m - length t.to_server) (n - length t.to_client))
  unfolding takes unless_stopped stop_of stop choose fits
  one-taken a b = rw (e, queue, le-leb (length t.to_server) m a, le-leb (length t.to_client) n b)

-- ---- octets that leave the state as it is

-- the texts of no octet, and of one before others
none-given : (d : Side) → (to_server_of d [] ≡ []) × (to_client_of d [] ≡ [])
none-given client = (refl, refl)
none-given server = (refl, refl)

module _ (x : ℕ) (xs : List ℕ) where
  one-given : (d : Side) → (to_server_of d (x ∷ xs) ≡ to_server_of d (x ∷ []) ++ to_server_of d xs)
      × (to_client_of d (x ∷ xs) ≡ to_client_of d (x ∷ []) ++ to_client_of d xs)
  one-given client = (refl, refl)
  one-given server = (refl, refl)

-- the octets xs before ys go on as they are, in one part, where there is room for them
abbrev GoOn : Fixed → Side → State → List ℕ → List ℕ → ℕ → ℕ → Type 0
GoOn f d s xs ys m n =
    length (to_server_of d xs) ≤ m → length (to_client_of d xs) ≤ n
    → takes f d s (xs ++ ys) m n
    ≡ prefixed (length xs) (to_server_of d xs) (to_client_of d xs)
    (takes f d s ys (m - length (to_server_of d xs)) (n - length (to_client_of d xs)))

module _ (f : Fixed) (d : Side) (s : State) (p : ℕ → Bool) (ys : List ℕ) (queue : Open d s)
    (step : (x : ℕ) → p x ≡ true → octet_step f d s x ≡ step_to s (to_server_of d (x ∷ [])) (to_client_of d (x ∷ []))) where
  same-run : (xs : List ℕ) (m n : ℕ) → every p xs ≡ true → GoOn f d s xs ys m n
  unfolding every
  same-run [] m n t a b =
      let none = none-given d in
      none_before (takes f d s ys m n)
      ∙ ((λ i. prefixed 0 [] [] (takes f d s ys (sym (sub-zero m) i) (sym (sub-zero n) i)))
      ∙ (λ i. prefixed 0 (sym none.0 i) (sym none.1 i)
      (takes f d s ys (m - length (sym none.0 i)) (n - length (sym none.1 i)))))
  same-run (x ∷ xs) m n t a b =
      let both = and_both (p x) (every p xs) t in
      let one = step_to s (to_server_of d (x ∷ [])) (to_client_of d (x ∷ [])) in
      let given = one-given x xs d in
      let ls = ap length given.0 ∙ length-append one.to_server (to_server_of d xs) in
      let lc = ap length given.1 ∙ length-append one.to_client (to_client_of d xs) in
      let less : m - length one.to_server - length (to_server_of d xs) ≡ m - length (to_server_of d (x ∷ xs)) = omega (arith, ls) in
      let left : n - length one.to_client - length (to_client_of d xs) ≡ n - length (to_client_of d (x ∷ xs)) = omega (arith, lc) in
      let r = takes f d s ys (m - length (to_server_of d (x ∷ xs))) (n - length (to_client_of d (x ∷ xs))) in
      one-taken f d s x (xs ++ ys) m n one (step x both.0) queue (omega (arith, ls)) (omega (arith, lc))
      ∙ (ap (and_then one)
      (same-run xs (m - length one.to_server) (n - length one.to_client) both.1 (omega (arith, ls)) (omega (arith, lc))
      ∙ (λ i. prefixed (length xs) (to_server_of d xs) (to_client_of d xs) (takes f d s ys (less i) (left i))))
      ∙ (one-before one (length xs) (to_server_of d xs) (to_client_of d xs) r
      ∙ (λ i. prefixed (suc (length xs)) (sym given.0 i) (sym given.1 i) r)))

-- a test that every octet passes
abbrev any : ℕ → Bool
any x = true

every_any : (xs : List ℕ) → every any xs ≡ true
unfolding every
every_any [] = refl
every_any (x ∷ xs) = every_any xs

-- an ordinary octet is no LF, and not 255
no-lf : (x : ℕ) → is_ordinary x ≡ true → eqb x lf ≡ false
no-lf x e = not-true (eqb x lf) (and_both (is_not lf x) (is_not iac x) e).0

no-iac : (x : ℕ) → is_ordinary x ≡ true → eqb x iac ≡ false
no-iac x e = not-true (eqb x iac) (and_both (is_not lf x) (is_not iac x) e).1

pub server-open : (s : State) → Open server s
unfolding is_queue_full
server-open s = refl

passing-open : (d : Side) (s : State) → direction_of d s.control ≡ at Place.Passing 0 → Open d s
unfolding is_queue_full
passing-open client s p = rw (ap (λ (e : Direction). e.place) p)
passing-open server s p = server-open s

-- Passing: octets for which there is room, in one part.
pub passes-run : (f : Fixed) (d : Side) (s : State) → Settled s → direction_of d s.control ≡ at Place.Passing 0
    → (xs ys : List ℕ) (m n : ℕ) → GoOn f d s xs ys m n
passes-run f d s settled p xs ys m n =
    same-run f d s any ys (passing-open d s p) (λ x _. octet-passes f s x d settled p) xs m n (every_any xs)

-- Flowing: the same of ordinary octets, while number 1 is not given and no Telnet command is unfinished.
pub flows_run : (f : Fixed) (d : Side) (s : State) → Settled s → Clear d s → direction_of d s.control ≡ at Place.Flowing 0
    → Open d s → (xs ys : List ℕ) (m n : ℕ) → every is_ordinary xs ≡ true → GoOn f d s xs ys m n
flows_run f d s settled clear p queue xs ys m n =
    same-run f d s is_ordinary ys queue (λ x e. octet-flows f s x d settled clear p (no-lf x e) (no-iac x e)) xs m n

-- a test that no octet passes
abbrev never : ℕ → Bool
never x = false

-- Whatever a direction gives on: nothing, or either.
pub gives-run : (f : Fixed) (d : Side) (s : State) → Settled s → Clear d s → Open d s → (xs ys : List ℕ) (m n : ℕ)
    → GivesOn (direction_of d s.control) xs → GoOn f d s xs ys m n
unfolding every
gives-run f d s settled clear queue xs ys m n (gives_nothing e) =
    same-run f d s never ys queue (λ x h. absurd (false≢true h)) xs m n (ap (every never) e)
gives-run f d s settled clear queue xs ys m n (gives_passing p) = passes-run f d s settled p xs ys m n
gives-run f d s settled clear queue xs ys m n (gives_flowing p t) = flows_run f d s settled clear p queue xs ys m n t

-- ordinary octets have no 255 among them
pub no-iacs : (xs : List ℕ) → every is_ordinary xs ≡ true → every (is_not iac) xs ≡ true
unfolding every
no-iacs [] e = refl
no-iacs (x ∷ xs) e =
    let both = and_both (is_ordinary x) (every is_ordinary xs) e in
    rw ((and_both (is_not lf x) (is_not iac x) both.0).1, no-iacs xs both.1)

-- ---- octets that are held

-- one octet stored before others are put
put-more : (line : List ℕ) (k x : ℕ) (xs : List ℕ) → k + length (x ∷ xs) ≤ length line
    → put_at (set line k x) (k + 1) xs ≡ put_at line k (x ∷ xs)
put-more line k x xs h =
    let put : set line k x ≡ put_at line k (x ∷ []) =
    set_split line k x (omega arith) ∙ ap (λ (j : ℕ). take k line ++ (x ∷ drop j line)) (sym (add-one k))
    ∙ sym (put-fits line k (x ∷ []) (omega arith)) in
    ap (λ (l : List ℕ). put_at l (k + 1) xs) put ∙ put-after line k (x ∷ []) xs h

holding-open : (d : Side) (s : State) (k n : ℕ) (line line' : List ℕ) → Open d (holding d s k line) → Open d (holding d s n line')
holding-open client s k n line line' queue = queue
holding-open server s k n line line' queue = queue

-- by the number of octets held and the array, which change; s is any state with the rest of the record
module _ (f : Fixed) (d : Side) (s : State) (clear : Clear d s) (ys : List ℕ) (m n : ℕ) where
  hold-run : (xs : List ℕ) (k : ℕ) (line : List ℕ) → Settled (holding d s k line) → Open d (holding d s k line)
      → every is_ordinary xs ≡ true → k + length xs < judged → k + length xs ≤ length line
      → takes f d (holding d s k line) (xs ++ ys) m n
      ≡ prefixed (length xs) [] [] (takes f d (holding d s (k + length xs) (put_at line k xs)) ys m n)
  unfolding every
  hold-run [] k line settled queue t h g =
      none_before (takes f d (holding d s k line) ys m n)
      ∙ (λ i. prefixed 0 [] [] (takes f d (holding d s (sym (add-zero k) i) ((nothing_put line k).1 i)) ys m n))
  hold-run (x ∷ xs) k line settled queue t h g =
      let both = and_both (is_ordinary x) (every is_ordinary xs) t in
      let next = holding d s (k + 1) (set line k x) in
      let rest = hold-run xs (k + 1) (set line k x) (holding-kept d s k (k + 1) line (set line k x) settled)
      (holding-open d s k (k + 1) line (set line k x) queue) both.1 (omega arith) (omega (arith, length-set line k x)) in
      let more : k + 1 + length xs ≡ k + suc (length xs) = omega arith in
      let r = takes f d (holding d s (k + suc (length xs)) (put_at line k (x ∷ xs))) ys m n in
      one-taken f d (holding d s k line) x (xs ++ ys) m n (step_to next [] [])
      (octet-held f s x d k line settled clear (no-lf x both.0) (no-iac x both.0) (omega arith)) queue (omega arith) (omega arith)
      ∙ ap (and_then (step_to next [] []))
      ((λ i. takes f d next (xs ++ ys) (sub-zero m i) (sub-zero n i))
      ∙ (rest ∙ (λ i. prefixed (length xs) [] [] (takes f d (holding d s (more i) (put-more line k x xs g i)) ys m n))))
      ∙ one-before (step_to next [] []) (length xs) [] [] r

-- a holding state as one
held_same : (d : Side) (s : State) → (direction_of d s.control).place ≡ Place.Holding
    → s ≡ holding d s (direction_of d s.control).held (line_of d s)
held_same client s p = λ i. with_line client s (at (p i) s.control.client.held) s.command
held_same server s p = λ i. with_line server s (at (p i) s.control.server.held) s.reply

-- Holding: ordinary octets while the line stays below the limit; nothing is written, whatever the room.
pub holds-run : (f : Fixed) (d : Side) (s : State) → Settled s → Clear d s → (direction_of d s.control).place ≡ Place.Holding
    → Open d s → (xs ys : List ℕ) (m n : ℕ)
    → every is_ordinary xs ≡ true → (direction_of d s.control).held + length xs < judged
    → (direction_of d s.control).held + length xs ≤ length (line_of d s)
    → takes f d s (xs ++ ys) m n ≡ prefixed (length xs) [] [] (takes f d (holds_more d s xs) ys m n)
holds-run f d s settled clear p queue xs ys m n t h g =
    let same = held_same d s p in
    (λ i. takes f d (same i) (xs ++ ys) m n)
    ∙ hold-run f d s clear ys m n xs (direction_of d s.control).held (line_of d s) (subst Settled same settled)
    (subst (Open d) same queue) t h g
