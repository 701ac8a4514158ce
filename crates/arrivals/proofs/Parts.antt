-- Runs at a position of an arrival, as the code has them: each leads the loop from the state before it to that behind it.
use mathlib.Core.Path.{◌≡◌, refl, sym, ap, subst, ◌∙◌}
use mathlib.Core.Bool.{true}
use mathlib.Core.List.{List, [], ◌∷◌, ◌++◌, append_assoc}
use Prim.Native.Nat.{ℕ, suc, ◌+◌, ◌-◌, ◌≤◌, ◌<◌}
use native.Mathlib.Nat.{add-zero, sub-zero}
use native.Mathlib.Numerals.{add-one}
use native.Mathlib.Omega.{arith}
use lib.ListN.{length, take, drop, get_or, length-append}
use lib.Seq.{take-take, drop-cons}
use Rattle.rules.specs.Octets.{every, run, front}
use Rattle.rules.specs.Lines.{judged, most_held, is_ordinary}
use Rattle.rules.specs.Answers.{Side, client, server}
use Rattle.octets.proofs.Runs.{run_length, every_front, part-rest, part_length}
use Rattle.output.specs.Buffer.{put_at, Put}
use Rattle.output.proofs.Placing.{length-put, take-put-at, after-fits, nothing_put, put-after}
use Rattle.places.specs.declared.Place.{Place}
use Rattle.places.specs.declared.Direction.{Direction}
use Rattle.places.specs.Places.{at}
use Rattle.rules.specs.declared.Fixed.{Fixed}
use Rattle.steps.specs.Steps.{State, octet_step}
use Rattle.records.specs.Sound.{direction_of, Counted}
use Rattle.steps.specs.Takes.{takes, Core, core_from}
use Rattle.steps.specs.Core.{Bounded, Stepped, step_fits}
use Rattle.steps.specs.Settled.{Settled}
use Rattle.arrivals.specs.Runs.{prefixed, to_server_of, to_client_of, line_of, with_command, with_reply, holding, holds_more, Ran, GivesOn, gives_nothing, Moved, moved_on, moved_behind, DirectionRan}
use Rattle.arrivals.proofs.Going.{Going, put-at-rest}
use Rattle.steps.proofs.Stops.{fits-room}
use Rattle.steps.proofs.Octets.{core-next}
use Rattle.steps.proofs.Through.{Clear}
use Rattle.arrivals.proofs.Runs.{Open, one-taken, gives-run, holds-run}

-- ---- the loop goes on over a run

module _ (f : Fixed) (d : Side) (l : List ℕ) (s₀ : State) (from to : List ℕ) (k k' : Core) (i j : ℕ) where
  pub going-run : Going f d l s₀ from to k i → Ran f d l k i k' j → Going f d l s₀ from to k' j
  going-run going ran =
      let w = k.written in
      let a = ran.to_server in
      let b = ran.to_client in
      let A = take w.server k.server_buffer in
      let B = take w.client k.client_buffer in
      let fs = ran.server in
      let fc = ran.client in
      let ss = going.server-size in
      let sc = going.client-size in
      let M = length from - w.server in
      let N = length to - w.client in
      let rest = ran.rest M N (omega arith) (omega arith) in
      let m : M - length a ≡ length from - (w.server + length a) = omega arith in
      let n : N - length b ≡ length to - (w.client + length b) = omega arith in
      let pa = take-put-at k.server_buffer w.server a fs in
      let pb = take-put-at k.client_buffer w.client b fc in
      let r = takes f d k'.state (drop j l) (length from - (w.server + length a))
      (length to - (w.client + length b)) in
      let over = ran.forward in
      let count : i + (j - i + r.taken) ≡ j + r.taken = omega arith in
      let counts = ran.counted (record { owed = going.bounded.owed; command = going.bounded.command; reply = going.bounded.reply }) in
      let ls = length-put k.server_buffer w.server a fs in
      let lc = length-put k.client_buffer w.client b fc in
      subst (λ (c : Core). Going f d l s₀ from to c j) (sym ran.core)
      (record {
        so_far = going.so_far
            ∙ (ap (prefixed i A B) (rest ∙ (λ t. prefixed (j - i) a b (takes f d k'.state (drop j l) (m t) (n t))))
            ∙ (λ t. record {
              answer = r.answer;
              taken = count t;
              to_server = sym (append_assoc A a r.to_server) t;
              to_client = sym (append_assoc B b r.to_client) t;
              state = r.state;
            })
            ∙ (λ t. prefixed j (sym pa t) (sym pb t) r));
        server-rest = put-at-rest k.server_buffer from w.server a fs going.server-rest;
        client-rest = put-at-rest k.client_buffer to w.client b fc going.client-rest;
        server-size = ls ∙ ss;
        client-size = lc ∙ sc;
        bounded = record { owed = counts.owed; command = counts.command; reply = counts.reply; server = omega arith; client = omega arith };
      })

-- ---- what the code's functions return

-- no octet
pub ran-none : (f : Fixed) (d : Side) (l : List ℕ) (k : Core) (i : ℕ) → i ≤ length l
    → k.written.server ≤ length k.server_buffer
    → k.written.client ≤ length k.client_buffer → Ran f d l k i k i
ran-none f d l k i h a b =
    let w = k.written in
    let sb = (nothing_put k.server_buffer w.server).1 in
    let cb = (nothing_put k.client_buffer w.client).1 in
    let ws : w.server ≡ w.server + 0 = omega arith in
    let wc : w.client ≡ w.client + 0 = omega arith in
    record {
      to_server = [];
      to_client = [];
      forward = omega arith;
      inside = h;
      server = omega arith;
      client = omega arith;
      rest = λ m n _ _.
          let r = takes f d k.state (drop i l) m n in
          let count : r.taken ≡ i - i + r.taken = omega arith in
          (λ t. record { answer = r.answer; taken = count t; to_server = r.to_server; to_client = r.to_client; state = r.state })
          ∙ (λ t. prefixed (i - i) [] [] (takes f d k.state (drop i l) (sym (sub-zero m) t) (sym (sub-zero n) t)));
      core = λ t. core_from k.state (sb t) (cb t) (record { server = ws t; client = wc t });
      counted = λ c. c;
    }

-- counts that can be held still can behind a run
pub ran-bounded : (f : Fixed) (d : Side) (l : List ℕ) (k k' : Core) (i j : ℕ) → Ran f d l k i k' j
    → Bounded k.state.control k.written k.server_buffer k.client_buffer
    → Bounded k'.state.control k'.written k'.server_buffer k'.client_buffer
ran-bounded f d l k k' i j ran bounded =
    let w = k.written in
    let counts = ran.counted (record { owed = bounded.owed; command = bounded.command; reply = bounded.reply }) in
    let fs = ran.server in
    let fc = ran.client in
    let ws = ap (λ (c : Core). c.written.server) ran.core in
    let wc = ap (λ (c : Core). c.written.client) ran.core in
    let ls = ap (λ (c : Core). length c.server_buffer) ran.core ∙ length-put k.server_buffer w.server ran.to_server fs in
    let lc = ap (λ (c : Core). length c.client_buffer) ran.core ∙ length-put k.client_buffer w.client ran.to_client fc in
    record { owed = counts.owed; command = counts.command; reply = counts.reply; server = omega arith; client = omega arith }

-- one octet that fits, where number 1 is not given
pub ran-octet : (f : Fixed) (d : Side) (l : List ℕ) (k k' : Core) (i x : ℕ) → i < length l → x ≡ get_or l i 0
    → Open d k.state → k.written.server ≤ length k.server_buffer → k.written.client ≤ length k.client_buffer
    → Stepped f d x k true k' → Ran f d l k i k' (i + 1)
unfolding step_fits
ran-octet f d l k k' i x h e queue a b stepped =
    let w = k.written in
    let t = octet_step f d k.state x in
    let next = core-next (octet_step f d k.state x) k (sym stepped.fits) in
    let room = fits-room t.to_server t.to_client (length k.server_buffer - w.server) (length k.client_buffer - w.client) (sym stepped.fits) in
    let room_s = room.0 in
    let room_c = room.1 in
    let after : k' ≡ _ = stepped.core ∙ sym next in
    let one : i + 1 - i ≡ 1 = omega arith in
    record {
      to_server = t.to_server;
      to_client = t.to_client;
      forward = omega arith;
      inside = omega arith;
      server = omega arith;
      client = omega arith;
      rest = λ m n hm hn.
          let r = takes f d t.state (drop (i + 1) l) (m - length t.to_server) (n - length t.to_client) in
          (λ j. takes f d k.state (drop-cons l i 0 h j) m n)
          ∙ ((λ j. takes f d k.state (sym e j ∷ drop (sym (add-one i) j) l) m n)
          ∙ (one-taken f d k.state x (drop (i + 1) l) m n t refl queue hm hn
          ∙ ((λ j. record { answer = r.answer; taken = sym (one_more i r.taken) j; to_server = t.to_server ++ r.to_server; to_client = t.to_client ++ r.to_client; state = r.state })
          ∙ (λ j. prefixed (i + 1 - i) t.to_server t.to_client (takes f d (sym (ap (λ (c : Core). c.state) after) j) (drop (i + 1) l) (m - length t.to_server) (n - length t.to_client))))));
      core = after ∙ (λ j. core_from (sym (ap (λ (c : Core). c.state) after) j) (put_at k.server_buffer w.server t.to_server) (put_at k.client_buffer w.client t.to_client) (record { server = w.server + length t.to_server; client = w.client + length t.to_client }));
      counted = λ _. record { owed = stepped.bounded.owed; command = stepped.bounded.command; reply = stepped.bounded.reply };
    }
  where
    one_more : (i n : ℕ) → i + 1 - i + n ≡ suc n
    one_more i n = omega arith

-- one run, and another behind it
module _ (f : Fixed) (d : Side) (l : List ℕ) (k k' k'' : Core) (i j e : ℕ) where
  pub ran_then : Ran f d l k i k' j → Ran f d l k' j k'' e → Ran f d l k i k'' e
  ran_then r q =
      let w = k.written in
      let a = r.to_server in
      let b = r.to_client in
      let a' = q.to_server in
      let b' = q.to_client in
      let fs = r.server in
      let fc = r.client in
      let first = r.forward in
      let second = q.forward in
      let ls = length-append a a' in
      let lc = length-append b b' in
      let ss : k'.server_buffer ≡ put_at k.server_buffer w.server a = ap (λ (c : Core). c.server_buffer) r.core in
      let sc : k'.client_buffer ≡ put_at k.client_buffer w.client b = ap (λ (c : Core). c.client_buffer) r.core in
      let ws : k'.written.server ≡ w.server + length a = ap (λ (c : Core). c.written.server) r.core in
      let wc : k'.written.client ≡ w.client + length b = ap (λ (c : Core). c.written.client) r.core in
      let ns = ap length ss ∙ length-put k.server_buffer w.server a fs in
      let nc = ap length sc ∙ length-put k.client_buffer w.client b fc in
      let qs = q.server in
      let qc = q.client in
      let rs : w.server + length (a ++ a') ≤ length k.server_buffer = omega arith in
      let rc : w.client + length (b ++ b') ≤ length k.client_buffer = omega arith in
      let ps = (λ t. put_at (ss t) (ws t) a') ∙ put-after k.server_buffer w.server a a' rs in
      let pc = (λ t. put_at (sc t) (wc t) b') ∙ put-after k.client_buffer w.client b b' rc in
      let us : k'.written.server + length a' ≡ w.server + length (a ++ a') = omega arith in
      let uc : k'.written.client + length b' ≡ w.client + length (b ++ b') = omega arith in
      record {
        to_server = a ++ a';
        to_client = b ++ b';
        forward = omega arith;
        inside = q.inside;
        server = rs;
        client = rc;
        rest = λ m n hm hn.
            let x : m - length a - length a' ≡ m - length (a ++ a') = omega arith in
            let y : n - length b - length b' ≡ n - length (b ++ b') = omega arith in
            let z = takes f d k''.state (drop e l) (m - length (a ++ a')) (n - length (b ++ b')) in
            let count : j - i + (e - j + z.taken) ≡ e - i + z.taken = omega arith in
            r.rest m n (omega arith) (omega arith)
            ∙ (ap (prefixed (j - i) a b) (q.rest (m - length a) (n - length b) (omega arith) (omega arith)
            ∙ (λ t. prefixed (e - j) a' b' (takes f d k''.state (drop e l) (x t) (y t))))
            ∙ (λ t. record {
              answer = z.answer;
              taken = count t;
              to_server = sym (append_assoc a a' z.to_server) t;
              to_client = sym (append_assoc b b' z.to_client) t;
              state = z.state;
            }));
        core = q.core ∙ (λ t. core_from k''.state (ps t) (pc t) (record { server = us t; client = uc t }));
        counted = λ c. q.counted (r.counted c);
      }

-- ---- what one direction's run leaves of the whole

-- the buffer that a side's octets go to, and how far it is written
abbrev pub buffer_of : Side → Core → List ℕ
buffer_of client k = k.server_buffer
buffer_of server k = k.client_buffer

abbrev pub position_of : Side → Core → ℕ
position_of client k = k.written.server
position_of server k = k.written.client

-- the core with another direction, array, buffer and position of a side's
abbrev pub core_ran : Side → Core → Direction → List ℕ → List ℕ → ℕ → Core
core_ran client k e line out n = core_from (with_command k.state e line) out k.client_buffer (record { server = n; client = k.written.client })
core_ran server k e line out n = core_from (with_reply k.state e line) k.server_buffer out (record { server = k.written.server; client = n })

-- the core with another state, for which a went to the server and b to the client
abbrev core_given : State → Core → List ℕ → List ℕ → Core
core_given s k a b =
    core_from s (put_at k.server_buffer k.written.server a) (put_at k.client_buffer k.written.client b)
    (record { server = k.written.server + length a; client = k.written.client + length b })

module _ (k : Core) (xs : List ℕ) where
  core-given : (d : Side) → core_given k.state k (to_server_of d xs) (to_client_of d xs)
      ≡ core_ran d k (direction_of d k.state.control) (line_of d k.state) (put_at (buffer_of d k) (position_of d k) xs) (position_of d k + length xs)
  core-given client = λ t. core_from k.state (put_at k.server_buffer k.written.server xs)
      (sym (nothing_put k.client_buffer k.written.client).1 t)
      (record { server = k.written.server + length xs; client = add-zero k.written.client t })
  core-given server = λ t. core_from k.state (sym (nothing_put k.server_buffer k.written.server).1 t)
      (put_at k.client_buffer k.written.client xs)
      (record { server = add-zero k.written.server t; client = k.written.client + length xs })

  given-room : k.written.server ≤ length k.server_buffer → k.written.client ≤ length k.client_buffer
      → (d : Side) → position_of d k + length xs ≤ length (buffer_of d k)
      → (k.written.server + length (to_server_of d xs) ≤ length k.server_buffer)
      × (k.written.client + length (to_client_of d xs) ≤ length k.client_buffer)
  given-room a b client room = (room, omega arith)
  given-room a b server room = (omega arith, room)

module _ (k : Core) (n : ℕ) (line : List ℕ) where
  core-kept : (s : State) → core_given s k [] [] ≡ core_from s k.server_buffer k.client_buffer k.written
  core-kept s = λ t. core_from s (sym (nothing_put k.server_buffer k.written.server).1 t)
      (sym (nothing_put k.client_buffer k.written.client).1 t)
      (record { server = add-zero k.written.server t; client = add-zero k.written.client t })

  core-held : (d : Side) → core_given (holding d k.state n line) k [] [] ≡ core_ran d k (at Place.Holding n) line (buffer_of d k) (position_of d k)
  core-held client = core-kept (holding client k.state n line)
  core-held server = core-kept (holding server k.state n line)

  held-counted : (d : Side) → n ≤ most_held → Counted k.state.control → Counted (holding d k.state n line).control
  held-counted client h c = record { owed = c.owed; command = h; reply = c.reply }
  held-counted server h c = record { owed = c.owed; command = c.command; reply = h }

module _ (f : Fixed) (d : Side) (l : List ℕ) (k : Core) (i j : ℕ) (h : i ≤ j) (g : j ≤ length l) where
  abbrev xs : List ℕ
  xs = take (j - i) (drop i l)

  -- the octets from i to j, for which a goes to the server and b to the client
  ran-part : (s : State) (a b : List ℕ)
      → k.written.server + length a ≤ length k.server_buffer → k.written.client + length b ≤ length k.client_buffer
      → (Counted k.state.control → Counted s.control)
      → ((m n : ℕ) → length a ≤ m → length b ≤ n → takes f d k.state (xs ++ drop j l) m n
      ≡ prefixed (length xs) a b (takes f d s (drop j l) (m - length a) (n - length b)))
      → Ran f d l k i (core_given s k a b) j
  ran-part s a b server-room client-room counts law =
      record {
        to_server = a;
        to_client = b;
        forward = h;
        inside = g;
        server = server-room;
        client = client-room;
        rest = λ m n p q.
            (λ t. takes f d k.state (part-rest l i j h t) m n) ∙ (law m n p q
            ∙ (λ t. prefixed (part_length l i j h g t) a b (takes f d s (drop j l) (m - length a) (n - length b))));
        core = refl;
        counted = counts;
      }

  module _ (settled : Settled k.state) (clear : Clear d k.state) (queue : Open d k.state) (server-room : k.written.server ≤ length k.server_buffer)
      (client-room : k.written.client ≤ length k.client_buffer) where
    -- they are held: n is the number held then, and line the array
    pub ran-held : (n : ℕ) (line : List ℕ) → (direction_of d k.state.control).place ≡ Place.Holding → every is_ordinary xs ≡ true
        → (direction_of d k.state.control).held + (j - i) ≤ most_held → length (line_of d k.state) ≡ most_held
        → n ≡ (direction_of d k.state.control).held + (j - i)
        → line ≡ put_at (line_of d k.state) (direction_of d k.state.control).held xs
        → Ran f d l k i (core_ran d k (at Place.Holding n) line (buffer_of d k) (position_of d k)) j
    unfolding judged
    ran-held n line place none most array en el =
        let size : length xs ≡ j - i = part_length l i j h g in
        let count : n ≡ (direction_of d k.state.control).held + length xs = omega arith in
        let same : holding d k.state n line ≡ holds_more d k.state xs = λ t. holding d k.state (count t) (el t) in
        subst (λ (c : Core). Ran f d l k i c j) (core-held k n line d)
        (ran-part (holding d k.state n line) [] [] (omega arith) (omega arith) (held-counted k n line d (omega arith))
        (λ m n _ _. holds-run f d k.state settled clear place queue xs (drop j l) m n none (omega arith) (omega arith)
        ∙ (λ t. prefixed (length xs) [] [] (takes f d (sym same t) (drop j l) (sym (sub-zero m) t) (sym (sub-zero n) t)))))

    -- they go on as they come
    ran-given : GivesOn (direction_of d k.state.control) xs
        → k.written.server + length (to_server_of d xs) ≤ length k.server_buffer
        → k.written.client + length (to_client_of d xs) ≤ length k.client_buffer
        → Ran f d l k i (core_ran d k (direction_of d k.state.control) (line_of d k.state)
        (put_at (buffer_of d k) (position_of d k) xs) (position_of d k + length xs)) j
    ran-given gives a b =
        subst (λ (c : Core). Ran f d l k i c j) (core-given k xs d)
        (ran-part k.state (to_server_of d xs) (to_client_of d xs) a b (λ c. c)
        (λ m n. gives-run f d k.state settled clear queue xs (drop j l) m n gives))

    -- either, as the code has it
    pub ran-moved : {e : Direction} {line out : List ℕ} {n : ℕ} → length (line_of d k.state) ≡ most_held
        → Moved xs (direction_of d k.state.control) (line_of d k.state) (buffer_of d k) (position_of d k) e line out n
        → Ran f d l k i (core_ran d k e line out n) j
    ran-moved array (moved_on gives room ed el eo en) =
        let rooms = given-room k xs server-room client-room d room in
        subst (λ (c : Core). Ran f d l k i c j) (λ t. core_ran d k (sym ed t) (sym el t) (sym eo t) (sym en t))
        (ran-given gives rooms.0 rooms.1)
    ran-moved array (moved_behind place none room ed el eo en) =
        let size : length xs ≡ j - i = part_length l i j h g in
        subst (λ (c : Core). Ran f d l k i c j) (λ t. core_ran d k (sym ed t) (sym el t) (sym eo t) (sym en t))
        (ran-held ((direction_of d k.state.control).held + length xs) _ place none (omega arith) array (omega arith) refl)

-- ---- what the code's functions know of one direction

pub given-none : (d : Direction) (l : List ℕ) (i : ℕ) → GivesOn d (take (i - i) (drop i l))
given-none d l i =
    let none : i - i ≡ 0 = omega arith in
    gives_nothing (ap (λ (n : ℕ). take n (drop i l)) none)

module _ {l : List ℕ} {i j : ℕ} {d : Direction} (line out : List ℕ) {n : ℕ} where
  pub held-run : {line' : List ℕ} → d.place ≡ Place.Holding → (i ≤ j) × (j ≤ length l) × (d.held + (j - i) ≤ length line)
      → every is_ordinary (take (j - i) (drop i l)) ≡ true → line' ≡ put_at line d.held (take (j - i) (drop i l))
      → DirectionRan l i d line out n (record { taken = j; direction = at Place.Holding (d.held + (j - i)); at = n }) line' out
  held-run place (h, g, most) none el =
      let size = part_length l i j h g in
      record {
        forward = h;
        inside = g;
        moved = moved_behind place none (omega (arith, size)) (ap (λ (m : ℕ). at Place.Holding (d.held + m)) (sym size)) el refl refl;
      }

  pub given-run : {next : ℕ} {out' : List ℕ} → n ≤ length out → (i ≤ j) × (j ≤ length l) × (j - i ≤ length out - n)
      → GivesOn d (take (j - i) (drop i l)) → Put out n (take (j - i) (drop i l)) next out'
      → DirectionRan l i d line out n (record { taken = j; direction = d; at = next }) line out'
  given-run within (h, g, most) gives (en, eo) =
      let size = part_length l i j h g in
      let room : n + length (take (j - i) (drop i l)) ≤ length out = omega (arith, size) in
      record {
        forward = h;
        inside = g;
        moved = moved_on gives room refl refl eo (en ∙ after-fits out n (take (j - i) (drop i l)) room);
      }

-- the part of l from i to the end e that is ordinary, as a search in the part from i to e found its length n
pub ordinary-part : (l : List ℕ) (i e j n : ℕ) → i ≤ e → e ≤ length l
    → n ≡ 0 + run is_ordinary (drop 0 (take (e - i) (drop i l))) → j ≡ i + n
    → (j ≤ e) × (every is_ordinary (take (j - i) (drop i l)) ≡ true)
unfolding front
ordinary-part l i e j n h g en ej =
    let part = take (e - i) (drop i l) in
    let size : length part ≡ e - i = part_length l i e h g in
    let most : run is_ordinary part ≤ length part = run_length is_ordinary part in
    let same : j - i ≡ run is_ordinary part = omega arith in
    let short : take (run is_ordinary part) part ≡ take (run is_ordinary part) (drop i l) =
    take-take (run is_ordinary part) (e - i) (drop i l) (omega arith) in (
      omega arith,
      rw same (subst (λ (t : List ℕ). every is_ordinary t ≡ true) short (every_front is_ordinary part)),
    )

-- an ordinary octet that arrives alone
pub ordinary-one : (l : List ℕ) (i n : ℕ) → n ≡ 1 → i < length l → is_ordinary (get_or l i 0) ≡ true → every is_ordinary (take n (drop i l)) ≡ true
unfolding every
ordinary-one l i n e h t = rw (e, drop-cons l i 0 h, t)

-- none
pub ordinary-none : (l : List ℕ) (i n : ℕ) → n ≡ 0 → every is_ordinary (take n (drop i l)) ≡ true
unfolding every
ordinary-none l i n e = rw e
