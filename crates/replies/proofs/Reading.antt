-- The reading of the six numbers of a 227 line, between two of them.
use mathlib.Core.Path.{◌≡◌, sym, ap, ◌∙◌}
use mathlib.Core.List.{List, [], ◌∷◌, ◌++◌}
use Rattle.std.specs.Prelude.{Option, None, Some}
use Prim.Native.Nat.{ℕ, suc, ◌+◌, ◌-◌, ◌*◌, ◌<◌, ◌≤◌}
use native.Mathlib.Omega.{arith}
use lib.Dec.{eqb}
use native.Mathlib.Numerals.{add-one}
use lib.ListN.{length, get_or, take, drop, set, length-set, get_or-append, get_or-eq_default}
use lib.Seq.{get_or-drop, get_or_at, take_all, take-suc-set}
use borrow.Author.Tests.{eq-eqb, ne_eqb}
use Rattle.rules.specs.Octets.{comma, choose}
use Rattle.rules.specs.Address.{both}
use Rattle.rules.specs.Replies.{after_comma, numbers, passive_at}
use Rattle.rules.specs.declared.PassiveReply.{PassiveReply}
use Rattle.octets.proofs.Joining.{both-start, both-none, both-join}
use Rattle.replies.specs.Numbers.{number_at}
use Rattle.replies.proofs.Numbers.{none-at, last-at, more-at}

-- ---- the comma

first-at : (s : List ℕ) (e : ℕ) → get_or (drop e s) 0 0 ≡ get_or s e 0
first-at s e = get_or-drop e s 0 0 ∙ ap (λ (k : ℕ). get_or s k 0) (omega arith)

comma-there : (s : List ℕ) (e : ℕ) (more : Option (List ℕ)) → get_or s e 0 ≡ comma → after_comma (drop e s) more ≡ more
unfolding after_comma choose
comma-there s e more h = rw (eq-eqb _ comma (first-at s e ∙ h))

comma-missing : (s : List ℕ) (e : ℕ) (more : Option (List ℕ)) → (get_or s e 0 ≡ comma → ⊥) → after_comma (drop e s) more ≡ None
unfolding after_comma choose
comma-missing s e more h = rw (ne_eqb _ comma (λ k. h (sym (first-at s e) ∙ k)))

-- the address that the numbers read begin with, and this port
abbrev pub at_port : List ℕ → ℕ → PassiveReply
at_port ns p = record { address = get_or ns 0 0 ∷ get_or ns 1 0 ∷ get_or ns 2 0 ∷ get_or ns 3 0 ∷ []; port = p }

-- ---- i numbers of the six that stand at `from` are read, the first ones of `read`, and the others stand at `at`

pub record Reading (s : List ℕ) (from at i : ℕ) (read : List ℕ) : Type 0 where
  pub size : length read ≡ 5
  pub rest : numbers 5 (drop from s) ≡ both (Some (take i read)) (numbers (5 - i) (drop at s))

pub begun : (s : List ℕ) (from : ℕ) (read : List ℕ) → length read ≡ 5 → Reading s from from 0 read
begun s from read h = record { size = h; rest = sym (both-start (numbers 5 (drop from s))) }

module _ (s : List ℕ) (from at i : ℕ) (read : List ℕ) (r : Reading s from at i read) where
  -- one of the five with a comma
  rest_more : (n e : ℕ) → i < 5 → number_at s at ≡ Some (n, e) → numbers 5 (drop from s) ≡ both (Some (take i read ++ (n ∷ []))) (after_comma (drop e s) (numbers (5 - (i + 1)) (drop (e + 1) s)))
  rest_more n e h v =
      let one : 5 - i ≡ suc (5 - (i + 1)) = omega arith in
      r.rest ∙ rw (one, more-at s at n e (5 - (i + 1)) v) (both-join (take i read) (n ∷ []) _)

  pub turned : (n e : ℕ) → i < 5 → number_at s at ≡ Some (n, e) → get_or s e 0 ≡ comma → Reading s from (e + 1) (i + 1) (set read i n)
  turned n e h v k =
      let front : take (i + 1) (set read i n) ≡ take i read ++ (n ∷ []) = rw (add-one i) (take-suc-set read i n (omega (arith, r.size))) in
      record {
        size = length-set read i n ∙ r.size;
        rest = rest_more n e h v ∙ (ap (both _) (comma-there s e _ k) ∙ ap (λ (l : List ℕ). both (Some l) (numbers (5 - (i + 1)) (drop (e + 1) s))) (sym front));
      }

  pub uncomma : (n e : ℕ) → i < 5 → number_at s at ≡ Some (n, e) → (get_or s e 0 ≡ comma → ⊥) → None ≡ passive_at (numbers 5 (drop from s))
  unfolding passive_at
  uncomma n e h v k = rw (rest_more n e h v, comma-missing s e _ k, both-none)

  pub cut : (n e : ℕ) → i < 5 → number_at s at ≡ Some (n, e) → length s ≤ e → None ≡ passive_at (numbers 5 (drop from s))
  cut n e h v k = uncomma n e h v (λ (x : get_or s e 0 ≡ comma). omega (arith, get_or-eq_default s 0 k))

  pub unread : number_at s at ≡ None → None ≡ passive_at (numbers 5 (drop from s))
  unfolding passive_at
  unread v = rw (r.rest, none-at s at (5 - i) v, both-none)

  -- the sixth
  module _ (n e : ℕ) (h : i ≡ 5) (v : number_at s at ≡ Some (n, e)) where
    six : numbers 5 (drop from s) ≡ Some (read ++ (n ∷ []))
    unfolding both
    six =
        let last : 5 - i ≡ 0 = omega arith in
        let whole : take i read ≡ read = take_all i read (omega (arith, r.size)) in
        r.rest ∙ rw (last, last-at s at n e v, whole)

    one_of : (k : ℕ) → k < 5 → get_or (read ++ (n ∷ [])) k 0 ≡ get_or read k 0
    one_of k l = get_or-append read (n ∷ []) 0 k (omega (arith, r.size))

    abbrev port : ℕ
    port = get_or read 4 0 * 256 + n

    named : passive_at (numbers 5 (drop from s))
        ≡ choose (eqb port 0) None (Some (at_port read port))
    unfolding passive_at
    named =
        let low : get_or (read ++ (n ∷ [])) 5 0 ≡ n = get_or_at read n [] 0 5 r.size in
        rw (six, one_of 0 (omega arith), one_of 1 (omega arith), one_of 2 (omega arith), one_of 3 (omega arith), one_of 4 (omega arith), low)

    pub no-port : port ≡ 0 → None ≡ passive_at (numbers 5 (drop from s))
    unfolding choose
    no-port z = sym (named ∙ rw (eq-eqb _ 0 z))

    pub a-port : (port ≡ 0 → ⊥)
        → Some (at_port read port) ≡ passive_at (numbers 5 (drop from s))
    unfolding choose
    a-port z = sym (named ∙ rw (ne_eqb _ 0 z))
