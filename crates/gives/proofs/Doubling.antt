-- Held octets as they leave, each 255 doubled: for loops over them, and where none is 255.
use mathlib.Core.Path.{◌≡◌, refl, sym, ap, subst, ◌∙◌}
use mathlib.Core.Bool.{Bool, true, false}
use mathlib.Core.List.{List, [], ◌∷◌, ◌++◌}
use Prim.Native.Nat.{ℕ, suc, ◌+◌, ◌-◌, ◌*◌, ◌<◌, ◌≤◌}
use native.Mathlib.Numerals.{add-one}
use native.Mathlib.Omega.{arith}
use borrow.Author.Tests.{eq-eqb, ne_eqb}
use lib.Dec.{eqb}
use lib.ListN.{length, get_or, take, drop, length-append, length-drop}
use Rattle.std.proofs.lemmas.List.{get_or-drop}
use lib.Seq.{take-add, take-suc, take_all, length-take-le}
use Rattle.rules.specs.Octets.{iac, choose, is_not, run}
use Rattle.rules.specs.Lines.{passed}
use Rattle.octets.proofs.Runs.{front_at, every_front, run_inside, part_length}
use Rattle.octets.proofs.Choices.{choose-true, choose-false}
use Rattle.octets.proofs.Passed.{passed-append, passed-itself, passed-least, passed-most}
use Rattle.output.specs.Buffer.{Put, PutInRoom}
use Rattle.output.proofs.Placing.{joined}

-- one octet: 255 is doubled, another is itself
module _ (x : ℕ) where
  pub passed-iac : x ≡ iac → passed (x ∷ []) ≡ iac ∷ iac ∷ []
  unfolding passed
  passed-iac e = choose-true _ _ (eq-eqb x iac e)

  pub passed-other : (x ≡ iac → ⊥) → passed (x ∷ []) ≡ x ∷ []
  unfolding passed
  passed-other n = choose-false _ _ (ne_eqb x iac n)

module _ (s : List ℕ) where
  -- up to i, and the octet there
  pub passed-next : (i : ℕ) → i < length s → passed (take (i + 1) s) ≡ passed (take i s) ++ passed (get_or s i 0 ∷ [])
  passed-next i h =
      ap passed (ap (λ (n : ℕ). take n s) (add-one i) ∙ take-suc s i 0 h) ∙ passed-append (take i s) (get_or s i 0 ∷ [])

  -- up to i, and the octets from there to the next 255
  pub passed-run : (i e : ℕ) → e ≡ i + run (is_not iac) (drop i s) → passed (take e s) ≡ passed (take i s) ++ take (e - i) (drop i s)
  passed-run i e q =
      let to : e ≡ i + (e - i) = omega arith in
      let part = take (e - i) (drop i s) in
      let plain : passed part ≡ part = rw (front_at (is_not iac) s i e q) (passed-itself _ (every_front (is_not iac) (drop i s))) in
      ap (λ (n : ℕ). passed (take n s)) to ∙ ap passed (take-add i (e - i) s) ∙ passed-append (take i s) part
      ∙ ap (λ (l : List ℕ). passed (take i s) ++ l) plain

  pub passed-all : (i : ℕ) → length s ≤ i → passed (take i s) ≡ passed s
  passed-all i h = ap passed (take_all i s h)

  -- the same of their numbers
  pub counted-front : (e : ℕ) → e ≡ 0 + run (is_not iac) (drop 0 s) → (e ≡ length (passed (take e s))) × (e ≤ length s)
  unfolding passed
  counted-front e q =
      let inside : e ≤ length s = run_inside (is_not iac) s 0 e (omega arith) q in
      (omega (arith, ap length (passed-run 0 e q), part_length s 0 e (omega arith) inside), inside)

  pub counted_next : (i n m : ℕ) → i < length s → n ≡ length (passed (take i s)) → m ≡ length (passed (get_or s i 0 ∷ []))
      → n + m ≡ length (passed (take (i + 1) s))
  counted_next i n m h q k =
      omega (arith, ap length (passed-next i h), length-append (passed (take i s)) (passed (get_or s i 0 ∷ [])))

  pub counted-most : (i : ℕ) → i ≤ length s → length (passed (take i s)) ≤ 2 * i
  counted-most i h = omega (arith, passed-most (take i s), length-take-le i s h)

-- an octet behind the front e, by its place there
pub octet-behind : (s : List ℕ) (e i : ℕ) → i < length (take (length s - e) (drop e s))
    → (get_or (take (length s - e) (drop e s)) i 0 ≡ get_or s (e + i) 0) × (e + i < length s)
octet-behind s e i h =
    let all : take (length s - e) (drop e s) ≡ drop e s = take_all (length s - e) (drop e s) (omega (arith, length-drop e s)) in
    (ap (λ (l : List ℕ). get_or l i 0) all ∙ get_or-drop e s i 0, omega (arith, ap length all, length-drop e s))

-- the octets up to i put, and then the run behind them, or the octet there
module _ (out : List ℕ) (at : ℕ) (s : List ℕ) (i : ℕ) {after : List ℕ} {next : ℕ} (done : PutInRoom out at (passed (take i s)) next after) where
  pub run-put : {last : List ℕ} {end : ℕ} (e : ℕ) → e ≡ i + run (is_not iac) (drop i s) → Put after next (take (e - i) (drop i s)) end last
      → PutInRoom out at (passed (take e s)) end last
  run-put {last} {end} e q more =
      subst (λ (l : List ℕ). PutInRoom out at l end last) (sym (passed-run s i e q))
      (joined out at (passed (take i s)) (take (e - i) (drop i s)) done (λ _. more))

  pub octet-put : {last : List ℕ} {end : ℕ} → i < length s → Put after next (passed (get_or s i 0 ∷ [])) end last → PutInRoom out at (passed (take (i + 1) s)) end last
  octet-put {last} {end} h more =
      subst (λ (l : List ℕ). PutInRoom out at l end last) (sym (passed-next s i h))
      (joined out at (passed (take i s)) (passed (get_or s i 0 ∷ [])) done (λ _. more))

  pub all-put : length s ≤ i → PutInRoom out at (passed s) next after
  all-put h = subst (λ (l : List ℕ). PutInRoom out at l next after) (passed-all s i h) done

same_by : (x : ℕ) (s p : List ℕ) (b : Bool) → length s ≤ length p → (length p ≡ length s → p ≡ s)
    → length (choose b (iac ∷ iac ∷ p) (x ∷ p)) ≡ suc (length s) → choose b (iac ∷ iac ∷ p) (x ∷ p) ≡ x ∷ s
unfolding choose
same_by x s p true least same e = absurd (omega arith)
same_by x s p false least same e = ap (λ (l : List ℕ). x ∷ l) (same (omega arith))

-- octets that give as many as they are give themselves
pub passed-same : (s : List ℕ) → length (passed s) ≡ length s → passed s ≡ s
unfolding passed
passed-same [] e = refl
passed-same (x ∷ s) e = same_by x s (passed s) (eqb x iac) (passed-least s) (passed-same s) e
