-- The array of kinds with its count: what is put in and what leaves keeps every kind owed a listed one.
use Rattle.std.specs.Prelude.{Some}
use mathlib.Core.Path.{◌≡◌, refl, ap, ◌∙◌}
use mathlib.Core.Bool.{Bool, true, false}
use mathlib.Core.List.{List, [], ◌∷◌, ◌++◌, map}
use Prim.Native.Nat.{ℕ, zero, suc, ◌+◌, ◌-◌, ◌≤◌, ◌<◌}
use native.Mathlib.Omega.{arith}
use native.Mathlib.Numerals.{add-one}
use lib.ListN.{length, take, drop, length-append, length-set, length-drop}
use lib.Seq.{take-suc-set, length-take-le, take_at}
use Rattle.rules.specs.Octets.{every}
use Rattle.rules.specs.Answers.{most_owed}
use Rattle.rules.specs.declared.OwnAnswer.{OwnAnswer}
use Rattle.rules.specs.declared.Kind.{Kind}
use Rattle.octets.proofs.Runs.{every_drop, every_append}
use Rattle.queue.specs.Kinds.{pushed, state_code, answer_code, code_of, is_listed, kind_of, queue_of, shifted}

-- ---- every kind has a listed number

state-listed : (a b : Bool) → is_listed (state_code a b) ≡ true
unfolding is_listed state_code
state-listed false false = refl
state-listed true false = refl
state-listed false true = refl
state-listed true true = refl

code-listed : (k : Kind) → is_listed (code_of k) ≡ true
unfolding is_listed code_of answer_code
code-listed Kind.Plain = refl
code-listed Kind.TranslatedEpsv = refl
code-listed (Kind.Own OwnAnswer.ProtocolNotSupported) = refl
code-listed (Kind.Own OwnAnswer.ParameterNotImplemented) = refl
code-listed (Kind.Own (OwnAnswer.State sw)) = state-listed sw.epsv sw.eprt
code-listed Kind.Auth = refl

-- ---- the array of a record that number 4 lets through

pub record Listed (kinds : List ℕ) (owed : ℕ) : Type 0 where
  pub size : length kinds ≡ most_owed
  pub most : owed ≤ most_owed
  pub listed : every is_listed (take owed kinds) ≡ true

-- a kind is put behind the last one
pub pushed_front : (kinds : List ℕ) (owed : ℕ) (k : Kind) → owed < length kinds
    → take (owed + 1) (pushed kinds owed (Some k)) ≡ take owed kinds ++ (code_of k ∷ [])
unfolding pushed
pushed_front kinds owed k h = rw (add-one owed) (take-suc-set kinds owed (code_of k) h)

pub listed-push : {kinds : List ℕ} {owed : ℕ} → Listed kinds owed → (k : Kind) → owed < most_owed → Listed (pushed kinds owed (Some k)) (owed + 1)
unfolding pushed every
listed-push {kinds} {owed} q k h =
    record {
      size = length-set kinds owed (code_of k) ∙ q.size;
      most = omega arith;
      listed = rw (pushed_front kinds owed k (omega (arith, q.size)))
          (every_append is_listed (take owed kinds) (code_of k ∷ []) q.listed (rw (code-listed k)));
    }

map-drop : {A B : Type 0} (f : A → B) (n : ℕ) (l : List A) → map f (drop n l) ≡ drop n (map f l)
map-drop f zero l = refl
map-drop f (suc n) [] = refl
map-drop f (suc n) (x ∷ l) = map-drop f n l

-- the first m kinds leave
module _ (kinds : List ℕ) (m owed : ℕ) (h : owed ≤ length kinds) where
  left-size : length (drop m (take owed kinds)) ≡ owed - m
  left-size = length-drop m (take owed kinds) ∙ ap (λ (n : ℕ). n - m) (length-take-le owed kinds h)

  pub shifted-front : take (owed - m) (shifted kinds m owed) ≡ drop m (take owed kinds)
  unfolding shifted
  shifted-front = take_at (drop m (take owed kinds)) (drop (owed - m) kinds) (owed - m) left-size

  pub shifted-queue : queue_of (shifted kinds m owed) (owed - m) ≡ drop m (queue_of kinds owed)
  unfolding queue_of
  shifted-queue = rw shifted-front (map-drop kind_of m (take owed kinds))

  pub length-shifted : length (shifted kinds m owed) ≡ length kinds
  unfolding shifted
  length-shifted = length-append (drop m (take owed kinds)) (drop (owed - m) kinds) ∙ rw (left-size, length-drop (owed - m) kinds) (omega arith)

pub listed-leave : {kinds : List ℕ} {owed : ℕ} → Listed kinds owed → (m : ℕ) → Listed (shifted kinds m owed) (owed - m)
listed-leave {kinds} {owed} q m =
    let fits : owed ≤ length kinds = omega (arith, q.size, q.most) in
    record {
      size = length-shifted kinds m owed fits ∙ q.size;
      most = omega (arith, q.most);
      listed = rw (shifted-front kinds m owed fits) (every_drop is_listed m (take owed kinds) q.listed);
    }
