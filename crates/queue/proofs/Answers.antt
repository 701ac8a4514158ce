-- The queue from a number on: what stands there, and what one own answer at its head adds to the answers behind it.
use mathlib.Core.Path.{◌≡◌, refl, ap, ◌∙◌}
use mathlib.Core.List.{List, [], ◌∷◌, ◌++◌, map}
use Prim.Native.Nat.{ℕ, zero, suc, ◌+◌, ◌≤◌, ◌<◌}
use native.Mathlib.Omega.{arith}
use lib.ListN.{length, take, drop, get_or, length-append, length-map, length-take, drop_of_length-le, get_or-map}
use lib.Seq.{drop-cons, drop-drop, get_or-take}
use Rattle.rules.specs.Replies.{head_answers, answer_line, auth_at_head}
use Rattle.rules.specs.declared.Kind.{Kind}
use Rattle.rules.specs.declared.OwnAnswer.{OwnAnswer}
use Rattle.rules.specs.Answers.{longest_answer, most_owed}
use Rattle.own.proofs.Lengths.{answer-most}
use Rattle.queue.specs.Kinds.{kind_of, queue_of, answers_at_head}
use Rattle.queue.specs.declared.Next.{Next}
use Rattle.queue.specs.Heads.{next_first, next_is_auth}

module _ (kinds : List ℕ) (i owed : ℕ) where
  -- behind the last kind owed, and behind the last one that there is room for, there is none
  pub none-owed : owed ≤ i → drop i (queue_of kinds owed) ≡ []
  unfolding queue_of
  none-owed h = drop_of_length-le (map kind_of (take owed kinds)) {i = i} (simp (length-map, length-take) (omega arith))

  pub none_kept : length kinds ≤ i → drop i (queue_of kinds owed) ≡ []
  unfolding queue_of
  none_kept h = drop_of_length-le (map kind_of (take owed kinds)) {i = i} (simp (length-map, length-take) (omega arith))

  -- before it there is one
  pub one-owed : i < owed → i < length kinds → drop i (queue_of kinds owed) ≡ kind_of (get_or kinds i 0) ∷ drop (suc i) (queue_of kinds owed)
  unfolding queue_of
  one-owed h k =
      let within : i < length (map kind_of (take owed kinds)) = simp (length-map, length-take) (omega arith) in
      drop-cons (map kind_of (take owed kinds)) i (kind_of 0) within
      ∙ rw (get_or-map kind_of (take owed kinds) i 0, get_or-take owed kinds i 0 h)

-- the queue has no more kinds than are owed
pub length-queue : (kinds : List ℕ) (owed : ℕ) → length (queue_of kinds owed) ≤ owed
unfolding queue_of
length-queue kinds owed = simp (length-map, length-take) (omega arith)

-- nor more than there is room for
pub queue-most : (kinds : List ℕ) (owed : ℕ) → length (queue_of kinds owed) ≤ length kinds
unfolding queue_of
queue-most kinds owed = simp (length-map, length-take) (omega arith)

pub answers-most : (ks : List Kind) → answers_at_head ks ≤ length ks
unfolding answers_at_head
answers-most [] = omega arith
answers-most (Kind.Plain ∷ ks) = omega arith
answers-most (Kind.TranslatedEpsv ∷ ks) = omega arith
answers-most (Kind.Own a ∷ ks) = let h = answers-most ks in omega arith
answers-most (Kind.Auth ∷ ks) = omega arith

-- a queue with none at its head has no text of answers
pub answers-none : (ks : List Kind) → answers_at_head ks ≡ 0 → head_answers ks ≡ []
unfolding answers_at_head head_answers
answers-none [] e = refl
answers-none (Kind.Plain ∷ ks) e = refl
answers-none (Kind.TranslatedEpsv ∷ ks) e = refl
answers-none (Kind.Own a ∷ ks) e = absurd (omega arith)
answers-none (Kind.Auth ∷ ks) e = refl

-- no own answer stands at the head
pub record NoAnswer (ks : List Kind) : Type 0 where
  pub count : answers_at_head ks ≡ 0
  pub text : head_answers ks ≡ []

-- the own answer a stands there, and what follows it is ms
pub record OneAnswer (a : OwnAnswer) (ks ms : List Kind) : Type 0 where
  pub count : answers_at_head ks ≡ 1 + answers_at_head ms
  pub text : head_answers ks ≡ answer_line a ++ head_answers ms
  pub size : length (head_answers ks) ≡ length (answer_line a) + length (head_answers ms)
  pub short : length (answer_line a) ≤ longest_answer

pub none-at-end : (ks : List Kind) → ks ≡ [] → NoAnswer ks
unfolding answers_at_head head_answers
none-at-end ks e = record { count = ap answers_at_head e; text = ap head_answers e }

-- what comes first is AUTH, or something else that is no own answer
pub stops : (ks : List Kind) {n : Next} → n ≡ next_first ks → ((a : OwnAnswer) → n ≡ Next.Answer a → ⊥) → NoAnswer ks
unfolding next_first answers_at_head head_answers
stops [] e f = record { count = refl; text = refl }
stops (Kind.Plain ∷ ks) e f = record { count = refl; text = refl }
stops (Kind.TranslatedEpsv ∷ ks) e f = record { count = refl; text = refl }
stops (Kind.Own a ∷ ks) e f = absurd (f a e)
stops (Kind.Auth ∷ ks) e f = record { count = refl; text = refl }

pub auth-next : (ks : List Kind) {n : Next} → n ≡ next_first ks → next_is_auth n ≡ auth_at_head ks
unfolding next_first auth_at_head
auth-next [] e = ap next_is_auth e
auth-next (Kind.Plain ∷ ks) e = ap next_is_auth e
auth-next (Kind.TranslatedEpsv ∷ ks) e = ap next_is_auth e
auth-next (Kind.Own a ∷ ks) e = ap next_is_auth e
auth-next (Kind.Auth ∷ ks) e = ap next_is_auth e

first-answer : (a : OwnAnswer) (ks : List Kind) {n : Next} → n ≡ next_first ks → n ≡ Next.Answer a → OneAnswer a ks (drop 1 ks)
unfolding next_first answers_at_head head_answers
first-answer a [] e f = let z : ◌≡◌ {A = ℕ} 0 1 = cc in absurd (omega arith)
first-answer a (Kind.Plain ∷ ks) e f = let z : ◌≡◌ {A = ℕ} 0 1 = cc in absurd (omega arith)
first-answer a (Kind.TranslatedEpsv ∷ ks) e f = let z : ◌≡◌ {A = ℕ} 0 1 = cc in absurd (omega arith)
first-answer a (Kind.Own b ∷ ks) e f =
    let same : b ≡ a = cc in
    let whole : answer_line b ++ head_answers ks ≡ answer_line a ++ head_answers ks = ap (λ (o : OwnAnswer). answer_line o ++ head_answers ks) same in
    record {
      count = omega arith;
      text = whole;
      size = ap (λ (l : List ℕ). length l) whole ∙ length-append (answer_line a) (head_answers ks);
      short = answer-most a;
    }
first-answer a (Kind.Auth ∷ ks) e f = let z : ◌≡◌ {A = ℕ} 0 1 = cc in absurd (omega arith)

-- the own answer at number i of a queue, and those from the next number on
pub goes_on : (ks : List Kind) (i : ℕ) (a : OwnAnswer) {n : Next} → n ≡ next_first (drop i ks) → n ≡ Next.Answer a
    → OneAnswer a (drop i ks) (drop (i + 1) ks)
goes_on ks i a e f = rw drop-drop at (first-answer a (drop i ks) e f)

-- where an own answer comes first from number i on, number i is one of the queue
pub stands : (ks : List Kind) (i : ℕ) {n : Next} {a : OwnAnswer} → n ≡ next_first (drop i ks) → n ≡ Next.Answer a → i < length ks
unfolding next_first
stands [] zero e f = cc
stands [] (suc i) e f = cc
stands (k ∷ ks) zero e f = omega arith
stands (k ∷ ks) (suc i) e f = let h = stands ks i e f in omega arith

-- so it is one of the kinds that there is room for
pub has_room : (kinds : List ℕ) (owed i : ℕ) {n : Next} {a : OwnAnswer} → length kinds ≡ most_owed → n ≡ next_first (drop i (queue_of kinds owed)) → n ≡ Next.Answer a
    → i < most_owed
has_room kinds owed i long e f = omega (arith, stands (queue_of kinds owed) i e f, queue-most kinds owed)
