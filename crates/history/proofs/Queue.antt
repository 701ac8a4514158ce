-- The array of kinds with its count, and the list of kinds that the reading has.
use Rattle.std.specs.Prelude.{Option, None, Some}
use mathlib.Core.Path.{◌≡◌, refl, ap, ◌∙◌}
use mathlib.Core.Bool.{Bool, true, false}
use mathlib.Core.List.{List, [], ◌∷◌, ◌++◌, map, append-nil}
use Prim.Native.Nat.{ℕ, zero, suc, ◌+◌, ◌-◌, ◌≤◌, ◌<◌}
use native.Mathlib.Omega.{arith}
use lib.Dec.{eqb-suc-zero, lit≤}
use lib.ListN.{length, take, drop, set, replicate}
use Rattle.rules.specs.Octets.{choose, every}
use Rattle.rules.specs.Answers.{most_owed}
use Rattle.rules.specs.Replies.{removed, owed_after, without_answers}
use Rattle.rules.specs.declared.OwnAnswer.{OwnAnswer}
use Rattle.rules.specs.declared.Kind.{Kind}
use Rattle.rules.specs.declared.ReplyLine.{ReplyLine}
use Rattle.queue.specs.Kinds.{
  pushed,
  state_code,
  answer_code,
  code_of,
  is_listed,
  state_kind,
  kind_of,
  queue_of,
  head_of,
  answers_at_head,
  shifted,
}
use Rattle.downstream.specs.Downstream.{kind_removed, head_removed, line_removes}
use Rattle.queue.proofs.Listed.{Listed, pushed_front, listed-push, shifted-queue, listed-leave}
use Rattle.steps.specs.Steps.{owed_then}

-- ---- lists

map_snoc : {A B : Type 0} (f : A → B) (l : List A) (x : A) → map f (l ++ (x ∷ [])) ≡ map f l ++ (f x ∷ [])
map_snoc f [] x = refl
map_snoc f (y ∷ l) x = ap (λ t. f y ∷ t) (map_snoc f l x)

-- ---- a kind and its number

state-code : (a b : Bool) → kind_of (state_code a b) ≡ state_kind a b
unfolding kind_of state_code choose
state-code false false = refl
state-code true false = refl
state-code false true = refl
state-code true true = refl

kind-code : (k : Kind) → kind_of (code_of k) ≡ k
unfolding kind_of code_of answer_code choose
kind-code Kind.Plain = refl
kind-code Kind.TranslatedEpsv = refl
kind-code (Kind.Own OwnAnswer.ProtocolNotSupported) = refl
kind-code (Kind.Own OwnAnswer.ParameterNotImplemented) = refl
kind-code (Kind.Own (OwnAnswer.State sw)) = state-code sw.epsv sw.eprt
kind-code Kind.Auth = refl

-- ---- the relation

pub record Queue (kinds : List ℕ) (owed : ℕ) (ks : List Kind) : Type 0 where
  pub same : queue_of kinds owed ≡ ks
  pub array : Listed kinds owed

-- one plain kind: the greeting
pub queue-fresh : Queue (replicate most_owed 0) 1 (Kind.Plain ∷ [])
unfolding queue_of kind_of every is_listed choose
queue-fresh = record { same = refl; array = record { size = refl; most = lit≤ tt; listed = refl } }

-- ---- a kind is put behind the last one

abbrev pub owes_list : Option Kind → List Kind
owes_list None = []
owes_list (Some k) = k ∷ []

-- there is room for what is owed
abbrev pub RoomFor : ℕ → Option Kind → Type 0
RoomFor owed None = Unit {0}
RoomFor owed (Some k) = owed < most_owed

pub queue-push : {kinds : List ℕ} {owed : ℕ} {ks : List Kind} → Queue kinds owed ks → (o : Option Kind) → RoomFor owed o
    → Queue (pushed kinds owed o) (owed_then owed o) (ks ++ owes_list o)
unfolding pushed owed_then queue_of
queue-push {kinds} {owed} {ks} q None h = rw (append-nil ks) q
queue-push {kinds} {owed} {ks} q (Some k) h =
    let put : take (owed + 1) (set kinds owed (code_of k)) ≡ take owed kinds ++ (code_of k ∷ []) =
    pushed_front kinds owed k (omega (arith, q.array.size)) in
    record {
      same = rw (put, map_snoc kind_of (take owed kinds) (code_of k), kind-code k, q.same);
      array = listed-push q.array k h;
    }

-- ---- the first m kinds leave

pub queue-leave : {kinds : List ℕ} {owed : ℕ} {ks : List Kind} → Queue kinds owed ks → (m : ℕ)
    → Queue (shifted kinds m owed) (owed - m) (drop m ks)
queue-leave {kinds} {owed} {ks} q m =
    record {
      same = shifted-queue kinds m owed (omega (arith, q.array.size, q.array.most)) ∙ ap (λ (l : List Kind). drop m l) q.same;
      array = listed-leave q.array m;
    }

-- ---- the first kind, and what a server line removes

-- the kind that comes first
abbrev pub first_of : List Kind → Option Kind
first_of [] = None
first_of (k ∷ ks) = Some k

head_first : (kinds : List ℕ) (owed : ℕ) → owed ≤ length kinds → head_of kinds owed ≡ first_of (queue_of kinds owed)
unfolding head_of queue_of choose
head_first kinds zero h = refl
head_first [] (suc n) h = absurd (omega arith)
head_first (x ∷ kinds) (suc n) h = rw (eqb-suc-zero n)

pub queue-first : {kinds : List ℕ} {owed : ℕ} {ks : List Kind} → Queue kinds owed ks → head_of kinds owed ≡ first_of ks
queue-first {kinds} {owed} q = head_first kinds owed (omega (arith, q.array.size, q.array.most)) ∙ ap first_of q.same

pub removes-drop : (r : ReplyLine) (ks : List Kind) → drop (line_removes r (first_of ks)) ks ≡ owed_after r ks
unfolding line_removes head_removed kind_removed owed_after removed
removes-drop (ReplyLine.Opens code) ks = refl
removes-drop ReplyLine.Belongs ks = refl
removes-drop ReplyLine.StandsAlone ks = refl
removes-drop ReplyLine.Preliminary ks = refl
removes-drop ReplyLine.Final [] = refl
removes-drop ReplyLine.Final (Kind.Plain ∷ ks) = refl
removes-drop ReplyLine.Final (Kind.TranslatedEpsv ∷ ks) = refl
removes-drop ReplyLine.Final (Kind.Own a ∷ ks) = refl
removes-drop ReplyLine.Final (Kind.Auth ∷ ks) = refl

-- ---- the gateway's own answers

pub answers-drop : (ks : List Kind) → drop (answers_at_head ks) ks ≡ without_answers ks
unfolding answers_at_head without_answers
answers-drop [] = refl
answers-drop (Kind.Plain ∷ ks) = refl
answers-drop (Kind.TranslatedEpsv ∷ ks) = refl
answers-drop (Kind.Own a ∷ ks) = answers-drop ks
answers-drop (Kind.Auth ∷ ks) = refl
