-- What comes first in a queue, and what leaves it.
use Rattle.std.specs.Prelude.{Bool, true, false, List, [], ◌∷◌, ℕ, ◌+◌, length, drop}
use Rattle.rules.specs.Octets.{choose}
use Rattle.rules.specs.Replies.{head_answers, auth_at_head}
use Rattle.rules.specs.declared.Kind.{Kind}
use Rattle.queue.specs.declared.Next.{Next}
use Rattle.queue.specs.declared.Plan.{Plan}
use Rattle.queue.specs.Kinds.{answers_at_head}

-- what a kind is where it comes next: an own answer, AUTH, or neither
abbrev pub next_of : Kind → Next
next_of Kind.Plain = Next.Other
next_of Kind.TranslatedEpsv = Next.Other
next_of (Kind.Own a) = Next.Answer a
next_of Kind.Auth = Next.Auth

-- what comes first in a queue
unfoldable pub next_first : List Kind → Next
next_first [] = Next.Other
next_first (k ∷ ks) = next_of k

-- it is AUTH
abbrev pub next_is_auth : Next → Bool
next_is_auth (Next.Answer a) = false
next_is_auth Next.Auth = true
next_is_auth Next.Other = false

-- ---- own answers and the AUTH step, where `blocked` answers have to wait

-- how many kinds leave the queue in all: the n removed and the own answers behind them
abbrev pub leaving_from : Bool → List Kind → ℕ → ℕ
leaving_from blocked ks n = choose blocked n (n + answers_at_head (drop n ks))

-- what is written for those own answers
abbrev pub answers_from : Bool → List Kind → ℕ → List ℕ
answers_from blocked ks n = choose blocked [] (head_answers (drop n ks))

-- AUTH is first then
abbrev pub auth_after : Bool → List Kind → ℕ → Bool
auth_after blocked ks n = auth_at_head (drop (leaving_from blocked ks n) ks)

-- the same in numbers
unfoldable pub plan_of : Bool → List Kind → ℕ → Plan
plan_of blocked ks n =
    record {
      leaving = leaving_from blocked ks n;
      answers = length (answers_from blocked ks n);
      auth = auth_after blocked ks n;
    }
