-- The owed kinds as numbers of the record.
use Rattle.std.specs.Prelude.{Option, None, Some}
use Rattle.std.specs.Prelude.{Bool, true, false, List, [], ◌∷◌, ◌++◌, map, ℕ, suc, ◌-◌, eqb, leb, ltb, length, take, drop, set, get_or}
use Rattle.rules.specs.Octets.{choose}
use Rattle.rules.specs.declared.OwnAnswer.{OwnAnswer}
use Rattle.rules.specs.declared.Kind.{Kind}

-- the numbers of "four of 216": by whether EPSV is on, and whether EPRT is
unfoldable pub state_code : Bool → Bool → ℕ
state_code false false = 4
state_code true false = 5
state_code false true = 6
state_code true true = 7

-- the number of "an answer of the gateway's own (522, 504, four of 216)"
unfoldable pub answer_code : OwnAnswer → ℕ
answer_code OwnAnswer.ProtocolNotSupported = 2
answer_code OwnAnswer.ParameterNotImplemented = 3
answer_code (OwnAnswer.State sw) = state_code sw.epsv sw.eprt

-- AUTH's number, and the last of a kind
abbrev pub auth_code : ℕ
auth_code = 8

-- the last number that a kind has
abbrev pub last_code : ℕ
last_code = auth_code

-- the number of a kind
unfoldable pub code_of : Kind → ℕ
code_of Kind.Plain = 0
code_of Kind.TranslatedEpsv = 1
code_of (Kind.Own a) = answer_code a
code_of Kind.Auth = auth_code

-- "an owed kind not listed here" has a number over the last one
unfoldable pub is_listed : ℕ → Bool
is_listed n = leb n last_code

-- the kind of a 216 that tells this state of EPSV and EPRT
abbrev pub state_kind : Bool → Bool → Kind
state_kind epsv eprt = Kind.Own (OwnAnswer.State (record { epsv = epsv; eprt = eprt }))

-- the kind of a number; one that is not listed counts as plain, and is refused before it counts
unfoldable pub kind_of : ℕ → Kind
kind_of n =
    choose (eqb n 1) Kind.TranslatedEpsv
    (choose (eqb n 2) (Kind.Own OwnAnswer.ProtocolNotSupported)
    (choose (eqb n 3) (Kind.Own OwnAnswer.ParameterNotImplemented)
    (choose (eqb n 4) (state_kind false false)
    (choose (eqb n 5) (state_kind true false)
    (choose (eqb n 6) (state_kind false true)
    (choose (eqb n 7) (state_kind true true)
    (choose (eqb n auth_code) Kind.Auth Kind.Plain)))))))

-- the kinds owed, first one first
unfoldable pub queue_of : List ℕ → ℕ → List Kind
queue_of kinds owed = map kind_of (take owed kinds)

-- the first kind owed, if one is
unfoldable pub head_of : List ℕ → ℕ → Option Kind
head_of kinds owed = choose (eqb owed 0) None (Some (kind_of (get_or kinds 0 0)))

-- how many of the gateway's own answers stand at the head of a queue
unfoldable pub answers_at_head : List Kind → ℕ
answers_at_head [] = 0
answers_at_head (Kind.Plain ∷ ks) = 0
answers_at_head (Kind.TranslatedEpsv ∷ ks) = 0
answers_at_head (Kind.Own a ∷ ks) = suc (answers_at_head ks)
answers_at_head (Kind.Auth ∷ ks) = 0

-- a kind is put behind the last one owed
unfoldable pub pushed : List ℕ → ℕ → Option Kind → List ℕ
pushed kinds owed None = kinds
pushed kinds owed (Some k) = set kinds owed (code_of k)

-- the numbers moved n positions to the front; those behind the last one owed stay
unfoldable pub shifted : List ℕ → ℕ → ℕ → List ℕ
shifted kinds n owed = drop n (take owed kinds) ++ drop (owed - n) kinds

-- the same in an array that has them all; numbers that it does not have are not moved
abbrev pub shifted_in : List ℕ → ℕ → ℕ → List ℕ
shifted_in kinds n owed = choose (leb owed (length kinds)) (shifted kinds n owed) kinds

-- behind the first n kinds none is owed, or the first one's number is that of a plain reply or a translated EPSV
unfoldable pub is_still : List ℕ → ℕ → ℕ → Bool
is_still kinds n owed = choose (leb owed n) true (ltb (get_or kinds n 0) 2)

-- this page's definitions, for a proof that computes with them
unfoldable pub kinds-opened : Unit {0}
unfolding state_code answer_code code_of is_listed kind_of queue_of head_of answers_at_head pushed shifted is_still
kinds-opened = tt
