-- Octets, words and numbers: what the pages after this one are written with.
use Rattle.std.specs.Prelude.{Bool, true, false, ◌&&◌, not, List, [], ◌∷◌, ◌++◌, map, ℕ, zero, suc, ◌+◌, ◌-◌, ◌*◌, ◌/◌, ◌%◌, leb, ltb, eqb, length, take, drop}
use Rattle.std.specs.Prelude.{Option, None, Some}
use Prim.Native.Char.{code}
use Prim.Native.String as S
use Prim.Native.String.{String}

-- the octets of a quoted text
abbrev pub oct : String → List ℕ
oct S.[] = []
oct (S.◌∷◌ c s) = code c ∷ oct s

-- LF, which ends a line
abbrev pub lf : ℕ
lf = 10

-- CR
abbrev pub cr : ℕ
cr = 13

-- a space
abbrev pub space : ℕ
space = 32

-- a comma
abbrev pub comma : ℕ
comma = 44

-- a hyphen
abbrev pub hyphen : ℕ
hyphen = 45

-- a dot
abbrev pub dot : ℕ
dot = 46

-- a colon
abbrev pub colon : ℕ
colon = 58

-- 255, Telnet's IAC: "Interpret as Command"
abbrev pub iac : ℕ
iac = 255

-- one or the other by a test. The library's `cond` always unfolds; this one can stay shut, so that a law about it can be cited
unfoldable pub choose : {A : Type 0} → Bool → A → A → A
choose true x y = x
choose false x y = y

-- there is nothing in a list
abbrev pub is_empty : {A : Type 0} → List A → Bool
is_empty [] = true
is_empty (x ∷ xs) = false

-- a number is lo to hi, both included
abbrev pub within : ℕ → ℕ → ℕ → Bool
within lo hi x = leb lo x && leb x hi

-- an octet is d, or is not
abbrev pub is : ℕ → ℕ → Bool
is d x = eqb x d

-- an octet is not d
abbrev pub is_not : ℕ → ℕ → Bool
is_not d x = not (eqb x d)

-- an octet is neither d nor e
abbrev pub is_neither : ℕ → ℕ → ℕ → Bool
is_neither d e x = is_not d x && is_not e x

-- each octet passes a test
unfoldable pub every : (ℕ → Bool) → List ℕ → Bool
every p [] = true
every p (x ∷ xs) = p x && every p xs

-- two texts are the same octets
unfoldable pub equal : List ℕ → List ℕ → Bool
equal [] [] = true
equal [] (y ∷ ys) = false
equal (x ∷ xs) [] = false
equal (x ∷ xs) (y ∷ ys) = eqb x y && equal xs ys

-- a letter a to z as its capital, any other octet as it is
unfoldable pub capital : ℕ → ℕ
capital x = choose (within 97 122 x) (x - 32) x

-- "Words are compared without regard to letter case": a text and a word, which is given in capitals
unfoldable pub alike : List ℕ → List ℕ → Bool
alike xs w = equal (map capital xs) w

-- how many octets at the front pass a test; those octets; and what follows them
unfoldable pub run : (ℕ → Bool) → List ℕ → ℕ
run p [] = 0
run p (x ∷ xs) = choose (p x) (suc (run p xs)) 0

-- those octets
unfoldable pub front : (ℕ → Bool) → List ℕ → List ℕ
front p xs = take (run p xs) xs

-- what follows them
unfoldable pub after : (ℕ → Bool) → List ℕ → List ℕ
after p xs = drop (run p xs) xs

-- an octet before what is kept, unless it passes the test and nothing is kept
unfoldable pub keep_unless : Bool → ℕ → List ℕ → List ℕ
keep_unless true x [] = []
keep_unless false x [] = x ∷ []
keep_unless b x (y ∷ ys) = x ∷ y ∷ ys

-- without the octets at the end that pass a test
unfoldable pub trim_end : (ℕ → Bool) → List ℕ → List ℕ
trim_end p [] = []
trim_end p (x ∷ xs) = keep_unless (p x) x (trim_end p xs)

-- an octet before the first part
unfoldable pub onto_first : ℕ → List (List ℕ) → List (List ℕ)
onto_first x [] = (x ∷ []) ∷ []
onto_first x (p ∷ ps) = (x ∷ p) ∷ ps

-- the parts between the octets d: one more than there are of them
unfoldable pub parts : ℕ → List ℕ → List (List ℕ)
parts d [] = [] ∷ []
parts d (x ∷ xs) = choose (eqb x d) ([] ∷ parts d xs) (onto_first x (parts d xs))

-- an octet is a digit
abbrev pub digit : ℕ → Bool
digit x = within 48 57 x

-- an octet is no digit
abbrev pub not_digit : ℕ → Bool
not_digit x = not (digit x)

-- the number that digits write, after those that wrote n
unfoldable pub value_from : ℕ → List ℕ → ℕ
value_from n [] = n
value_from n (x ∷ xs) = value_from (n * 10 + (x - 48)) xs

-- the number that digits write
unfoldable pub value : List ℕ → ℕ
value xs = value_from 0 xs

-- a text of 1 to n digits whose value is lo to hi
unfoldable pub number : ℕ → ℕ → ℕ → List ℕ → Option ℕ
number n lo hi xs =
    choose (within 1 n (length xs) && every digit xs && within lo hi (value xs)) (Some (value xs)) None

-- "numbers in them are decimal without leading zeros"; the first argument only bounds the recursion
unfoldable pub decimal_by : ℕ → ℕ → List ℕ
decimal_by zero n = (48 + n) ∷ []
decimal_by (suc f) n =
    elim (ltb n 10) [ true ↦ (48 + n) ∷ [] | false ↦ decimal_by f (n / 10) ++ ((48 + n % 10) ∷ []) ]

-- a number in decimal: its own value bounds the recursion
unfoldable pub decimal : ℕ → List ℕ
decimal n = decimal_by n n

-- this page's definitions, for a proof that computes with them
unfoldable pub octets-opened : Unit {0}
unfolding choose every equal capital alike run front after keep_unless trim_end onto_first parts value_from value number decimal_by decimal
octets-opened = tt
