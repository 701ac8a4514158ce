-- The lines that the gateway writes, as the parts that are put one after another.
use mathlib.Core.Path.{◌≡◌, ap, ◌∙◌}
use mathlib.Core.List.{List, [], ◌∷◌, ◌++◌, append_assoc}
use Prim.Native.Nat.{ℕ, ◌/◌, ◌%◌, ◌<◌, ◌≤◌}
use native.Mathlib.Omega.{arith}
use lib.ListN.{length, get_or, length-append, drop_of_length-le}
use lib.Seq.{drop-cons}
use Rattle.rules.specs.Octets.{oct, comma, decimal}
use Rattle.rules.specs.Commands.{commas, port_line}
use Rattle.rules.specs.Replies.{extended_passive_line}
use Rattle.std.specs.Int.{w16, to_be_bytes}
use Rattle.output.proofs.Decimal.{decimal-most}

-- two numbers with a comma between, and what follows them
pub pair : (a b : ℕ) (after : List ℕ) → (decimal a ++ (comma ∷ [])) ++ (decimal b ++ after) ≡ commas (a ∷ b ∷ []) ++ after
unfolding commas
pair a b after = simp append_assoc

-- a port as its two octets
pub high-low : (p : ℕ) → p < 65536 → to_be_bytes w16 p ≡ p / 256 ∷ p % 256 ∷ []
high-low p h =
    let high : p / 256 % 256 ≡ p / 256 = omega arith in
    ap (λ (n : ℕ). n ∷ p % 256 ∷ []) high

four : (l : List ℕ) → length l ≡ 4 → l ≡ get_or l 0 0 ∷ get_or l 1 0 ∷ get_or l 2 0 ∷ get_or l 3 0 ∷ []
four l e =
    let a : 0 < length l = omega arith in
    let b : 1 < length l = omega arith in
    let c : 2 < length l = omega arith in
    let d : 3 < length l = omega arith in
    let done : length l ≤ 4 = omega arith in
    cc (drop-cons l 0 0 a, drop-cons l 1 0 b, drop-cons l 2 0 c, drop-cons l 3 0 d, drop_of_length-le l done)

six : (a b c d e f : ℕ) → oct "PORT " ++ (commas (a ∷ b ∷ c ∷ d ∷ e ∷ f ∷ []) ++ oct "\r\n")
    ≡ oct "PORT " ++ ((commas (a ∷ b ∷ []) ++ oct ",") ++ ((commas (c ∷ d ∷ []) ++ oct ",") ++ (commas (e ∷ f ∷ []) ++ oct "\r\n")))
unfolding commas
six a b c d e f = simp append_assoc

-- the numbers of the PORT line by twos
pub port-pairs : (l : List ℕ) (p : ℕ) → length l ≡ 4 → port_line l p
    ≡ oct "PORT " ++ ((commas (get_or l 0 0 ∷ get_or l 1 0 ∷ []) ++ oct ",") ++ ((commas (get_or l 2 0 ∷ get_or l 3 0 ∷ []) ++ oct ",") ++ (commas (p / 256 ∷ p % 256 ∷ []) ++ oct "\r\n")))
unfolding port_line
port-pairs l p e =
    ap (λ (m : List ℕ). oct "PORT " ++ (commas (m ++ (p / 256 ∷ p % 256 ∷ [])) ++ oct "\r\n")) (four l e)
    ∙ six (get_or l 0 0) (get_or l 1 0) (get_or l 2 0) (get_or l 3 0) (p / 256) (p % 256)

-- the longest PORT line: six numbers of three digits
pub port-most : (l : List ℕ) (p : ℕ) → length l ≡ 4 → ((i : ℕ) → get_or l i 0 < 256) → p < 65536 → length (port_line l p) ≤ 30
unfolding commas
port-most l p e octets h =
    let three : (n : ℕ) → n < 256 → length (decimal n) ≤ 3 = λ n k. decimal-most 2 n (omega arith) in
    rw (port-pairs l p e)
    (simp length-append
    (omega (arith, three (get_or l 0 0) (octets 0), three (get_or l 1 0) (octets 1), three (get_or l 2 0) (octets 2), three (get_or l 3 0) (octets 3), three (p / 256) (omega arith), three (p % 256) (omega arith))))

pub extended-passive-most : (p : ℕ) → p < 65536 → length (extended_passive_line p) ≤ 48
unfolding extended_passive_line
extended-passive-most p h = simp length-append (omega (arith, decimal-most 4 p (omega arith)))
