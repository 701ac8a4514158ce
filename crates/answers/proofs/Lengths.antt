-- How long the texts are that one octet gives.
use mathlib.Core.Path.{◌≡◌, refl}
use mathlib.Core.Bool.{Bool, true, false, false≢true}
use mathlib.Core.List.{List, [], ◌∷◌}
use Prim.Native.Nat.{ℕ, zero, suc, ◌+◌, ◌*◌, ◌≤◌, ◌<◌}
use native.Mathlib.Omega.{arith}
use lib.Dec.{eqb, leb, lit≤}
use lib.ListN.{length, drop, get_or, length-append}
use borrow.Author.Tests.{leb-true, le-leb, eqb-true}
use Rattle.rules.specs.Octets.{lf, every, choose}
use Rattle.rules.specs.Lines.{judged, most_held, passed}
use Rattle.rules.specs.Commands.{port_line, pasv_line}
use Rattle.rules.specs.Replies.{extended_passive_line, cannot_open_line, head_answers, auth_at_head}
use Rattle.rules.specs.Telnet.{answer_of, command_of, unfinished_in}
use Rattle.rules.specs.declared.Telnet.{Telnet}
use Rattle.rules.specs.declared.Does.{Does}
use Rattle.rules.specs.declared.Kind.{Kind}
use Rattle.rules.specs.Answers.{longest_answer}
use Rattle.rules.specs.Setup.{ipv4_width}
use Rattle.octets.proofs.Ranges.{and_both}
use Rattle.octets.proofs.Passed.{passed-most}
use Rattle.queue.specs.Kinds.{answers_at_head}
use Rattle.steps.specs.Steps.{telnet_text}
use Rattle.own.proofs.Lengths.{answer-most}
use Rattle.writers.proofs.Lines.{port-most, extended-passive-most}

-- all that is used of the judged length: it has room for the lines that the gateway makes, and is one more than is held
pub judged-most : 64 ≤ judged
unfolding judged
judged-most = lit≤ tt

pub judged-held : judged ≡ most_held + 1
unfolding judged
judged-held = refl

-- ---- octets

abbrev pub is_octet : ℕ → Bool
is_octet n = leb n 255

-- where every number is an octet, each is, and so is the 0 that stands behind them
pub octet-at : (ns : List ℕ) (i : ℕ) → every is_octet ns ≡ true → get_or ns i 0 ≤ 255
unfolding every
octet-at [] i e = omega arith
octet-at (n ∷ ns) zero e = leb-true n 255 (and_both (is_octet n) (every is_octet ns) e).0
octet-at (n ∷ ns) (suc i) e = octet-at ns i (and_both (is_octet n) (every is_octet ns) e).1

-- and where each is one, every number is
pub octets-all : (ns : List ℕ) → ((i : ℕ) → i < length ns → get_or ns i 0 ≤ 255) → every is_octet ns ≡ true
unfolding every
octets-all [] h = refl
octets-all (n ∷ ns) h = rw (le-leb n 255 (h 0 (omega arith))) (octets-all ns (λ i less. h (suc i) (omega arith)))

-- ---- the lines that the gateway makes

pub port-line : (mapped : List ℕ) (p : ℕ) → length mapped ≡ ipv4_width → every is_octet mapped ≡ true → p ≤ 65535 → length (port_line mapped p) ≤ judged
port-line mapped p size octets small =
    omega (arith, judged-most, port-most mapped p size (λ i. omega (arith, octet-at mapped i octets)) (omega arith))

pub pasv-line : length pasv_line ≤ judged
unfolding pasv_line
pasv-line = omega (arith, judged-most)

pub passive-line : (p : ℕ) → p ≤ 65535 → length (extended_passive_line p) ≤ judged
passive-line p small = omega (arith, judged-most, extended-passive-most p (omega arith))

pub cannot-open-line : length cannot_open_line ≤ judged
unfolding cannot_open_line
cannot-open-line = omega (arith, judged-most)

-- the gateway's own answers
pub head-answers : (ks : List Kind) → length (head_answers ks) ≤ longest_answer * length ks
unfolding head_answers
head-answers [] = omega arith
head-answers (Kind.Plain ∷ ks) = omega arith
head-answers (Kind.TranslatedEpsv ∷ ks) = omega arith
head-answers (Kind.Own a ∷ ks) = simp length-append (omega (arith, answer-most a, head-answers ks))
head-answers (Kind.Auth ∷ ks) = omega arith

-- where AUTH comes behind them, one less is written than is owed
pub answers-auth : (ks : List Kind) → auth_at_head (drop (answers_at_head ks) ks) ≡ true → length (head_answers ks) + longest_answer ≤ longest_answer * length ks
unfolding head_answers answers_at_head auth_at_head
answers-auth [] e = absurd (false≢true e)
answers-auth (Kind.Plain ∷ ks) e = absurd (false≢true e)
answers-auth (Kind.TranslatedEpsv ∷ ks) e = absurd (false≢true e)
answers-auth (Kind.Own a ∷ ks) e = simp length-append (omega (arith, answer-most a, answers-auth ks e))
answers-auth (Kind.Auth ∷ ks) e = omega arith

-- ---- octets of a line, where they leave

pub passed-within : (xs : List ℕ) {n : ℕ} → length xs ≤ n → length (passed xs) ≤ 2 * n
passed-within xs h = omega (arith, passed-most xs)

-- LF is not doubled
pub lf-single : (x : ℕ) → eqb x lf ≡ true → length (passed (x ∷ [])) ≤ 1
unfolding passed choose
lf-single x e = rw (eqb-true x lf e) (omega arith)

-- ---- what the Telnet layer writes

both_most : (does : Does) → (length (command_of does) ≤ 3) × (length (answer_of does) ≤ 3)
both_most (Does.Data y) = (omega arith, omega arith)
both_most Does.Nothing = (omega arith, omega arith)
both_most (Does.AnswersDont x) = (omega arith, omega arith)
both_most (Does.AnswersWont x) = (omega arith, omega arith)
both_most (Does.Passes x) = (omega arith, omega arith)
both_most (Does.Removes n) = (omega arith, omega arith)

-- a command that passes, or an answer
pub telnet-most : (on : Bool) (does : Does) → length (telnet_text on does) ≤ 3
telnet-most true does = (both_most does).0
telnet-most false does = (both_most does).1

-- a command that is unfinished
pub unfinished-most : (in_lines : Bool) (t : Telnet) → length (unfinished_in in_lines t) ≤ 2
unfinished-most true Telnet.Clear = omega arith
unfinished-most true Telnet.Iac = omega arith
unfinished-most true Telnet.Will = omega arith
unfinished-most true Telnet.Wont = omega arith
unfinished-most true Telnet.Do = omega arith
unfinished-most true Telnet.Dont = omega arith
unfinished-most true Telnet.Within = omega arith
unfinished-most true Telnet.WithinIac = omega arith
unfinished-most false t = omega arith
