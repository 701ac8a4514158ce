-- A line by its parts, as the code reads them.
use mathlib.Core.Path.{◌≡◌, refl, sym}
use mathlib.Core.Bool.{true, false}
use mathlib.Core.List.{List}
use Prim.Native.Nat.{ℕ, ◌<◌}
use native.Mathlib.Omega.{arith}
use lib.ListN.{length}
use lib.Seq.{take_all}
use Rattle.rules.specs.Octets.{oct}
use Rattle.rules.specs.Lines.{content, word, argument, starts_auth}
use Rattle.rules.specs.Commands.{command_word, word_command, command}
use Rattle.rules.specs.declared.Switches.{Switches}
use Rattle.rules.specs.declared.CommandWord.{CommandWord}
use Rattle.rules.specs.declared.Command.{Command}
use Rattle.rules.specs.declared.Fixed.{Fixed}
use Rattle.commands.specs.Plain.{is_other, is_plain}
use Rattle.octets.proofs.Words.{alike-lengths}

-- a line of under five octets does not start with AUTH and a space
pub auth-short : (l : List ℕ) → length l < 5 → false ≡ starts_auth l
unfolding starts_auth
auth-short l h = rw (take_all 5 l (omega arith)) (sym (alike-lengths l (oct "AUTH ") (λ e. omega arith)))

-- the line l with the content t, which begins with the command k, and the argument a
pub by_word : (f : Fixed) (sw : Switches) (l : List ℕ) {t a : List ℕ} {k : CommandWord} → t ≡ content l → a ≡ argument t → k ≡ command_word (word t) → word_command f sw k a ≡ command f sw l
unfolding command
by_word f sw l et ea ek = rw (ek, ea, et)

-- whether that line is plain
pub by-plain : (l : List ℕ) {t : List ℕ} {k : CommandWord} → t ≡ content l → k ≡ command_word (word t) → is_other k ≡ is_plain l
unfolding is_plain
by-plain l et ek = rw (ek, et)

other-passes : (f : Fixed) (sw : Switches) (k : CommandWord) (a : List ℕ) → is_other k ≡ true → word_command f sw k a ≡ Command.Passes
unfolding word_command is_other
other-passes f sw CommandWord.Epsv a h = cc
other-passes f sw CommandWord.Eprt a h = cc
other-passes f sw CommandWord.Algs a h = cc
other-passes f sw CommandWord.Auth a h = cc
other-passes f sw CommandWord.Other a h = refl

-- a plain line passes, whoever the client is and whatever is on
pub plain_passes : (f : Fixed) (switches : Switches) (line : List ℕ) → is_plain line ≡ true → command f switches line ≡ Command.Passes
unfolding command is_plain
plain_passes f switches line h = other-passes f switches (command_word (word (content line))) (argument (content line)) h
