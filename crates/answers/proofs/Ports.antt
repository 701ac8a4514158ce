-- The ports that a client line and a 227 line are read with are at most 65,535.
use mathlib.Core.Path.{◌≡◌, refl}
use mathlib.Core.Bool.{Bool, true}
use mathlib.Core.List.{List, [], ◌∷◌, ◌++◌}
use Rattle.std.specs.Prelude.{Option, None, Some, option_map}
use Prim.Native.Nat.{ℕ, zero, suc, ◌+◌, ◌*◌, ◌≤◌}
use native.Mathlib.Omega.{arith}
use lib.ListN.{get_or, drop}
use borrow.Author.Tests.{le-leb}
use Rattle.rules.specs.Octets.{every, digit, number, front, after, parts}
use Rattle.rules.specs.Address.{both, octet_number}
use Rattle.rules.specs.Commands.{
  epsv_argument,
  epsv_command,
  Fields,
  three_fields,
  fields_argument,
  eprt_argument,
  eprt_command,
  algs_argument,
  algs_command,
  word_command,
  command,
}
use Rattle.rules.specs.Replies.{after_comma, numbers, passive_at, passive_reply}
use Rattle.rules.specs.declared.Switches.{Switches}
use Rattle.rules.specs.declared.CommandWord.{CommandWord}
use Rattle.rules.specs.declared.OwnAnswer.{OwnAnswer}
use Rattle.rules.specs.declared.EpsvArgument.{EpsvArgument}
use Rattle.rules.specs.declared.AlgsArgument.{AlgsArgument}
use Rattle.rules.specs.declared.Command.{Command}
use Rattle.rules.specs.declared.PassiveReply.{PassiveReply}
use Rattle.rules.specs.declared.Fixed.{Fixed}
use Rattle.octets.proofs.Runs.{every_append}
use Rattle.octets.proofs.Choices.{either}
use Rattle.address.proofs.Numbers.{number-le}
use Rattle.answers.proofs.Lengths.{is_octet, octet-at}

-- ---- numbers

-- a number that is read, if one is, is at most n
data Most (n : ℕ) : Option ℕ → Type 0 where
  nothing : Most n None
  most : (v : ℕ) → v ≤ n → Most n (Some v)

number-most : (digits lo hi : ℕ) (xs : List ℕ) → Most hi (number digits lo hi xs)
number-most digits lo hi xs = as_read (number digits lo hi xs) refl
  where
    as_read : (o : Option ℕ) → number digits lo hi xs ≡ o → Most hi o
    as_read None e = nothing
    as_read (Some v) e = most v (number-le digits lo hi xs v e)

-- ---- a client line

pub data SmallCommand : Command → Type 0 where
  passes : SmallCommand Command.Passes
  passive : SmallCommand Command.Passive
  port : (p : ℕ) → p ≤ 65535 → SmallCommand (Command.Port p)
  answered : (a : OwnAnswer) → SmallCommand (Command.Answered a)
  auth : SmallCommand Command.Auth

argument-fields : (client : List ℕ) (f : Fields) → Most 65535 (fields_argument client f)
unfolding fields_argument
argument-fields client None = nothing
argument-fields client (Some (protocol, address, p)) =
    either (Most 65535) _ _ _ (number-most 5 1 65535 p) nothing

argument-small : (client a : List ℕ) → Most 65535 (eprt_argument client a)
unfolding eprt_argument
argument-small client [] = nothing
argument-small client (d ∷ r) = either (Most 65535) _ _ _ (argument-fields client (three_fields (parts d (d ∷ r)))) nothing

eprt-small : (a : Option ℕ) → Most 65535 a → SmallCommand (eprt_command a)
unfolding eprt_command
eprt-small (Some p) (most q h) = port q h
eprt-small None h = passes

epsv-small : (a : EpsvArgument) → SmallCommand (epsv_command a)
unfolding epsv_command
epsv-small EpsvArgument.Passive = passive
epsv-small EpsvArgument.OtherProtocol = answered _
epsv-small EpsvArgument.All = answered _
epsv-small EpsvArgument.Other = passes

algs-small : (supported : Bool) (sw : Switches) (a : AlgsArgument) → SmallCommand (algs_command supported sw a)
unfolding algs_command
algs-small supported sw AlgsArgument.Status64 = answered _
algs-small supported sw AlgsArgument.Enable64 = answered _
algs-small supported sw AlgsArgument.Disable64 = answered _
algs-small supported sw AlgsArgument.Other = answered _

word_small : (f : Fixed) (sw : Switches) (w : CommandWord) (a : List ℕ)
    → SmallCommand (word_command f sw w a)
unfolding word_command
word_small f sw CommandWord.Epsv a = either SmallCommand _ _ _ (epsv-small (epsv_argument a)) passes
word_small f sw CommandWord.Eprt a =
    either SmallCommand _ _ _ (eprt-small (eprt_argument f.client a) (argument-small f.client a)) passes
word_small f sw CommandWord.Algs a = algs-small f.supported sw (algs_argument a)
word_small f sw CommandWord.Auth a = auth
word_small f sw CommandWord.Other a = passes

pub command-small : (f : Fixed) (sw : Switches) (l : List ℕ) → SmallCommand (command f sw l)
unfolding command
command-small f sw l = word_small f sw _ _

-- ---- a 227 line

-- the numbers that are read, if some are, are octets
data Octets : Option (List ℕ) → Type 0 where
  nothing : Octets None
  octets : (ns : List ℕ) → every is_octet ns ≡ true → Octets (Some ns)

one-octet : (o : Option ℕ) → Most 255 o → Octets (option_map (λ n. n ∷ []) o)
unfolding every
one-octet None m = nothing
one-octet (Some n) (most v h) = octets (v ∷ []) (rw (le-leb v 255 h))

number-octet : (d : List ℕ) → Octets (octet_number d)
unfolding octet_number
number-octet d = one-octet (number 3 0 255 d) (number-most 3 0 255 d)

both-octets : (a b : Option (List ℕ)) → Octets a → Octets b → Octets (both a b)
unfolding both
both-octets None b p q = nothing
both-octets (Some a) None p q = nothing
both-octets (Some a) (Some b) (octets c p) (octets d q) = octets (c ++ d) (every_append is_octet c d p q)

numbers-octets : (k : ℕ) (t : List ℕ) → Octets (numbers k t)
unfolding numbers after_comma
numbers-octets zero t = number-octet (front digit t)
numbers-octets (suc k) t =
    both-octets _ _ (number-octet (front digit t)) (either Octets _ _ _ (numbers-octets k (drop 1 (after digit t))) nothing)

pub data SmallReply : Option PassiveReply → Type 0 where
  named : (r : PassiveReply) → r.port ≤ 65535 → SmallReply (Some r)
  unreadable : SmallReply None

port-small : (o : Option (List ℕ)) → Octets o → SmallReply (passive_at o)
unfolding passive_at
port-small None p = unreadable
port-small (Some l) (octets ns e) =
    either SmallReply _ _ _ unreadable
    (named _ (omega (arith, octet-at ns 4 e, octet-at ns 5 e)))

pub reply-small : (c : List ℕ) → SmallReply (passive_reply c)
unfolding passive_reply
reply-small c = either SmallReply _ _ _ (port-small _ (numbers-octets 5 _)) unreadable
