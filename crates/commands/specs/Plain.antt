-- A line judged whole that passes whatever the switches are, since its word is none that the gateway looks for.
use Rattle.std.specs.Prelude.{Bool, true, false, List, ℕ}
use Rattle.rules.specs.Lines.{content, word}
use Rattle.rules.specs.Commands.{command_word}
use Rattle.rules.specs.declared.CommandWord.{CommandWord}

-- the word is none of the four
unfoldable pub is_other : CommandWord → Bool
is_other CommandWord.Epsv = false
is_other CommandWord.Eprt = false
is_other CommandWord.Algs = false
is_other CommandWord.Auth = false
is_other CommandWord.Other = true

-- a line judged whole whose word is none of them
unfoldable pub is_plain : List ℕ → Bool
is_plain l = is_other (command_word (word (content l)))
