-- The calls of a host in C: the number that it is told, the record's image, the buffers, the counts and the offset.
use Rattle.std.specs.Prelude.{Option, None, Some}
use Rattle.std.specs.Prelude.{List, [], ◌∷◌, ℕ, leb, length}
use Rattle.rules.specs.Octets.{choose}
use Rattle.rules.specs.Answers.{answer_number}
use Rattle.rules.specs.declared.Answer.{Answer}
use Rattle.records.specs.Layout.{image_size}
use Rattle.steps.specs.declared.Written.{Written}
use Rattle.session.specs.declared.Called.{Called}
use Rattle.setups.specs.declared.Prepared.{Prepared}

-- ---- setup

-- memory in which the record has no room is refused too
unfoldable pub setup_number : List ℕ → Prepared → ℕ
setup_number image p = choose (leb image_size (length image)) (answer_number p.answer) (answer_number Answer.BadSetup)

-- ---- arrival and end

-- the three counts: octets taken, written to the server and written to the client
abbrev pub counts_from : ℕ → Written → List ℕ
counts_from taken w = taken ∷ w.server ∷ w.client ∷ []

-- those of a call
unfoldable pub counts_of : Called → List ℕ
counts_of k = counts_from k.taken k.written

-- a direction's number in an octet: every number but 0 and 1 is refused with 3, and 2 stands for them all
unfoldable pub narrow : ℕ → ℕ
narrow d = choose (leb 2 d) 2 d

-- ---- offset

-- the number that a host is told: number 3 where the direction has no offset
unfoldable pub offset_number : Option ℕ → ℕ
offset_number (Some n) = answer_number Answer.Done
offset_number None = answer_number Answer.UnknownDirection

-- the number that the offset is set to; it stays as it was for a direction that there is not
unfoldable pub offset_after : Option ℕ → ℕ → ℕ
offset_after (Some n) old = n
offset_after None old = old
