-- `writers::put_port_line` meets its contract: the text and three pairs of numbers put one after another, where all have room.
use mathlib.Core.Path.{ap}
use mathlib.Core.Bool.{not}
use mathlib.Core.Path.{◌≡◌, subst, sym, ◌∙◌}
use mathlib.Core.List.{List, [], ◌∷◌, ◌++◌}
use Prim.Native.Nat.{ℕ, ◌/◌, ◌%◌}
use lib.ListN.{length, get_or}
use Rattle.rules.specs.Octets.{oct}
use Rattle.rules.specs.Commands.{commas, port_line}
use Rattle.output.specs.Buffer.{PutInRoom}
use Rattle.output.proofs.Placing.{joined, refused, room}
use Rattle.writers.proofs.Lines.{port-pairs, high-low}
use native.Mathlib.Omega.{arith}
use borrow.Author.Rules.{rules}
use Rattle.writers.proofs.put_port_line.Goals as goal

pub returns-then-not-has_room : goal.returns-then-not-has_room
returns-then-not-has_room c =
    let a = c.args in
    refused a.out.now a.at (port_line a.mapped a.port) c.has_room.ensures
    c.port_line_length.ensures (ap not c.if-not-has_room.true)

pub returns : goal.returns
returns c =
    let a = c.args in
    let octets = c.to_be_bytes.ensures ∙ high-low a.port (omega arith) in
    let long : length a.mapped ≡ 4 = search rules in
    let high = commas (a.port / 256 ∷ a.port % 256 ∷ []) ++ oct "\r\n" in
    let tail = (commas (get_or a.mapped 2 0 ∷ get_or a.mapped 3 0 ∷ []) ++ oct ",") ++ high in
    let rest = (commas (get_or a.mapped 0 0 ∷ get_or a.mapped 1 0 ∷ []) ++ oct ",") ++ tail in
    subst (λ (l : List ℕ). PutInRoom a.out.now a.at l c.put_pair.result c.put_pair.new.out)
    (sym (port-pairs a.mapped a.port long))
    (joined a.out.now a.at (oct "PORT ") rest (λ _. c.put-next.ensures)
    (joined c.put-next.new.out c.put-next.result (commas (get_or a.mapped 0 0 ∷ get_or a.mapped 1 0 ∷ []) ++ oct ",") tail c.put_pair-next.ensures
    (joined c.put_pair-next.new.out c.put_pair-next.result (commas (get_or a.mapped 2 0 ∷ get_or a.mapped 3 0 ∷ []) ++ oct ",") high c.put_pair-next-2.ensures
    (subst (λ (l : List ℕ). PutInRoom c.put_pair-next-2.new.out c.put_pair-next-2.result (commas (get_or l 0 0 ∷ get_or l 1 0 ∷ []) ++ oct "\r\n") c.put_pair.result c.put_pair.new.out) octets
    c.put_pair.ensures))))
    (room a.out.now a.at (port_line a.mapped a.port) c.has_room.ensures
    c.port_line_length.ensures (ap not c.if-not-has_room.false))
