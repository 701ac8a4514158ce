-- `image::put_image`: marks, numbers and arrays, where there is room for them all.
use Rattle.std.proofs.Common.{◌≡◌, ◌++◌, length, refl, arith, rules}
use Rattle.rules.specs.Setup.{ipv4_width}
use Rattle.output.proofs.Placing.{no_room}
use Rattle.image.specs.Image.{four_octets, marks_of, numbers_of, arrays_of, image_of}
use Rattle.image.proofs.Writing.{behind, as-put, numbers-put, image-length}
use Rattle.records.specs.Layout.{live_at, opening_at, client_at}
use Rattle.image.proofs.put_image.Goals as goal

pub returns-then-image-lt-SIZE : goal.returns-then-image-lt-SIZE
returns-then-image-lt-SIZE c =
    let a = c.args in
    let s = a.session in
    let size = image-length s (record { client = search rules; mapped = search rules; server = search rules; kinds = search rules; command = search rules; reply = search rules }) in
    (no_room a.image.now 0 (image_of s) (omega (arith, c.if-image-lt-SIZE.true))).1

pub returns : goal.returns
unfolding image_of marks_of numbers_of four_octets
returns c =
    let addresses = c.well_formed.1.0.1.0 in
    let lines = c.well_formed.1.0.1.1.1 in
    let kinds = c.well_formed.1.0.1.1.1.1.1.0 in
    let a = c.args in
    let s = a.session in
    let server : length s.fixed.server ≡ ipv4_width = let fixed = c.well_formed.1.0.1.1.1.0.1.1.1.1 in search rules in
    let size = image-length s (record { client = search rules; mapped = search rules; server = server; kinds = search rules; command = search rules; reply = search rules }) in
    let marked = c.put_marks in
    let counted = c.put_numbers in
    (behind a.image.now live_at (marks_of s) (numbers_of s ++ arrays_of s) opening_at refl marked.ensures
    (behind marked.new.out opening_at (numbers_of s) (arrays_of s) client_at refl
    (as-put marked.new.out opening_at (numbers_of s)
    (numbers-put marked.new.out s.control s.up s.down c.capped-owed.ensures c.capped-command.ensures c.capped-reply.ensures counted.ensures))
    c.put_arrays.ensures)
    (omega (arith, c.if-image-lt-SIZE.false))).1
