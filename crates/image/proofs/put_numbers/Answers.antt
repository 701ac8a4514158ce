-- `image::put_numbers`: ten numbers, each where the one before it ends.
use Rattle.std.proofs.Common.{◌+◌, ◌≤◌, ◌++◌, length, refl, arith, rules}
use Rattle.records.specs.Layout.{opening_at, owed_at, client_held_at, server_held_at, up_taken_at, up_written_at, down_taken_at, down_written_at, up_removed_at, down_removed_at}
use Rattle.image.specs.Image.{four_octets}
use Rattle.image.proofs.Writing.{behind}
use Rattle.image.proofs.put_numbers.Goals as goal

pub shape_of-image : goal.shape_of-image
shape_of-image c =
    let first = c.put_number.auto.out in
    let second = c.put_number-2.auto.out in
    let third = c.put_number-3.auto.out in
    search rules

pub returns : goal.returns
unfolding four_octets
returns c =
    let a = c.args in
    let p1 = c.put_number in
    let p2 = c.put_number-2 in
    let p3 = c.put_number-3 in
    let p4 = c.put_number-4 in
    let p5 = c.put_number-5 in
    let p6 = c.put_number-6 in
    let p7 = c.put_number-7 in
    let p8 = c.put_number-8 in
    let p9 = c.put_number-9 in
    let p10 = c.put_number-10 in
    let t10 = four_octets a.control.down.removed in
    let t9 = four_octets a.control.up.removed ++ t10 in
    let t8 = four_octets a.down.written ++ t9 in
    let t7 = four_octets a.down.taken ++ t8 in
    let t6 = four_octets a.up.written ++ t7 in
    let t5 = four_octets a.up.taken ++ t6 in
    let t4 = four_octets a.reply ++ t5 in
    let t3 = four_octets a.command ++ t4 in
    let t2 = four_octets a.owed ++ t3 in
    let room : opening_at + length (four_octets a.control.opening ++ t2) ≤ length a.image.now = omega (arith, c.requires) in
    (behind a.image.now opening_at (four_octets a.control.opening) t2 owed_at refl (λ _. p1.ensures)
    (behind p1.new.out owed_at (four_octets a.owed) t3 client_held_at refl (λ _. p2.ensures)
    (behind p2.new.out client_held_at (four_octets a.command) t4 server_held_at refl (λ _. p3.ensures)
    (behind p3.new.out server_held_at (four_octets a.reply) t5 up_taken_at refl (λ _. p4.ensures)
    (behind p4.new.out up_taken_at (four_octets a.up.taken) t6 up_written_at refl (λ _. p5.ensures)
    (behind p5.new.out up_written_at (four_octets a.up.written) t7 down_taken_at refl (λ _. p6.ensures)
    (behind p6.new.out down_taken_at (four_octets a.down.taken) t8 down_written_at refl (λ _. p7.ensures)
    (behind p7.new.out down_written_at (four_octets a.down.written) t9 up_removed_at refl (λ _. p8.ensures)
    (behind p8.new.out up_removed_at (four_octets a.control.up.removed) t10 down_removed_at refl (λ _. p9.ensures)
    (λ _. p10.ensures))))))))) room).1
