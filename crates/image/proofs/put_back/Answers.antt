-- `image::put_back`: six marks and the numbers, behind the two marks that stay.
use Rattle.std.proofs.Common.{true, refl, arith}
use Rattle.image.specs.Image.{marks_in, numbers_from}
use Rattle.image.proofs.Writing.{behind, as-put, numbers-put, front_length}
use Rattle.records.specs.Layout.{epsv_at, opening_at}
use Rattle.image.proofs.put_back.Goals as goal

pub uncapped-owed-requires : goal.uncapped-owed-requires
uncapped-owed-requires c = let few = c.requires.1.owed in omega arith

pub uncapped-command-requires : goal.uncapped-command-requires
uncapped-command-requires c = c.requires.1.command

pub uncapped-reply-requires : goal.uncapped-reply-requires
uncapped-reply-requires c = c.requires.1.reply

pub returns : goal.returns
returns c =
    let a = c.args in
    let size = c.requires.0 in
    let long = front_length true true true a.control a.up a.down in
    let marked = c.put_control in
    let numbers = numbers-put marked.new.out a.control a.up a.down c.uncapped-owed.ensures c.uncapped-command.ensures c.uncapped-reply.ensures
    c.put_numbers.ensures in
    (behind a.image.now epsv_at (marks_in a.control) (numbers_from a.control a.up a.down) opening_at refl
    marked.ensures (as-put marked.new.out opening_at (numbers_from a.control a.up a.down) numbers) (omega arith)).1
