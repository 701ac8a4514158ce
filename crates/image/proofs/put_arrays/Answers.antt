-- `image::put_arrays`: six arrays one after another.
use Rattle.std.proofs.Common.{◌≡◌, ◌++◌, length, sym, rules}
use Rattle.image.specs.Image.{arrays_of}
use Rattle.image.proofs.Writing.{and_then}
use Rattle.rules.specs.Lines.{most_held}
use Rattle.rules.specs.Answers.{most_owed}
use Rattle.rules.specs.Setup.{ipv4_width}
use Rattle.image.proofs.put_arrays.Goals as goal

pub slice_bounds-put-end-3 : goal.slice_bounds-put-end-3
slice_bounds-put-end-3 c =
    let fixed = c.well_formed.1.1.0.1.1.1.0.1.1.1.1 in
    let size : length c.args.session.fixed.server ≡ ipv4_width = search rules in
    sym size

pub slice_bounds-put-end-4 : goal.slice_bounds-put-end-4
slice_bounds-put-end-4 c =
    let later = c.well_formed.1.1.0.1.1.1 in
    let size : length c.args.session.kinds ≡ most_owed = search rules in
    sym size

pub slice_bounds-put-end-5 : goal.slice_bounds-put-end-5
slice_bounds-put-end-5 c =
    let later = c.well_formed.1.1.0.1.1.1 in
    let size : length c.args.session.command ≡ most_held = search rules in
    sym size

pub slice_bounds-put-end-6 : goal.slice_bounds-put-end-6
slice_bounds-put-end-6 c =
    let later = c.well_formed.1.1.0.1.1.1 in
    let size : length c.args.session.reply ≡ most_held = search rules in
    sym size

pub returns : goal.returns
unfolding arrays_of
returns c =
    let a = c.args in
    let s = a.session in
    let p1 = c.put-next in
    let p2 = c.put-next-2 in
    let p3 = c.put-next-3 in
    let p4 = c.put-next-4 in
    let p5 = c.put-next-5 in
    let p6 = c.put in
    let t6 = s.reply in
    let t5 = s.command ++ t6 in
    let t4 = s.kinds ++ t5 in
    let t3 = s.fixed.server ++ t4 in
    let t2 = s.fixed.mapped ++ t3 in
    and_then a.out.now a.at s.fixed.client t2 p1.ensures
    (and_then p1.new.out p1.result s.fixed.mapped t3 p2.ensures
    (and_then p2.new.out p2.result s.fixed.server t4 p3.ensures
    (and_then p3.new.out p3.result s.kinds t5 p4.ensures
    (and_then p4.new.out p4.result s.command t6 p5.ensures
    (λ room. p6.ensures)))))
