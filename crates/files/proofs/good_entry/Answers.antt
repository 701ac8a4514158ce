-- `files::good_entry` meets its contract: the zero octet, then kind and length decide.
use mathlib.Core.Path.{sym}
use native.Mathlib.Omega.{arith}
use Rattle.files.proofs.Tables.{zero-wrong, good-arrival, good-end, good-setup, no_kind}
use Rattle.files.proofs.good_entry.Goals as goal

pub returns-then-file-at-ne0 : goal.returns-then-file-at-ne0
returns-then-file-at-ne0 c = let a = c.args in sym (zero-wrong a.file.now a.at c.if-file-at-ne0.true)

pub returns-in-0 : goal.returns-in-0
returns-in-0 c =
    let a = c.args in
    let size = c.pair_at-octets in
    sym (good-arrival a.file.now a.at size.result size.ensures.result c.if-file-at-ne0.false (omega arith))

pub returns-in-2 : goal.returns-in-2
returns-in-2 c =
    let a = c.args in
    let size = c.pair_at-octets in
    sym (good-end a.file.now a.at size.result size.ensures.result c.if-file-at-ne0.false (omega arith) (omega arith))

pub returns-in-4 : goal.returns-in-4
returns-in-4 c =
    let a = c.args in
    let size = c.pair_at-octets in
    sym (good-setup a.file.now a.at size.result size.ensures.result c.if-file-at-ne0.false c.in-4.is)

pub returns-in_default : goal.returns-in_default
returns-in_default c =
    let a = c.args in
    let size = c.pair_at-octets in
    sym (no_kind a.file.now a.at size.result size.ensures.result c.if-file-at-ne0.false (omega arith) (omega arith) (λ four. omega arith))
