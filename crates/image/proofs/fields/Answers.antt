-- `image::fields`: each field at its position.
use Rattle.std.proofs.Common.{arith, rules}
use Rattle.image.proofs.Reading.{copied, fields_read}
use Rattle.rules.specs.Lines.{most_held}
use Rattle.rules.specs.Answers.{most_owed}
use Rattle.rules.specs.Setup.{ipv6_width, ipv4_width}
use Rattle.records.specs.Layout.{client_at, mapped_at, server_at, kinds_at, command_at, reply_at}
use Rattle.image.proofs.fields.Goals as goal

pub counts_at-up-requires : goal.counts_at-up-requires
counts_at-up-requires c = let size = c.requires in search rules

pub counts_at-down-requires : goal.counts_at-down-requires
counts_at-down-requires c = let size = c.requires in search rules

pub returns : goal.returns
returns c =
    let image = c.args.image.now in
    let size = c.requires in
    fields_read image
    (copied image client_at ipv6_width (omega arith) c.array_from-client.ensures)
    (copied image mapped_at ipv4_width (omega arith) c.array_from-mapped.ensures)
    (copied image server_at ipv4_width (omega arith) c.array_from-server.ensures)
    (copied image kinds_at most_owed (omega arith) c.array_from-kinds.ensures)
    (copied image command_at most_held (omega arith) c.array_from-command.ensures)
    (copied image reply_at most_held (omega arith) c.array_from-reply.ensures)
    c.control_in-control.ensures
    c.counts_at-up.ensures
    c.counts_at-down.ensures
