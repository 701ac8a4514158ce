-- `session::laid` meets its contract: each array is put where the one before it ends, and there is no more.
use mathlib.Core.Path.{◌≡◌}
use lib.ListN.{length}
use borrow.Author.Rules.{rules}
use Rattle.rules.specs.Lines.{most_held}
use Rattle.rules.specs.Answers.{most_owed}
use Rattle.rules.specs.Setup.{ipv6_width, ipv4_width}
use Rattle.session.proofs.Lines.{all_laid}
use Rattle.session.proofs.laid.Goals as goal

pub returns : goal.returns
returns c =
    let later = c.well_formed.1.1.1 in
    let last = later.1.1 in
    let a = c.args in
    let client : length a.client ≡ ipv6_width = search rules in
    let mapped : length a.mapped ≡ ipv4_width = search rules in
    let server : length a.server ≡ ipv4_width = search rules in
    let kinds : length a.kinds ≡ most_owed = search rules in
    let command : length a.command ≡ most_held = search rules in
    let reply : length a.reply ≡ most_held = search rules in record {
      arrays = all_laid a.client a.mapped a.server a.kinds a.command a.reply client mapped server kinds command reply c.put.ensures.1 c.put-2.ensures.1
          c.put-3.ensures.1 c.put-4.ensures.1 c.put-5.ensures.1 c.put-6.ensures.1;
      lengths = (client, mapped, server, kinds, command, reply);
    }
