-- `prefix::extract` meets its contract, by how its length is judged.
use borrow.Author.Rules.{rules}
use Rattle.rules.specs.Octets.{choose}
use Rattle.prefix.specs.Prefix.{prefix_answer, address_given, extracting}
use Rattle.prefix.proofs.extract.Goals as goal

pub returns-in-Ok : goal.returns-in-Ok
unfolding extracting prefix_answer address_given choose
returns-in-Ok c = search rules

pub returns-in-Err : goal.returns-in-Err
unfolding extracting prefix_answer address_given choose
returns-in-Err c = search rules
