-- By the cases of the number, which is read as 2 to 2.
use Rattle.commands.proofs.Digits.{asks-for}
use Rattle.commands.proofs.protocol.Goals as goal

pub returns-in-Some : goal.returns-in-Some
returns-in-Some c = asks-for 2 _ _ c.requires.0 c.requires.1 c.in-Some.ensures

pub returns-in-None : goal.returns-in-None
returns-in-None c = asks-for 2 _ _ c.requires.0 c.requires.1 c.in-None.ensures
