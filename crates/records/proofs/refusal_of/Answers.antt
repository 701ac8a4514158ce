-- `records::refusal_of` meets its contract: it is what the record's parts say.
use Rattle.records.specs.Sound.{sound, refusal_of}
use Rattle.records.proofs.refusal_of.Goals as goal

pub returns : goal.returns
unfolding sound refusal_of
returns c = c.refusal_on.ensures
