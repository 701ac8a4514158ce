-- `fashlemor::fashlemor_extract` meets its contract: it tells the number of what the crate prefix does.
use mathlib.Core.Path.{ap, ◌∙◌}
use Rattle.prefix.specs.Prefix.{prefix_number}
use Rattle.fashlemor.proofs.addresses.fashlemor_extract.Goals as goal

pub returns : goal.returns
returns c =
    let made = c.extract_into-answer.ensures in record { number = c.from.ensures ∙ ap prefix_number made.answer; address = made.address }
