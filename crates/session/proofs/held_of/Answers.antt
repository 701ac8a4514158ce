-- `session::held_of` meets its contract: by the side.
use Rattle.session.proofs.held_of.Goals as goal

pub returns-then-from_client : goal.returns-then-from_client
returns-then-from_client c kinds = rw c.if-from_client.true c.first_octets.ensures

pub returns : goal.returns
returns c kinds = rw c.if-from_client.false c.first_octets-2.ensures
