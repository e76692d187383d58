-- `has_room` meets its contract. Assumes nothing.
use Rattle.header.proofs.rules.has_room.Goals as goal

pub returns : goal.returns
returns c = rw c.names_at.ensures
