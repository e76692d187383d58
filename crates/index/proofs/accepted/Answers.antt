-- `accepted` meets its contract, number by number. Assumes nothing.
use Rattle.index.specs.Header.{accepted_of}
use Rattle.index.proofs.accepted.Goals as goal

pub returns : goal.returns
unfolding accepted_of
returns c = rw c.block_bytes.ensures
