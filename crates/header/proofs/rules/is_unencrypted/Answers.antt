-- `is_unencrypted` meets its contract. Assumes nothing.
use Rattle.header.specs.Header.{unencrypted}
use Rattle.header.proofs.rules.is_unencrypted.Goals as goal

pub returns : goal.returns
unfolding unencrypted
returns c = c.all_zero.ensures
