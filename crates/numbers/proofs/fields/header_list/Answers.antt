-- `header_list` meets its contract: each number is wide enough, and they are in their order. Assumes nothing.
use Rattle.std.proofs.Common.{refl}
use Rattle.numbers.specs.Header.{header_list}
use Rattle.numbers.proofs.fields.header_list.Goals as goal

pub returns : goal.returns
unfolding header_list
returns c = refl
