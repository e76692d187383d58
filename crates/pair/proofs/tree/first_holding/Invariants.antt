-- What holds on the way in `first_holding`.
use mathlib.Core.Path.{◌≡◌}
use lib.ListN.{length}
use Rattle.chain.specs.Links.{blocks_from}
use Rattle.chain.specs.Rules.{GoodFrom}
use Rattle.pair.specs.Steps.{holding_from}
use Rattle.pair.proofs.tree.first_holding.Given as goal

abbrev pub invariant-loop-block : goal.invariant-loop-block
invariant-loop-block l =
    let f = l.file in
    GoodFrom f.bytes.now f.shape l.block
    × (holding_from f.bytes.now f.shape l.from ≡ holding_from f.bytes.now f.shape l.block)

abbrev pub decreases-loop-block : goal.decreases-loop-block
decreases-loop-block l = length (blocks_from l.file.bytes.now l.file.shape l.block)
