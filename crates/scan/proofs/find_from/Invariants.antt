-- What holds on the way in `find_from`.
use mathlib.Core.Path.{◌≡◌}
use lib.ListN.{length}
use Rattle.chain.specs.Links.{blocks_from}
use Rattle.chain.specs.Rules.{GoodFrom}
use Rattle.scan.specs.Steps.{found_from}
use Rattle.scan.proofs.find_from.Given as goal

abbrev pub invariant-loop-block : goal.invariant-loop-block
invariant-loop-block l =
    let f = l.file in
    GoodFrom f.bytes.now f.shape l.block
    × (found_from f.bytes.now f.shape l.key l.first ≡ found_from f.bytes.now f.shape l.key l.block)

abbrev pub decreases-loop-block : goal.decreases-loop-block
decreases-loop-block l = length (blocks_from l.file.bytes.now l.file.shape l.block)
