-- What holds on the way in `follow_used`.
use Rattle.chain.specs.Chain.{times}
use Rattle.table.proofs.UsedLaws.{Following}
use Rattle.table.proofs.used.follow_used.Given as goal

abbrev pub invariant-loop-block : goal.invariant-loop-block
invariant-loop-block l =
    Following l.file.bytes.now l.file.shape l.key l.first l.initial.marks l.marks l.tally l.before l.block

abbrev pub decreases-loop-block : goal.decreases-loop-block
decreases-loop-block l = times 0 l.marks
