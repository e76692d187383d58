-- What holds on the way in `follow_free`.
use Prim.Native.Nat.{ℕ}
use Rattle.chain.specs.Chain.{times}
use Rattle.chain.specs.Links.{next_of, blocks_from}
use Rattle.chain.specs.Following.{any_two}
use Rattle.chain.proofs.FollowLaws.{Going}
use Rattle.table.proofs.free.follow_free.Given as goal

-- nothing is gathered on the way
abbrev pub keep : ℕ → ℕ → ℕ
keep s b = s

abbrev pub invariant-loop-block : goal.invariant-loop-block
invariant-loop-block l =
    let file = l.file.bytes.now in
    let shape = l.file.shape in
    (before : ℕ)
    × Going (next_of file shape) any_two 2 keep 0 (blocks_from file shape l.first) l.initial.marks l.marks 0 before
    l.block

abbrev pub decreases-loop-block : goal.decreases-loop-block
decreases-loop-block l = times 0 l.marks
