-- `BlockFile::count` meets its contract: the third word of a block's head is inside the file. Assumes nothing.
use native.Mathlib.Omega.{arith}
use mathlib.Core.Path.{ap, ◌∙◌}
use Prim.Native.Nat.{ℕ, ◌+◌, ◌≤◌}
use lib.ListN.{length}
use Rattle.words.specs.Numbers.{word}
use Rattle.words.specs.Signed.{signed}
use Rattle.blocks.specs.Shape.{block_at}
use Rattle.blocks.specs.Counts.{count_of, count_in}
use Rattle.blocks.proofs.ShapeLaws.{head_inside}
use Rattle.blocks.proofs.file.BlockFile.count.Goals as goal
use Rattle.blocks.proofs.file.BlockFile.count.Goals.{After-block_at}

-- the block's head is inside the file
inside : (c : After-block_at) → let v =
    c.args in block_at v.self.now.shape v.block + 6 ≤ length v.self.now.bytes.now
inside c =
    let v = c.args in
    let p = c.requires in
    head_inside v.self.now.bytes.now v.self.now.shape v.self.now.sound v.block p.0 p.1

pub overflow_add-block_at : goal.overflow_add-block_at
overflow_add-block_at c = omega (arith, c.block_at.ensures, inside c)

pub word-last-requires : goal.word-last-requires
word-last-requires c = omega (arith, c.block_at.ensures, inside c)

pub returns : goal.returns
unfolding count_in
returns c =
    let v = c.args in
    c.count_of.ensures
    ∙ ap (λ (n : ℕ). count_of v.self.now.shape.block_size v.self.now.shape.record_size (signed 32768 n))
    (c.word-last.ensures ∙ ap (λ (a : ℕ). word v.self.now.bytes.now (a + 4)) c.block_at.ensures)
