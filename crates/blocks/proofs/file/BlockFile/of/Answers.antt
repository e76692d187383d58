-- `BlockFile::of` meets its contract: an accepted header's sizes. Assumes nothing.
use Rattle.blocks.proofs.ShapeLaws.{sound}
use Rattle.blocks.proofs.file.BlockFile.of.Goals as goal

pub invariant_of-result : goal.invariant_of-result
invariant_of-result c =
    let t = c.args.table.now in
    record { sound = rw c.of.ensures (sound t.bytes.now t.header t.accepted) }
