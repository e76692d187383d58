-- What holds on the way in `first_from`.
use mathlib.Core.Path.{◌≡◌}
use Prim.Native.Nat.{◌-◌}
use Rattle.cursor.specs.Cursor.{first_from}
use Rattle.cursor.proofs.moves.first_from.Given as goal

abbrev pub invariant-loop-block : goal.invariant-loop-block
invariant-loop-block l =
    let f = l.file in
    first_from f.bytes.now f.shape l.back l.moves l.first ≡ first_from f.bytes.now f.shape l.back l.made l.block

abbrev pub decreases-loop-block : goal.decreases-loop-block
decreases-loop-block l = l.file.shape.blocks - l.made
