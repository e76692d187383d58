-- `put` meets its contract: after i turns the first i items are put. Assumes nothing.
use mathlib.Core.Path.{sym, ap, ◌∙◌}
use Prim.Native.Nat.{◌+◌}
use lib.ListN.{set}
use Rattle.buffer.proofs.PieceLaws.{copy_step}
use Rattle.buffer.proofs.put.Goals as goal

pub loop-i-preserved : goal.loop-i-preserved
loop-i-preserved g c =
    let v = c.args in
    ap (λ s. set s (v.at + c.loop-i.i) c.index-piece-i.result) c.loop-i.invariant
    ∙ copy_step v.out.now v.piece.now v.at c.loop-i.i c.index-piece-i.result c.loop-i-test.true
    (sym c.index-piece-i.is)
