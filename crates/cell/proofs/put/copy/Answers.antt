-- `copy` meets its contract: after i turns the first i bytes are copied. Assumes nothing.
use mathlib.Core.Path.{ap, ◌∙◌}
use native.Mathlib.Omega.{arith}
use lib.ListN.{set}
use Rattle.words.specs.Numbers.{byte}
use Rattle.cell.proofs.CopyLaws.{copy_step, copy_end}
use Rattle.cell.proofs.put.copy.Goals as goal

pub loop-i-preserved : goal.loop-i-preserved
loop-i-preserved c =
    let v = c.args in
    let i = c.loop-i.i in
    ap (λ s. set s i (byte v.from.now i)) c.loop-i.invariant
    ∙ copy_step v.from.now v.to.now i (omega (arith, c.requires, c.loop-i-test.true)) c.loop-i-test.true

pub returns : goal.returns
returns c =
    let v = c.args in
    c.loop-i.invariant
    ∙ copy_end v.from.now v.to.now c.loop-i.i c.requires c.loop-i.auto.i-end c.loop-i-test.false
