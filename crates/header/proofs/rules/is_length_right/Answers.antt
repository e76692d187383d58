-- `is_length_right` meets its contract: the sum fits, and the test is the definition's. Assumes nothing.
use native.Mathlib.Omega.{arith}
use native.Mathlib.Nat.{mul-le-mul}
use Rattle.header.specs.Header.{length_right}
use borrow.Author.Rules.{rules}
use Rattle.header.proofs.rules.is_length_right.Goals as goal

pub overflow_mul-result : goal.overflow_mul-result
overflow_mul-result c =
    let b = c.block_size-block.result in
    let n = c.args.blocks in
    omega (arith, mul-le-mul {n₁ = n} {m₁ = b} {n₂ = 65535} {m₂ = 261120} (search rules) (search rules))

pub overflow_add-result : goal.overflow_add-result
overflow_add-result c =
    let b = c.block_size-block.result in
    let n = c.args.blocks in
    omega (arith, mul-le-mul {n₁ = n} {m₁ = b} {n₂ = 65535} {m₂ = 261120} (search rules) (search rules))

pub returns : goal.returns
unfolding length_right
returns c = rw c.block_size-block.ensures
