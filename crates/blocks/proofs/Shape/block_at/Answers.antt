-- `block_at` meets its contract. Assumes nothing.
use borrow.Author.Rules.{rules}
use native.Mathlib.Omega.{arith}
use Prim.Native.Nat.{◌-◌}
use Rattle.blocks.proofs.ShapeLaws.{words_product}
use Rattle.blocks.proofs.Shape.block_at.Goals as goal

pub overflow_mul-result : goal.overflow_mul-result
overflow_mul-result c =
    omega (
      arith,
      words_product (c.args.block - 1) c.args.self.block_size
          (search rules) (search rules),
    )

pub overflow_add-result : goal.overflow_add-result
overflow_add-result c =
    omega (
      arith,
      words_product (c.args.block - 1) c.args.self.block_size
          (search rules) (search rules),
    )
