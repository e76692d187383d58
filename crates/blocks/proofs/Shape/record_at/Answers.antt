-- `record_at` meets its contract. Assumes nothing.
use borrow.Author.Rules.{rules}
use native.Mathlib.Omega.{arith}
use mathlib.Core.Path.{ap}
use Prim.Native.Nat.{ℕ, ◌+◌, ◌-◌, ◌*◌}
use Rattle.blocks.proofs.ShapeLaws.{words_product}
use Rattle.blocks.proofs.Shape.record_at.Goals as goal

pub overflow_add-result : goal.overflow_add-result
overflow_add-result c =
    let v = c.args in omega (
      arith,
      c.block_at.ensures,
      words_product (v.block - 1) v.self.block_size (search rules) (search rules),
    )

pub overflow_mul-result : goal.overflow_mul-result
overflow_mul-result c =
    let v = c.args in omega (
      arith,
      words_product v.place v.self.record_size (search rules) (search rules),
    )

pub overflow_add-result-2 : goal.overflow_add-result-2
overflow_add-result-2 c =
    let v = c.args in omega (
      arith,
      c.block_at.ensures,
      words_product v.place v.self.record_size (search rules) (search rules),
      words_product (v.block - 1) v.self.block_size (search rules) (search rules),
    )

pub returns : goal.returns
returns c =
    let v = c.args in ap (λ (a : ℕ). a + 6 + v.place * v.self.record_size)
    c.block_at.ensures
