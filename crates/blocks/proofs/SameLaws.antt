-- The same third word in a block's head, the same count. Assumes nothing.
use Prim.Native.Nat.{ℕ, ◌+◌, ◌<◌}
use mathlib.Core.Path.{◌≡◌}
use mathlib.Core.List.{List}
use Rattle.words.specs.Numbers.{byte}
use Rattle.words.proofs.NumberLaws.{little_same}
use Rattle.blocks.specs.Shape.{block_at}
use Rattle.blocks.specs.Counts.{count_in, last_record}
use Rattle.blocks.specs.declared.Shape.{Shape}

pub count_same : (t u : List ℕ) (g : Shape) (b : ℕ) →
    ((i : ℕ) → i < 2 → byte u (block_at g b + last_record + i) ≡ byte t (block_at g b + last_record + i)) →
    count_in u g b ≡ count_in t g b
unfolding count_in
count_same t u g b h =
    rw (little_same u t (block_at g b + last_record) (block_at g b + last_record) 2 h)
