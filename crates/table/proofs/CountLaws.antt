-- A count is small, whatever the size of a block. Assumes nothing.
use Rattle.std.specs.Prelude.{Some, None}
use Prim.Native.Nat.{ℕ, suc, ◌+◌, ◌-◌, ◌/◌, ◌%◌, ◌≤◌}
use mathlib.Core.Path.{◌≡◌, refl}
use mathlib.Core.Bool.{Bool, true, false, cond, ◌&&◌}
use mathlib.Core.List.{List}
use native.Mathlib.Nat.{div-le_self}
use native.Mathlib.Omega.{arith}
use lib.Dec.{eqb, leb, ltb}
use lib.IntN.{pos, negsuc}
use borrow.Author.Tests.{ltb-true}
use Rattle.words.specs.Numbers.{word}
use Rattle.words.specs.Signed.{signed}
use Rattle.blocks.specs.Shape.{block_at}
use Rattle.blocks.specs.Counts.{count_of, count_in}
use Rattle.blocks.specs.declared.Shape.{Shape}

-- a count of at least 1 is at most one more than the offset of the last record
count_up : (b : Bool) (k n : ℕ) → cond b (Some k) None ≡ Some n → n ≡ k
count_up true k n e = let z : k ≡ n = cc in rw z
count_up false k n e = let z : ◌≡◌ {A = ℕ} 0 1 = cc in absurd (omega arith)

count_least : (block size w n : ℕ) (b : Bool) → ltb w 32768 ≡ b →
    count_of block size (cond b (pos w) (negsuc (32768 + 32768 - suc w))) ≡ Some n → n ≤ 32768
unfolding count_of
count_least block size w n true l e =
    omega (
      arith,
      count_up (eqb (w % size) 0 && leb (w + size) (block - 6)) (w / size + 1) n e,
      div-le_self w size,
      ltb-true w 32768 l,
    )
count_least block size w n false l e =
    omega (arith, count_up (eqb (suc (32768 + 32768 - suc w)) size) 0 n e)

-- that offset is a signed word
pub count_word : (t : List ℕ) (g : Shape) (b n : ℕ) → count_in t g b ≡ Some n → n ≤ 32768
unfolding count_in signed
count_word t g b n e =
    let w = word t (block_at g b + 4) in
    count_least g.block_size g.record_size w n (ltb w 32768) refl e
