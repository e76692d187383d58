-- Blocks and records stand inside the file. Assumes nothing.
use Prim.Native.Nat.{ℕ, zero, suc, ◌+◌, ◌-◌, ◌*◌, ◌≤◌, ◌<◌}
use mathlib.Core.Path.{◌≡◌, refl}
use mathlib.Core.Bool.{true}
use Rattle.words.proofs.Conjunctions.{both, join}
use mathlib.Core.List.{List}
use native.Mathlib.Nat.{mul-le-mul_right, mul-le-mul, not-suc-le-zero}
use native.Mathlib.Numerals.{sub-one}
use native.Mathlib.Omega.{arith}
use lib.Dec.{leb}
use lib.ListN.{length}
use borrow.Author.Tests.{leb-true, le-leb}
use Rattle.header.specs.Header.{block_head}
use Rattle.header.specs.Rules.{Accepted}
use Rattle.header.specs.declared.Header.{Header}
use Rattle.blocks.specs.Shape.{shape_of, in_file, has_block, block_at, Sound}
use Rattle.blocks.specs.declared.Shape.{Shape}

-- an accepted header's shape
pub sound : (t : List ℕ) (h : Header) → Accepted t h → Sound t (shape_of h)
unfolding shape_of
sound t h a = record { whole = a.whole; size_least = a.size_least; size_most = a.size_most }

-- a table's records have the header's record size
pub shape_size : (h : Header) → (shape_of h).record_size ≡ h.record_size
unfolding shape_of
shape_size h = refl

-- a table has the header's number of blocks
pub shape_blocks : (h : Header) → (shape_of h).blocks ≡ h.blocks
unfolding shape_of
shape_blocks h = refl

-- a block of the file is counted from 1 to the number of blocks
pub in_file_lem : (n b : ℕ) → in_file n b ≡ true → (1 ≤ b) × (b ≤ n)
unfolding in_file
in_file_lem n b e = let p = both {a = leb 1 b} {b = leb b n} e in (leb-true 1 b p.0, leb-true b n p.1)

pub file_has : (n b : ℕ) → 1 ≤ b → b ≤ n → in_file n b ≡ true
unfolding in_file
file_has n b low high = join (le-leb 1 b low) (le-leb b n high)

pub has_block_lem : (g : Shape) (b : ℕ) → has_block g b ≡ true → (1 ≤ b) × (b ≤ g.blocks)
unfolding has_block
has_block_lem g b e = in_file_lem g.blocks b e

pub block_there : (g : Shape) (b : ℕ) → 1 ≤ b → b ≤ g.blocks → has_block g b ≡ true
unfolding has_block
block_there g b low high = file_has g.blocks b low high

-- the blocks before block b, and block b, are at most all of them
blocks_fit : (block b n : ℕ) → 1 ≤ b → b ≤ n → (b - 1) * block + block ≤ n * block
blocks_fit block zero n low high = absurd (not-suc-le-zero low)
blocks_fit block (suc a) n low high = rw sub-one (omega (arith, mul-le-mul_right block high))

-- a block ends where the blocks behind it begin, or before
pub blocks_apart : (g : Shape) (b c : ℕ) → 1 ≤ b → b < c → block_at g b + g.block_size ≤ block_at g c
blocks_apart g b c low l = omega (arith, blocks_fit g.block_size b (c - 1) low (omega arith))

-- a product of two words fits 32 bits
pub words_product : (a b : ℕ) → a < 65536 → b < 65536 → a * b ≤ 4294836225
words_product a b h k = mul-le-mul {n₁ = a} {m₁ = b} {n₂ = 65535} {m₂ = 65535} (omega arith) (omega arith)

module _ (t : List ℕ) (g : Shape) (s : Sound t g) (b : ℕ) (low : 1 ≤ b) (high : b ≤ g.blocks) where
  pub block_inside : block_at g b + g.block_size ≤ length t
  block_inside = omega (arith, s.whole, blocks_fit g.block_size b g.blocks low high)

  -- and so is its head
  pub head_inside : block_at g b + block_head ≤ length t
  head_inside = omega (arith, block_inside, s.size_most)
