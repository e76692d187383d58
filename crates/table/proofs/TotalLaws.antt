-- Request 10's bound: the counts of blocks of a table, none of them twice, add up to at most blocks * (block size - 6),
-- as no block holds more records than it has bytes behind its head. Assumes nothing.
use Rattle.std.specs.Prelude.{Option, Some, None}
use Prim.Native.Nat.{ℕ, ◌-◌, ◌*◌, ◌≤◌}
use mathlib.Core.Path.{◌≡◌, refl}
use mathlib.Core.List.{List, [], ◌∷◌}
use native.Mathlib.Nat.{le_trans, mul-le-mul, mul-le-mul_right, add-mul}
use native.Mathlib.Omega.{arith}
use lib.ListN.{length}
use Rattle.header.specs.Header.{most_units, block_head, most_records}
use Rattle.header.specs.Stored.{unit}
use Rattle.header.specs.Numbers.{numbers_of}
use Rattle.header.specs.Rules.{HeaderRules, Accepted}
use Rattle.header.proofs.AcceptedLaws.{accepted, accepted_takes}
use Rattle.blocks.specs.Shape.{shape_of, Sound}
use Rattle.blocks.specs.Counts.{count_in}
use Rattle.blocks.specs.declared.Shape.{Shape}
use Rattle.blocks.proofs.ShapeLaws.{sound}
use Rattle.blocks.proofs.CountLaws.{count_few}
use Rattle.chain.specs.Chain.{times}
use Rattle.chain.specs.Rules.{Inside}
use Rattle.chain.proofs.RuleLaws.{inside_length}
use Rattle.table.specs.Records.{held}
use Rattle.table.specs.Counts.{total, most_total}

module _ (t : List ℕ) (g : Shape) (s : Sound t g) where
  abbrev bytes_behind : ℕ
  bytes_behind = g.block_size - block_head

  -- a block holds no more records than it has bytes behind its head
  held_most : (b : ℕ) (c : Option ℕ) → count_in t g b ≡ c → held c ≤ bytes_behind
  unfolding held
  held_most b (Some n) e = omega (arith, count_few t g s b n e)
  held_most b None e = omega arith

  total_length : (bs : List ℕ) → total t g bs ≤ length bs * bytes_behind
  unfolding total
  total_length [] = omega arith
  total_length (b ∷ bs) =
      omega (arith, held_most b (count_in t g b) refl, total_length bs, add-mul 1 (length bs) bytes_behind)

-- of any header that keeps rules 1 to 7, and any blocks of its file, none of them twice
module _ (t : List ℕ) (r : HeaderRules t (length t)) (bs : List ℕ) (inside : Inside (numbers_of t).blocks bs)
    (once : (b : ℕ) → times b bs ≤ 1) where
  its : Accepted t (numbers_of t)
  its = accepted t (accepted_takes t r)

  -- the counts add up to at most blocks * (block size - 6)
  pub total_most :
      total t (shape_of (numbers_of t)) bs ≤ (numbers_of t).blocks * ((numbers_of t).block_size - block_head)
  unfolding shape_of
  total_most =
      let h = numbers_of t in
      le_trans (total_length t (shape_of h) (sound t h its) bs)
      (mul-le-mul_right (h.block_size - block_head) (inside_length h.blocks bs inside once))

  -- and so to at most what the limits give
  pub total_limit : total t (shape_of (numbers_of t)) bs ≤ most_total
  total_limit =
      let h = numbers_of t in
      let fits : h.block_size - block_head ≤ most_units * unit - block_head = omega (arith, its.block_most) in
      le_trans total_most (mul-le-mul its.blocks_most fits)

-- the figure, and that it is no more than a header may state
pub most_total_lem : most_total ≡ 134017030
most_total_lem = refl

pub most_below : most_total ≤ most_records
most_below = omega arith
