-- The count rule as a test is the count rule as a proposition: a block is counted as n records exactly when it holds n.
-- Assumes nothing.
use Rattle.std.specs.Prelude.{Some, None}
use Prim.Native.Nat.{ℕ, suc, ◌+◌, ◌-◌, ◌*◌, ◌/◌, ◌%◌, ◌≤◌}
use mathlib.Core.Path.{◌≡◌, refl, ap, ◌∙◌}
use mathlib.Core.Bool.{Bool, true, false, cond, ◌&&◌}
use mathlib.Core.List.{List}
use native.Mathlib.Nat.{mod-add-div', mul-mod_left, mul-div_left}
use native.Mathlib.Numerals.{add-one}
use native.Mathlib.Omega.{arith}
use lib.Dec.{eqb, leb}
use lib.IntN.{ℤ, pos, negsuc}
use borrow.Author.Tests.{eq-eqb, le-leb, eqb-true, leb-true}
use Rattle.words.proofs.Conjunctions.{both}
use Rattle.words.specs.Numbers.{word}
use Rattle.words.specs.Signed.{half, signed}
use Rattle.header.specs.Header.{block_head}
use Rattle.blocks.specs.Shape.{block_at}
use Rattle.blocks.specs.Counts.{count_of, count_in, last_record}
use Rattle.blocks.specs.Rules.{GoodCount, none, some, Holds}
use Rattle.blocks.specs.declared.Shape.{Shape}

-- two counts of records that are equal count the same
same_count : {m n : ℕ} → Some m ≡ Some n → m ≡ n
same_count e = cc

module _ (block size : ℕ) where
  -- a count that is not bad is a good one
  pub count_gives : (z : ℤ) (n : ℕ) → count_of block size z ≡ Some n → GoodCount block size z n
  unfolding count_of
  count_gives (negsuc d) n e = go (eqb (suc d) size) refl e
    where
      go : (b : Bool) → eqb (suc d) size ≡ b → cond b (Some 0) None ≡ Some n → GoodCount block size (negsuc d) n
      go true f k = let z : 0 ≡ n = cc in rw (← z) (none (eqb-true (suc d) size f))
      go false f k = let z : ◌≡◌ {A = ℕ} 0 1 = cc in absurd (omega arith)
  count_gives (pos m) n e = go (eqb (m % size) 0 && leb (m + size) (block - block_head)) refl e
    where
      go : (b : Bool) → (eqb (m % size) 0 && leb (m + size) (block - block_head)) ≡ b →
          cond b (Some (m / size + 1)) None ≡ Some n → GoodCount block size (pos m) n
      go true f k =
          let p = both {a = eqb (m % size) 0} {b = leb (m + size) (block - block_head)} f in
          let z : suc (m / size) ≡ n = rw add-one at (same_count k) in
          let r : m % size ≡ 0 = eqb-true (m % size) 0 p.0 in
          let d : m % size + m / size * size ≡ m = mod-add-div' m size in
          rw (← z)
          (some {m = m} {times = m / size} (omega (arith, d, r)) (leb-true (m + size) (block - block_head) p.1))
      go false f k = let z : ◌≡◌ {A = ℕ} 0 1 = cc in absurd (omega arith)

  -- a good count is that many records, where a record has bytes
  pub count_takes : 1 ≤ size → (z : ℤ) (n : ℕ) → GoodCount block size z n → count_of block size z ≡ Some n
  unfolding count_of
  count_takes l (negsuc d) n (none e) = rw (eq-eqb (suc d) size e)
  count_takes l (pos m) n (some {times = k} e i) =
      let r : m % size ≡ 0 = ap (λ (y : ℕ). y % size) e ∙ mul-mod_left k size in
      let d : m / size ≡ k = ap (λ (y : ℕ). y / size) e ∙ mul-div_left k l in
      rw (eq-eqb (m % size) 0 r, le-leb (m + size) (block - block_head) i, d, add-one)

-- the same of block b of a file
module _ (t : List ℕ) (g : Shape) (b n : ℕ) where
  pub holds_gives : count_in t g b ≡ Some n → Holds t g b n
  unfolding count_in
  holds_gives =
      count_gives g.block_size g.record_size (signed (half 2) (word t (block_at g b + last_record))) n

  pub holds_takes : 1 ≤ g.record_size → Holds t g b n → count_in t g b ≡ Some n
  unfolding count_in
  holds_takes l =
      count_takes g.block_size g.record_size l (signed (half 2) (word t (block_at g b + last_record))) n
