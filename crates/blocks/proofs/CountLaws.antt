-- The count rule: what each answer says, and that the records counted are inside the block and don't overlap.
-- Assumes nothing.
use Rattle.std.specs.Prelude.{Option, Some, None}
use Prim.Native.Nat.{ℕ, suc, ◌+◌, ◌-◌, ◌*◌, ◌/◌, ◌%◌, ◌≤◌, ◌<◌}
use mathlib.Core.Path.{◌≡◌, refl}
use mathlib.Core.Bool.{Bool, true, false, cond, ◌&&◌}
use mathlib.Core.List.{List}
use mathlib.Core.Logic.{◌⊎◌, inl, inr}
use native.Mathlib.Nat.{mul-le-mul_left, mul-le-mul_right, mod-add-div', add-mul}
use native.Mathlib.Omega.{arith}
use lib.Dec.{eqb, leb}
use lib.IntN.{ℤ, pos, negsuc}
use lib.ListN.{length}
use borrow.Author.Tests.{eq-eqb, ne_eqb, le-leb, lt-leb, eqb-true, leb-true}
use Rattle.words.proofs.Cases.{compared}
use Rattle.words.proofs.Conjunctions.{both}
use Rattle.words.proofs.SignedLaws.{signed_below, signed_from}
use Rattle.words.specs.Numbers.{word}
use Rattle.words.specs.Signed.{signed}
use Rattle.header.specs.Header.{block_head}
use Rattle.blocks.specs.Shape.{block_at, record_at, Sound, RunInside}
use Rattle.blocks.specs.Counts.{count_of, count_in}
use Rattle.blocks.specs.declared.Shape.{Shape}
use Rattle.blocks.proofs.ShapeLaws.{block_inside, blocks_apart}

-- ---- one law for each answer, of a word read as signed

module _ (block size last : ℕ) where
  pub count_none : 32768 ≤ last → last < 65536 → 65536 - last ≡ size →
      Some 0 ≡ count_of block size (signed 32768 last)
  unfolding count_of
  count_none h l e = rw (signed_from 32768 last h, eq-eqb (suc (65536 - suc last)) size (omega arith))

  pub count_negative : 32768 ≤ last → last < 65536 → (65536 - last ≡ size → ⊥) →
      None ≡ count_of block size (signed 32768 last)
  unfolding count_of
  count_negative h l e = rw (signed_from 32768 last h, ne_eqb (suc (65536 - suc last)) size (λ f. e (omega arith)))

  pub count_between : last < 32768 → (last % size ≡ 0 → ⊥) → None ≡ count_of block size (signed 32768 last)
  unfolding count_of
  count_between h e = rw (signed_below 32768 last h, ne_eqb (last % size) 0 e)

  pub count_beyond : last < 32768 → last % size ≡ 0 → block - 6 < last + size →
      None ≡ count_of block size (signed 32768 last)
  unfolding count_of
  count_beyond h e l = rw (signed_below 32768 last h, eq-eqb (last % size) 0 e, lt-leb (last + size) (block - 6) l)

  pub count_some : last < 32768 → last % size ≡ 0 → last + size ≤ block - 6 →
      Some (last / size + 1) ≡ count_of block size (signed 32768 last)
  unfolding count_of
  count_some h e l = rw (signed_below 32768 last h, eq-eqb (last % size) 0 e, le-leb (last + size) (block - 6) l)

-- a count that is not bad is one of records
pub not_bad_records : (c : Option ℕ) → (c ≡ None → ⊥) → (n : ℕ) × (c ≡ Some n)
not_bad_records (Some n) h = (n, refl)
not_bad_records None h = absurd (h refl)

-- ---- the records counted

-- the records of a block, with its head, are no more than the block
pub count_most : (block size : ℕ) (z : ℤ) (n : ℕ) → 6 ≤ block → count_of block size z ≡ Some n → 6 + n * size ≤ block
unfolding count_of
count_most block size (negsuc d) n h e = go (eqb (suc d) size) e
  where
    go : (b : Bool) → cond b (Some 0) None ≡ Some n → 6 + n * size ≤ block
    go true f = let z : 0 ≡ n = cc in rw (← z) (omega arith)
    go false f = let z : ◌≡◌ {A = ℕ} 0 1 = cc in absurd (omega arith)
count_most block size (pos m) n h e = go (eqb (m % size) 0 && leb (m + size) (block - 6)) refl e
  where
    go : (b : Bool) → (eqb (m % size) 0 && leb (m + size) (block - 6)) ≡ b →
        cond b (Some (m / size + 1)) None ≡ Some n → 6 + n * size ≤ block
    go true f k =
        let p = both {a = eqb (m % size) 0} {b = leb (m + size) (block - 6)} f in
        let z : m / size + 1 ≡ n = cc in
        let r : m % size ≡ 0 = eqb-true (m % size) 0 p.0 in
        let d : m % size + m / size * size ≡ m = mod-add-div' m size in
        let w : (m / size + 1) * size ≡ m / size * size + 1 * size = add-mul (m / size) 1 size in
        rw (← z) (omega (arith, leb-true (m + size) (block - 6) p.1, d, w, r))
    go false f k = let z : ◌≡◌ {A = ℕ} 0 1 = cc in absurd (omega arith)

-- ---- a record that is counted is inside its block
module _ (t : List ℕ) (g : Shape) (s : Sound t g) (b n : ℕ) (e : count_in t g b ≡ Some n) where
  records_fit : 6 + n * g.record_size ≤ g.block_size
  unfolding count_in
  records_fit =
      count_most g.block_size g.record_size (signed 32768 (word t (block_at g b + 4))) n
      (omega (arith, s.size_most)) e

  pub record_inside : (i : ℕ) → i < n → record_at g b i + g.record_size ≤ block_at g b + g.block_size
  record_inside i l = omega (arith, records_fit, mul-le-mul_right g.record_size l)

  -- and so inside the file
  pub record_in_file : 1 ≤ b → b ≤ g.blocks → (i : ℕ) → i < n → record_at g b i + g.record_size ≤ length t
  record_in_file low high i l = omega (arith, record_inside i l, block_inside t g s b low high)

  -- a block counts no more records than it has bytes behind its head
  pub count_few : block_head + n ≤ g.block_size
  count_few = omega (arith, records_fit, mul-le-mul_left n s.size_least)

-- ---- the records that a block counts are inside the file
pub run_inside : (t : List ℕ) (g : Shape) → Sound t g → (b : ℕ) → 1 ≤ b → b ≤ g.blocks → (n : ℕ) →
    count_in t g b ≡ Some n →
    (key : ℕ) → key ≤ g.record_size → n < 65536 → RunInside t g key b n
run_inside t g s b low high n e key short few =
    record { low = low; high = high; few = few; short = short; inside = record_in_file t g s b n e low high }

-- ---- records that are counted don't overlap

-- a record ends where the records behind it in its block begin, or before
records_behind : (g : Shape) (b i j : ℕ) → i < j → record_at g b i + g.record_size ≤ record_at g b j
records_behind g b i j l = omega (arith, mul-le-mul_right g.record_size l)

-- of two records of different blocks or places one ends where the other begins, or before
module _ (t : List ℕ) (g : Shape) (s : Sound t g) where
  pub records_apart : (b n i c m j : ℕ) → 1 ≤ b → count_in t g b ≡ Some n → i < n
      → 1 ≤ c → count_in t g c ≡ Some m → j < m → (b ≡ c → i ≡ j → ⊥)
      → (record_at g b i + g.record_size ≤ record_at g c j) ⊎ (record_at g c j + g.record_size ≤ record_at g b i)
  records_apart b n i c m j low e k least f l other =
      compared b c
      (λ z. inl (omega (arith, record_inside t g s b n e i k, blocks_apart g b c low z)))
      (λ z. rw z (compared i j (λ y. inl (records_behind g c i j y)) (λ y. absurd (other z y))
      (λ y. inr (records_behind g c j i y))))
      (λ z. inr (omega (arith, record_inside t g s c m f j l, blocks_apart g c b least z)))
