-- What the MB file's blocks and entries state: one law for each answer. Assumes nothing.
use mathlib.Core.Path.{◌≡◌, refl, ap}
use mathlib.Core.Bool.{Bool, true, false, cond, and-false}
use mathlib.Core.List.{List}
use Rattle.std.specs.Prelude.{Some, None}
use Prim.Native.Nat.{ℕ, ◌+◌, ◌≤◌, ◌<◌}
use native.Mathlib.Omega.{arith}
use lib.Dec.{leb}
use lib.ListN.{length}
use borrow.Author.Tests.{eq-eqb, ne_eqb, le-leb, lt-leb, lt-ltb, le-ltb, leb-true}
use Rattle.words.proofs.Conjunctions.{both, join}
use Rattle.words.proofs.Cases.{apart}
use Rattle.blob.specs.Mb.{stated_is, mb_unit, block_kind, units_at, mb_block_size, block_inside, own_low_byte, own_kind}
use Rattle.blob.specs.Mb.{own_length, own_head, own_stated, sub_kind, sub_unit, entries, entry_place, entries_end}
use Rattle.blob.specs.Mb.{entry_begin, entry_units, entry_last, entry_length, entry_used, entry_blob, entry_stated}
use Rattle.blob.specs.Mb.{stated_at}
use Rattle.blob.specs.Steps.{size_in}
use Rattle.blob.specs.declared.mb.Stated.{Stated}

-- two blobs that are the same begin and end alike
pub stated_same : {a l b m : ℕ} → stated_is a l ≡ stated_is b m → (a ≡ b) × (l ≡ m)
stated_same {a} {l} {b} {m} e =
    let q : ◌≡◌ {A = Stated} (record { begin = a; len = l }) (record { begin = b; len = m }) = cc in
    (ap (λ (s : Stated). s.begin) q, ap (λ (s : Stated). s.len) q)

module _ (mb : List ℕ) (base : ℕ) where
  -- ---- a block of its own

  pub own_other : (block_kind mb base ≡ own_kind → ⊥) → None ≡ own_stated mb base
  unfolding own_stated
  own_other e = rw (ne_eqb (block_kind mb base) own_kind e)

  pub own_states : block_kind mb base ≡ own_kind → stated_is own_head (own_length mb base) ≡ own_stated mb base
  unfolding own_stated
  own_states e = rw (eq-eqb (block_kind mb base) own_kind e)

  -- ---- a suballocated block

  module _ (i : ℕ) where
    pub entry_other : (block_kind mb base ≡ sub_kind → ⊥) → None ≡ entry_stated mb base i
    unfolding entry_stated
    entry_other e = rw (ne_eqb (block_kind mb base) sub_kind e)

    pub entry_states : block_kind mb base ≡ sub_kind → entry_blob mb (entry_place base i) ≡ entry_stated mb base i
    unfolding entry_stated
    entry_states e = rw (eq-eqb (block_kind mb base) sub_kind e)

  -- ---- by the low byte

  module _ (low : ℕ) where
    pub low_own : low ≡ own_low_byte → own_stated mb base ≡ stated_at mb base low
    unfolding stated_at
    low_own e = rw (eq-eqb low own_low_byte e)

    pub low_entry : low < entries → entry_stated mb base low ≡ stated_at mb base low
    unfolding stated_at
    low_entry l = rw (ne_eqb low own_low_byte (λ e. omega (arith, l, e)), lt-ltb low entries l)

    pub low_other : (low ≡ own_low_byte → ⊥) → entries ≤ low → None ≡ stated_at mb base low
    unfolding stated_at
    low_other e l = rw (ne_eqb low own_low_byte e, le-ltb low entries l)

  -- ---- the block's length

  -- None where the file ends before one unit: a block that is longer is not inside it
  pub size_unit : length mb < base + mb_unit → None ≡ size_in mb base
  unfolding size_in
  size_unit l = go (block_inside mb base) refl
    where
      go : (b : Bool) → block_inside mb base ≡ b → None ≡ cond b (Some (mb_block_size mb base)) None
      go false e = refl
      go true e =
          let p = both e in
          let u = leb-true 1 (units_at mb base) p.0 in
          absurd (omega (arith, leb-true (base + mb_block_size mb base) (length mb) p.1, u, l))

  pub size_empty : units_at mb base ≡ 0 → None ≡ size_in mb base
  unfolding size_in
  size_empty z = rw z

  pub size_outside : length mb < base + mb_block_size mb base → None ≡ size_in mb base
  unfolding size_in
  size_outside l = rw (lt-leb (base + mb_block_size mb base) (length mb) l, and-false (leb 1 (units_at mb base)))

  pub size_inside : 1 ≤ units_at mb base → base + mb_block_size mb base ≤ length mb →
      Some (mb_block_size mb base) ≡ size_in mb base
  unfolding size_in
  size_inside u l = rw (le-leb 1 (units_at mb base) u, le-leb (base + mb_block_size mb base) (length mb) l)

  -- it is None where there is no block inside the file, and no other one's
  pub size_none : size_in mb base ≡ None → block_inside mb base ≡ false
  unfolding size_in
  size_none = go (block_inside mb base)
    where
      go : (b : Bool) → cond b (Some (mb_block_size mb base)) None ≡ None → b ≡ false
      go true z = apart cc
      go false z = refl

  pub size_some : {size : ℕ} → size_in mb base ≡ Some size
      → (1 ≤ units_at mb base) × (base + mb_block_size mb base ≤ length mb) × (size ≡ mb_block_size mb base)
  unfolding size_in
  size_some {size} = go (block_inside mb base) refl
    where
      go : (b : Bool) → block_inside mb base ≡ b → cond b (Some (mb_block_size mb base)) None ≡ Some size
          → (1 ≤ units_at mb base) × (base + mb_block_size mb base ≤ length mb) × (size ≡ mb_block_size mb base)
      go true e h =
          let p = both e in (
            leb-true 1 (units_at mb base) p.0,
            leb-true (base + mb_block_size mb base) (length mb) p.1,
            cc,
          )
      go false e h = apart cc

-- ---- an entry

module _ (mb : List ℕ) (e : ℕ) where
  pub used_gives : entry_used mb e ≡ true
      → (1 ≤ entry_units mb e) × (1 ≤ entry_last mb e) × (entry_last mb e ≤ sub_unit) × (entries_end ≤ entry_begin mb e)
  used_gives u =
      let p = both u in
      let q = both p.0 in
      let r = both q.0 in (
        leb-true 1 (entry_units mb e) r.0,
        leb-true 1 (entry_last mb e) r.1,
        leb-true (entry_last mb e) sub_unit q.1,
        leb-true entries_end (entry_begin mb e) p.1,
      )

  pub used_takes : 1 ≤ entry_units mb e → 1 ≤ entry_last mb e → entry_last mb e ≤ sub_unit →
      entries_end ≤ entry_begin mb e → entry_used mb e ≡ true
  used_takes some least most behind =
      join
      (join
      (join (le-leb 1 (entry_units mb e) some) (le-leb 1 (entry_last mb e) least))
      (le-leb (entry_last mb e) sub_unit most))
      (le-leb entries_end (entry_begin mb e) behind)

  pub entry_used_lem : entry_used mb e ≡ true → stated_is (entry_begin mb e) (entry_length mb e) ≡ entry_blob mb e
  unfolding entry_blob
  entry_used_lem u = rw u

  pub entry_unused : entry_used mb e ≡ false → None ≡ entry_blob mb e
  unfolding entry_blob
  entry_unused u = rw u
