-- The entries of an index block: how many there are, that they are inside the file, and the block that a key leads
-- to, entry by entry from the last one. Assumes nothing.
use Rattle.std.specs.Prelude.{Option, Some, None, Ok, Err}
use Rattle.std.specs.Option.{unwrap_or}
use Prim.Native.Nat.{ℕ, zero, suc, ◌+◌, ◌-◌, ◌≤◌, ◌<◌}
use mathlib.Core.Path.{◌≡◌, refl, ◌∙◌}
use mathlib.Core.Bool.{Bool, true, false, cond}
use mathlib.Core.List.{List}
use native.Mathlib.Nat.{not-suc-le-zero}
use native.Mathlib.Omega.{arith}
use lib.ListN.{length}
use borrow.Author.Tests.{eq-eqb, ne_eqb}
use Rattle.words.specs.Order.{is_at_most, order}
use Rattle.header.specs.declared.refusal.Refusal.TheVariants.{IndexTree}
use Rattle.blocks.specs.Shape.{has_block, record_at, RunInside, Sound}
use Rattle.blocks.specs.Counts.{count_in}
use Rattle.blocks.specs.Rules.{BlockHolds}
use Rattle.blocks.specs.declared.Shape.{Shape}
use Rattle.blocks.proofs.CountLaws.{record_in_file, run_inside}
use Rattle.blocks.proofs.RuleLaws.{holds_gives, holds_takes}
use Rattle.blocks.proofs.ShapeLaws.{has_block_lem, block_there}
use Rattle.table.specs.Records.{held}
use Rattle.index.specs.Header.{entry_numbers}
use Rattle.index.specs.Entries.{entries_in, entry_key, entry_block, below}
use Rattle.index.specs.Steps.{descent_of}

module _ (x : List ℕ) (g : Shape) (b : ℕ) where
  -- ---- how many

  pub entries_outside : has_block g b ≡ false → entries_in x g b ≡ 0
  unfolding entries_in
  entries_outside e = rw e

  pub entries_file : has_block g b ≡ true → entries_in x g b ≡ unwrap_or (count_in x g b) 0
  unfolding entries_in held
  entries_file e = go (count_in x g b)
    where
      go : (c : Option ℕ) → cond (has_block g b) (held c) 0 ≡ unwrap_or c 0
      go (Some n) = rw e
      go None = rw e

  pub entries_bad : has_block g b ≡ true → count_in x g b ≡ None → entries_in x g b ≡ 0
  unfolding entries_in held
  entries_bad e f = rw (e, f)

  pub entries_counted : (n : ℕ) → has_block g b ≡ true → count_in x g b ≡ Some n → entries_in x g b ≡ n
  unfolding entries_in held
  entries_counted n e f = rw (e, f)

  -- a block with entries is in the file, and they are what it counts
  pub record WithEntries : Type 0 where
    pub low : 1 ≤ b
    pub high : b ≤ g.blocks
    pub counted : count_in x g b ≡ Some (entries_in x g b)

  pub with_entries : 0 < entries_in x g b → WithEntries
  unfolding held
  with_entries l = by_file (has_block g b) refl
    where
      by_count_lem : has_block g b ≡ true → (c : Option ℕ) → count_in x g b ≡ c → WithEntries
      by_count_lem e (Some n) f =
          let p = has_block_lem g b e in record { low = p.0; high = p.1; counted = f ∙ rw (entries_counted n e f) }
      by_count_lem e None f = absurd (omega (arith, entries_bad e f))

      by_file : (c : Bool) → has_block g b ≡ c → WithEntries
      by_file true e = by_count_lem e (count_in x g b) refl
      by_file false e = absurd (omega (arith, entries_outside e))

  -- and it holds as many
  pub entries_held : 0 < entries_in x g b → BlockHolds x g b (entries_in x g b)
  entries_held l =
      let w = with_entries l in
      record { low = w.low; high = w.high; holds = holds_gives x g b (entries_in x g b) w.counted }

  -- a block that holds so many has as many entries
  pub entries_are : 1 ≤ g.record_size → (n : ℕ) → BlockHolds x g b n → entries_in x g b ≡ n
  entries_are size n h = entries_counted n (block_there g b h.low h.high) (holds_takes x g b n size h.holds)

  -- ---- where they stand: an entry is a key of n bytes and its numbers

  pub entries_inside : Sound x g → (n : ℕ) → g.record_size ≡ n + entry_numbers → 0 < entries_in x g b →
      entries_in x g b < 65536 → RunInside x g (n + entry_numbers) b (entries_in x g b)
  entries_inside s n size l few =
      let w = with_entries l in
      run_inside x g s b w.low w.high (entries_in x g b) w.counted (n + entry_numbers) (omega (arith, size)) few

  pub entry_inside : Sound x g → (n i : ℕ) → g.record_size ≡ n + entry_numbers → i < entries_in x g b →
      record_at g b i + n + entry_numbers ≤ length x
  entry_inside s n i size l =
      let w = with_entries (omega arith) in
      omega (arith, size, record_in_file x g s b (entries_in x g b) w.counted w.low w.high i l)

  -- ---- the way down

  module _ (key : List ℕ) where
    pub descent_refused : entries_in x g b ≡ 0 → descent_of x g key b ≡ Err IndexTree
    unfolding descent_of
    descent_refused e = rw (eq-eqb (entries_in x g b) 0 e)

    pub descent_read : (entries_in x g b ≡ 0 → ⊥) → descent_of x g key b ≡ Ok (below x g key b (entries_in x g b))
    unfolding descent_of
    descent_read ne = rw (ne_eqb (entries_in x g b) 0 ne)

    -- the last of m entries decides where its key is at most the one sought, else those before it
    pub below_hit : (m : ℕ) → 0 < m → is_at_most (order (entry_key x g (length key) b (m - 1)) key) ≡ true →
        below x g key b m ≡ Some (entry_block x g (length key) b (m - 1))
    unfolding below
    below_hit zero l e = absurd (not-suc-le-zero l)
    below_hit (suc i) l e = let f : suc i - 1 ≡ i = omega arith in let d = rw f at e in rw (f, d)

    pub below_miss : (m : ℕ) → 0 < m → is_at_most (order (entry_key x g (length key) b (m - 1)) key) ≡ false →
        below x g key b m ≡ below x g key b (m - 1)
    unfolding below
    below_miss zero l e = absurd (not-suc-le-zero l)
    below_miss (suc i) l e = let f : suc i - 1 ≡ i = omega arith in let d = rw f at e in rw (f, d)

    pub below_none : (m : ℕ) → m ≤ 0 → below x g key b m ≡ None
    unfolding below
    below_none m l = let e : m ≡ 0 = omega arith in rw e
