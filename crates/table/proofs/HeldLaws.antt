-- Blocks that hold so many records each: those numbers are what their counts give, and so are the records. Assumes
-- nothing.
use Rattle.std.specs.Prelude.{Option, Some}
use Prim.Native.Nat.{ℕ, zero, suc, ◌+◌, ◌≤◌, ◌<◌}
use mathlib.Core.Path.{◌≡◌, refl, ap}
use mathlib.Core.Bool.{true}
use mathlib.Core.List.{List, [], ◌∷◌, map}
use native.Mathlib.Omega.{arith}
use lib.ListN.{length, get_or}
use Rattle.blocks.specs.Counts.{count_in}
use Rattle.blocks.specs.Rules.{Holds}
use Rattle.blocks.specs.declared.Shape.{Shape}
use Rattle.blocks.proofs.RuleLaws.{holds_gives, holds_takes}
use Rattle.chain.proofs.ListLaws.{every_gives, every_takes}
use Rattle.table.specs.Records.{held, records_held, records_in}
use Rattle.table.specs.Counts.{is_good, counts_good, sum, total}
use Rattle.table.proofs.RecordLaws.{good_count}

-- a count of records is good, and stands for so many
records_good : (c : Option ℕ) (n : ℕ) → c ≡ Some n → is_good c ≡ true
unfolding is_good
records_good c n e = rw e

records_held_lem : (c : Option ℕ) (n : ℕ) → c ≡ Some n → held c ≡ n
unfolding held
records_held_lem c n e = rw e

module _ (t : List ℕ) (g : Shape) where
  abbrev holds : ℕ → ℕ
  holds b = held (count_in t g b)

  -- how many records each of some blocks holds, by its count
  abbrev pub counts_of : List ℕ → List ℕ
  counts_of bs = map holds bs

  -- they add up to the total, and give the records
  pub sum_counts : (bs : List ℕ) → sum (counts_of bs) ≡ total t g bs
  unfolding sum total
  sum_counts [] = refl
  sum_counts (b ∷ bs) = ap (λ (n : ℕ). holds b + n) (sum_counts bs)

  pub held_records : (bs : List ℕ) → records_held bs (counts_of bs) ≡ records_in t g bs
  unfolding records_held records_in
  held_records [] = refl
  held_records (b ∷ bs) = rw (held_records bs)

  -- where every count is good, each block holds what its count gives
  pub holding_gives : (bs : List ℕ) → counts_good t g bs ≡ true → (i : ℕ) → i < length bs →
      Holds t g (get_or bs i 0) (get_or (counts_of bs) i 0)
  holding_gives bs e i l =
      rw (count_at bs i l)
      (holds_gives t g (get_or bs i 0) (holds (get_or bs i 0)) (good_count (count_in t g (get_or bs i 0))
      (every_gives (λ (b : ℕ). is_good (count_in t g b)) bs e i l)))
    where
      count_at : (bs : List ℕ) (i : ℕ) → i < length bs → get_or (counts_of bs) i 0 ≡ holds (get_or bs i 0)
      count_at [] i l = absurd (omega arith)
      count_at (b ∷ bs) zero l = refl
      count_at (b ∷ bs) (suc i) l = count_at bs i (omega arith)

  -- blocks that hold so many records each: their counts are good, and the numbers are what they give
  module _ (some : 1 ≤ g.record_size) where
    pub holding_good : (bs counts : List ℕ) →
        ((i : ℕ) → i < length bs → Holds t g (get_or bs i 0) (get_or counts i 0)) → counts_good t g bs ≡ true
    holding_good bs counts h =
        every_takes (λ (b : ℕ). is_good (count_in t g b)) bs
        (λ i l. records_good (count_in t g (get_or bs i 0)) (get_or counts i 0)
        (holds_takes t g (get_or bs i 0) (get_or counts i 0) some (h i l)))

    pub holding_counts : (bs counts : List ℕ) → length counts ≡ length bs →
        ((i : ℕ) → i < length bs → Holds t g (get_or bs i 0) (get_or counts i 0)) → counts ≡ counts_of bs
    holding_counts [] [] e h = refl
    holding_counts [] (n ∷ ns) e h = absurd (omega arith)
    holding_counts (b ∷ bs) [] e h = absurd (omega arith)
    holding_counts (b ∷ bs) (n ∷ ns) e h =
        let one : holds b ≡ n = records_held_lem (count_in t g b) n (holds_takes t g b n some (h 0 (omega arith))) in
        let others : ns ≡ counts_of bs = holding_counts bs ns (omega arith) (λ i l. h (suc i) (omega arith)) in
        rw (one, ← others)
