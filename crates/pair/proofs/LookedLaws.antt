-- How many entries of an index the pair check looks at: each entry that fits passes a used block that holds records, so
-- at each level no more fit than there are such blocks, and one that does not fit ends the reading. Assumes nothing.
use Prim.Native.Nat.{ℕ, zero, suc, ◌+◌, ◌*◌, ◌-◌, ◌≤◌, ◌<◌}
use mathlib.Core.Path.{◌≡◌, refl, sym, ap, ◌∙◌}
use mathlib.Core.Bool.{Bool, true, false, cond}
use mathlib.Core.List.{List, [], ◌∷◌}
use native.Mathlib.Nat.{mul-le-mul, mul-le-mul_left, mul-le-mul_right, le_trans, le_of_eq}
use native.Mathlib.Omega.{arith}
use lib.Dec.{eqb}
use lib.ListN.{length}
use borrow.Author.Tests.{eqb-true, eqb-false}
use Rattle.std.specs.Prelude.{Option, Some, None, Ok}
use Rattle.words.proofs.Cases.{apart}
use Rattle.header.specs.Refusals.{kept}
use Rattle.header.specs.Header.{most_blocks}
use Rattle.header.specs.Numbers.{numbers_of}
use Rattle.header.specs.declared.Header.{Header}
use Rattle.blocks.specs.Shape.{shape_of}
use Rattle.blocks.specs.Counts.{count_in}
use Rattle.blocks.specs.declared.Shape.{Shape}
use Rattle.chain.specs.Links.{next_of, blocks_from, used_of}
use Rattle.chain.specs.Rules.{GoodFrom}
use Rattle.table.specs.Records.{held}
use Rattle.table.specs.Table.{table_answer}
use Rattle.table.proofs.GoodChainLaws.{good_begins}
use Rattle.table.proofs.RuleLaws.{accepted_table}
use Rattle.index.specs.Header.{most_levels, index_of}
use Rattle.index.specs.Entries.{entries_in}
use Rattle.index.specs.declared.IndexHeader.{IndexHeader}
use Rattle.index.proofs.AcceptedLaws.{accepted_index}
use Rattle.pair.specs.Tree.{Entry, entry_at, first_entry, first_keys}
use Rattle.pair.specs.Steps.{holding_from, is_expected, follow, entry_from, entry_from_at, block_from, Shapes}
use Rattle.pair.specs.Steps.{Paired}
use Rattle.pair.specs.Looked.{shapes_of, holders, looked_after, looked_from, every_entry, entries_at, entries_looked}
use Rattle.pair.specs.Looked.{block_looked, entry_looked, entry_looked_at}
use Rattle.pair.proofs.HoldingLaws.{keys_next}
use Rattle.pair.proofs.FollowLaws.{unexpected_end, follow_one, follow_none, up_to, up_to_none, up_to_suc}
use Rattle.pair.proofs.FollowLaws.{up_to_stays, up_to_good, block_some, block_all, entry_leaf, entry_block_lem}

-- a part of a tree fits or does not
unfit_next : {c : ℕ} {A : Type 0} → ◌≡◌ {A = Option ℕ} None (Some c) → A
unfit_next e = apart cc

-- ---- the used blocks that hold records

module _ (t : List ℕ) (g : Shape) where
  -- they are as many as their first keys
  holders_keys : (n : ℕ) (bs : List ℕ) → length (first_keys t g n bs) ≡ holders t g bs
  unfolding first_keys holders
  holders_keys n [] = refl
  holders_keys n (b ∷ bs) = go (eqb (held (count_in t g b)) 0) (holders_keys n bs)
    where
      go : (p : Bool) → length (first_keys t g n bs) ≡ holders t g bs →
          length (cond p (first_keys t g n bs) (first_entry t g n b ∷ first_keys t g n bs))
          ≡ cond p (holders t g bs) (suc (holders t g bs))
      go true ih = ih
      go false ih = ap suc ih

  -- no more than there are blocks
  holders_few : (bs : List ℕ) → holders t g bs ≤ length bs
  unfolding holders
  holders_few [] = omega arith
  holders_few (b ∷ bs) = go (eqb (held (count_in t g b)) 0) (holders_few bs)
    where
      go : (p : Bool) → holders t g bs ≤ length bs →
          cond p (holders t g bs) (suc (holders t g bs)) ≤ suc (length bs)
      go true ih = omega arith
      go false ih = omega arith

  -- those that are left where the chain is at number c
  abbrev left : ℕ → ℕ
  left c = holders t g (blocks_from t g c)

  -- a level 1 entry that is expected passes one
  leaf_passes : (n : ℕ) (e : Entry) (c d : ℕ) → GoodFrom t g c → follow t g n (e ∷ []) c ≡ Some d →
      left c ≡ suc (left d)
  leaf_passes n e c d good f = go (eqb (holding_from t g c) 0) refl (is_expected t g n e c) refl
    where
      go : (p : Bool) → eqb (holding_from t g c) 0 ≡ p → (q : Bool) → is_expected t g n e c ≡ q → left c ≡ suc (left d)
      go true z q y =
          unfit_next (sym (follow_none t g n e c (unexpected_end t g n e c (eqb-true (holding_from t g c) 0 z))) ∙ f)
      go false z false y = unfit_next (sym (follow_none t g n e c y) ∙ f)
      go false z true y =
          let u : Some (next_of t g (holding_from t g c)) ≡ Some d = sym (follow_one t g n e c y) ∙ f in
          let k : next_of t g (holding_from t g c) ≡ d = cc in
          rw (← k) (sym (holders_keys n (blocks_from t g c))
          ∙ ap length (keys_next t g n c good (eqb-false (holding_from t g c) 0 z)).1
          ∙ ap suc (holders_keys n (blocks_from t g (next_of t g (holding_from t g c)))))

-- ---- how often the entries of all levels below one count

abbrev below : (ℕ → ℕ) → ℕ → ℕ
below often zero = 0
below often (suc level) = below often level + often level

-- each once: the number of levels
below_every : (level : ℕ) → below every_entry level ≡ level
below_every zero = refl
below_every (suc level) = omega (arith, below_every level)

-- only those of one level: at most once, and not below that level
below_one : (k level : ℕ) → (below (entries_at k) level ≤ 1) × (level < k → below (entries_at k) level ≡ 0)
below_one k zero = (omega arith, λ l. refl)
below_one k (suc level) = go (eqb (suc level) k) refl (below_one k level)
  where
    go : (p : Bool) → eqb (suc level) k ≡ p →
        (below (entries_at k) level ≤ 1) × (level < k → below (entries_at k) level ≡ 0) →
        (below (entries_at k) level + cond p 1 0 ≤ 1) × (suc level < k → below (entries_at k) level + cond p 1 0 ≡ 0)
    go true e ih =
        let same : suc level ≡ k = eqb-true (suc level) k e in
        let none = ih.1 (omega arith) in
        (omega arith, λ l. absurd (omega arith))
    go false e ih = (omega (arith, ih.0), λ l. omega (arith, ih.1 (omega arith)))

-- ---- what reading a part of a tree costs, where entries count as often as is given

module _ (t x : List ℕ) (s : Shapes) (often : ℕ → ℕ) where
  abbrev g : Shape
  g = s.table

  abbrev gx : Shape
  gx = s.index

  abbrev n : ℕ
  n = s.key_length

  -- what a part of a tree costs that is read where the chain is at number c: the entries looked at, each as often as
  -- it counts, and how often one entry of every level counts together. They are no more than that for each block left,
  -- and once more; where the part fits, for each block that it passes, and it passes one at least
  record Cost (looked weight c : ℕ) (fit : Option ℕ) : Type 0 where
    most : looked ≤ weight * (left t g c + 1)
    passes : (d : ℕ) → fit ≡ Some d → left t g d < left t g c
    paid : (d : ℕ) → fit ≡ Some d → looked + weight * left t g d ≤ weight * left t g c

  -- ---- an entry whose block is at a level

  abbrev entry_counts : ℕ → Entry → ℕ → ℕ
  entry_counts level e c = often level + entries_looked t x s often level e.block c

  abbrev EntryCost : ℕ → Entry → ℕ → Type 0
  EntryCost level e c = Cost (entry_counts level e c) (below often (suc level)) c (entry_from t x s level e c)

  -- ---- the entries of a block

  -- those looked at from entry i on, as many as are given
  abbrev pub rest_looked : ℕ → ℕ → ℕ → ℕ → ℕ → ℕ
  rest_looked level b i more c =
      looked_from (λ (j d : ℕ). entry_counts level (entry_at x gx n b j) d) (entry_from_at t x s level b) i more c

  -- an entry that does not fit is the last
  rest_unfit : (level b i more c : ℕ) → entry_from_at t x s level b i c ≡ None →
      rest_looked level b i (suc more) c ≡ entry_counts level (entry_at x gx n b i) c
  unfolding looked_from looked_after
  rest_unfit level b i more c e = rw e (omega arith)

  -- after one that fits the others follow
  rest_next : (level b i more c d : ℕ) → entry_from_at t x s level b i c ≡ Some d →
      rest_looked level b i (suc more) c
      ≡ entry_counts level (entry_at x gx n b i) c + rest_looked level b (suc i) more d
  unfolding looked_from looked_after
  rest_next level b i more c d e = rw e

  -- what they cost, once the entries before i have fitted
  record Rest (looked weight more c : ℕ) (whole : Option ℕ) : Type 0 where
    most : looked ≤ weight * (left t g c + 1)
    passes : (d : ℕ) → whole ≡ Some d → more + left t g d ≤ left t g c
    paid : (d : ℕ) → whole ≡ Some d → looked + weight * left t g d ≤ weight * left t g c

  module _ (level : ℕ) (each_cost : (e : Entry) (c : ℕ) → GoodFrom t g c → EntryCost level e c) (b from : ℕ)
      (good : GoodFrom t g from) where
    abbrev RestCost : ℕ → ℕ → ℕ → Type 0
    RestCost i more c =
        Rest (rest_looked level b i more c) (below often (suc level)) more c (up_to t x s level b (i + more) from)

    rest_cost : (more i c : ℕ) → up_to t x s level b i from ≡ Some c → RestCost i more c
    unfolding looked_from
    rest_cost zero i c u =
        let e : i + 0 ≡ i = omega arith in
        record {
          most = omega arith;
          passes = λ d f. let k : c ≡ d = ended d (rw e at f) in rw k (omega arith);
          paid = λ d f. let k : c ≡ d = ended d (rw e at f) in rw k (omega arith);
        }
      where
        ended : (d : ℕ) → up_to t x s level b i from ≡ Some d → c ≡ d
        ended d f = cc
    rest_cost (suc more) i c u = go (entry_from_at t x s level b i c) refl (rest_cost more (suc i))
      where
        cost : EntryCost level (entry_at x gx n b i) c
        cost = each_cost (entry_at x gx n b i) c (up_to_good t x s level b i from c good u)

        go : (f : Option ℕ) → entry_from_at t x s level b i c ≡ f →
            ((d : ℕ) → up_to t x s level b (suc i) from ≡ Some d → RestCost (suc i) more d) → RestCost i (suc more) c
        go (Some d) e ih =
            let r = ih d (up_to_suc t x s level b i from ∙ rw u e) in
            let k : suc i + more ≡ i + suc more = omega arith in
            let l = rest_next level b i more c d e in
            record {
              most = omega (arith, l, cost.paid d e, r.most);
              passes = λ m f. omega (arith, cost.passes d e, r.passes m (rw k f));
              paid = λ m f. omega (arith, l, cost.paid d e, r.paid m (rw k f));
            }
        go None e ih =
            let k : suc i + more ≡ i + suc more = omega arith in
            let v = up_to_stays t x s level b (suc i) from (up_to_suc t x s level b i from ∙ rw u e) more in
            record {
              most = rw (rest_unfit level b i more c e) cost.most;
              passes = λ m f. unfit_next {c = m} (sym v ∙ rw k f);
              paid = λ m f. unfit_next {c = m} (sym v ∙ rw k f);
            }

    -- so the block costs that
    block_by_entries : Cost (entries_looked t x s often (suc level) b from) (below often (suc level)) from
        (block_from t x s (suc level) b from)
    unfolding entries_looked
    block_by_entries =
        let r = rest_cost (entries_in x gx b) 0 from (up_to_none t x s level b from) in
        record {
          most = r.most;
          passes =
              λ d f. let some = block_some t x s (suc level) b from d (omega arith) f in
              omega (arith, some, r.passes d (fitted d f));
          paid = λ d f. r.paid d (fitted d f);
        }
      where
        fitted : (d : ℕ) → block_from t x s (suc level) b from ≡ Some d →
            up_to t x s level b (0 + entries_in x gx b) from ≡ Some d
        fitted d f =
            let k : 0 + entries_in x gx b ≡ entries_in x gx b = omega arith in rw k (block_all t x s level b from d f)

  -- ---- every entry and every block

  -- a level 1 entry
  leaf_costs : (e : Entry) (c : ℕ) → GoodFrom t g c → EntryCost 0 e c
  unfolding entries_looked
  leaf_costs e c good =
      record {
        most = omega arith;
        passes = λ d f. omega (arith, one d f);
        paid = λ d f. omega (arith, mul-le-mul_left (often 0) (le_of_eq (sym (one d f))));
      }
    where
      one : (d : ℕ) → entry_from t x s 0 e c ≡ Some d → left t g c ≡ suc (left t g d)
      one d f = leaf_passes t g n e c d good (sym (entry_leaf t x s 0 e c refl) ∙ f)

  entry_costs : (level : ℕ) (e : Entry) (c : ℕ) → GoodFrom t g c → EntryCost level e c
  entry_costs zero e c good = leaf_costs e c good
  entry_costs (suc level) e c good =
      let r = block_by_entries level (entry_costs level) e.block c good in
      record {
        most = omega (arith, r.most);
        passes = λ d f. r.passes d (entry_block_lem t x s (suc level) e c (omega arith) d f);
        paid =
            λ d f. let u = entry_block_lem t x s (suc level) e c (omega arith) d f in
            omega (arith, r.paid d u, mul-le-mul_left (often (suc level)) (r.passes d u));
      }

  -- a block
  block_most : (level b c : ℕ) → GoodFrom t g c →
      entries_looked t x s often level b c ≤ below often level * (left t g c + 1)
  unfolding entries_looked
  block_most zero b c good = omega arith
  block_most (suc level) b c good = (block_by_entries level (entry_costs level) b c good).most

-- ---- the count of all entries

module _ (t x : List ℕ) (s : Shapes) where
  -- no more for each level than there are blocks left, and one
  looked_most : (level b c : ℕ) → GoodFrom t s.table c →
      block_looked t x s level b c ≤ level * (left t s.table c + 1)
  looked_most level b c good = rw below_every at (block_most t x s every_entry level b c good)

  -- it is a small number, of a file with a 16-bit number of blocks
  pub looked_small : (level b c : ℕ) → level < 256 → s.table.blocks < 65536 → GoodFrom t s.table c →
      block_looked t x s level b c ≤ 16777216
  looked_small level b c l few good =
      let h : left t s.table c + 1 ≤ 65536 =
      omega (arith, holders_few t s.table (blocks_from t s.table c), good.few) in
      let p : level * (left t s.table c + 1) ≤ 256 * 65536 =
      mul-le-mul {n₁ = level} {m₁ = left t s.table c + 1} {n₂ = 256} {m₂ = 65536} (omega arith) h in
      omega (arith, p, looked_most level b c good)

  -- ---- counted entry by entry

  -- of block b with m entries: so many counted before entry i, and those to come, are all
  abbrev pub CountedSoFar : ℕ → ℕ → ℕ → ℕ → ℕ → ℕ → ℕ → Type 0
  CountedSoFar level b from m i c entries =
      entries + rest_looked t x s every_entry (level - 1) b i (m - i) c ≡ block_looked t x s level b from

  -- a level 1 entry is one
  pub leaf_looked : (level : ℕ) (e : Entry) (c : ℕ) → level ≡ 0 → entry_looked t x s level e c ≡ 1
  unfolding entries_looked
  leaf_looked level e c z = rw z

  looked_by : (level b c : ℕ) → 1 ≤ level →
      block_looked t x s level b c ≡ rest_looked t x s every_entry (level - 1) b 0 (entries_in x s.index b) c
  unfolding entries_looked
  looked_by zero b c l = absurd (omega arith)
  looked_by (suc level) b c l = let k : suc level - 1 ≡ level = omega arith in rw k

  module _ (level b from m : ℕ) (l : 1 ≤ level) (same : m ≡ entries_in x s.index b) where
    pub counted_begin : CountedSoFar level b from m 0 from 0
    counted_begin = let k : m - 0 ≡ m = omega arith in rw (k, same) (omega (arith, looked_by level b from l))

    pub counted_done : (i c entries : ℕ) → m ≤ i → CountedSoFar level b from m i c entries →
        entries ≡ block_looked t x s level b from
    unfolding looked_from
    counted_done i c entries j e = let k : m - i ≡ 0 = omega arith in omega (arith, rw k at e)

    pub counted_empty : m ≡ 0 → 0 ≡ block_looked t x s level b from
    counted_empty z = counted_done 0 from 0 (omega arith) counted_begin

    -- entry i
    module _ (i c entries looked : ℕ) (j : i < m) (e : CountedSoFar level b from m i c entries)
        (k : looked ≡ entry_looked_at t x s (level - 1) b i c) where
      pub counted_turn : (d : ℕ) → entry_from_at t x s (level - 1) b i c ≡ Some d →
          CountedSoFar level b from m (i + 1) d (entries + looked)
      counted_turn d f =
          let p : m - i ≡ suc (m - (i + 1)) = omega arith in
          let q : suc i ≡ i + 1 = omega arith in
          omega (arith, rw p at e, rw q at (rest_next t x s every_entry (level - 1) b i (m - (i + 1)) c d f))

      pub counted_refused : entry_from_at t x s (level - 1) b i c ≡ None →
          entries + looked ≡ block_looked t x s level b from
      counted_refused f =
          let p : m - i ≡ suc (m - (i + 1)) = omega arith in
          omega (arith, rw p at e, rest_unfit t x s every_entry (level - 1) b i (m - (i + 1)) c f)

      pub counted_within : entries + looked ≤ block_looked t x s level b from
      counted_within = go (entry_from_at t x s (level - 1) b i c) refl
        where
          go : (f : Option ℕ) → entry_from_at t x s (level - 1) b i c ≡ f →
              entries + looked ≤ block_looked t x s level b from
          go (Some d) f = omega (arith, counted_turn d f)
          go None f = omega (arith, counted_refused f)

-- ---- the whole check: a table that is accepted, and an index whose header is accepted for the table's key length

module _ (t x : List ℕ) (room : ℕ) (e : table_answer t room ≡ kept)
    (i : IndexHeader) (f : index_of x (numbers_of t).key_length ≡ Ok i) where
  abbrev h : Header
  h = numbers_of t

  paired : Paired t h x i
  paired = record { table = accepted_table t room e; index = accepted_index x h.key_length i f }

  good : GoodFrom t (shape_of h) h.first
  unfolding shape_of
  good = good_begins t h paired.table

  -- of the entries at each level no more are looked at than there are used blocks that hold records, and one
  pub level_entries_most : (k : ℕ) → entries_looked t x (shapes_of h i) (entries_at k) i.levels i.root h.first
      ≤ holders t (shape_of h) (used_of t h) + 1
  unfolding shape_of
  level_entries_most k =
      let m = block_most t x (shapes_of h i) (entries_at k) i.levels i.root h.first good in
      let l = mul-le-mul_right (holders t (shape_of h) (used_of t h) + 1) (below_one k i.levels).0 in
      omega (arith, m, l)

  -- and so in all no more than that for each level
  pub entries_most : block_looked t x (shapes_of h i) i.levels i.root h.first
      ≤ i.levels * (holders t (shape_of h) (used_of t h) + 1)
  unfolding shape_of
  entries_most = looked_most t x (shapes_of h i) i.levels i.root h.first good

  -- whatever the index holds, they are no more than 262,144
  pub entries_at_most : block_looked t x (shapes_of h i) i.levels i.root h.first ≤ most_levels * (most_blocks + 1)
  entries_at_most =
      let k : holders t (shape_of h) (used_of t h) + 1 ≤ most_blocks + 1 =
      omega (
        arith,
        holders_few t (shape_of h) (used_of t h),
        paired.table.few_blocks,
        paired.table.header.blocks_most,
      ) in
      le_trans entries_most (mul-le-mul {n₁ = i.levels} {n₂ = most_levels} paired.index.levels_most k)
