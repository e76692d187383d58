-- The number of index blocks that a walk reads: 0 with a refusal, whose number is not 0, one a level where a record
-- is found, and never more than 8. Assumes nothing.
use Rattle.std.specs.Prelude.{Option, Some, None, Result, Ok, Err}
use Prim.Native.Nat.{ℕ, zero, suc, ◌+◌, ◌≤◌}
use mathlib.Core.Path.{◌≡◌, refl, ◌∙◌}
use mathlib.Core.Bool.{Bool, true, false, cond}
use mathlib.Core.List.{List}
use native.Mathlib.Omega.{arith}
use lib.Dec.{eqb}
use borrow.Author.Tests.{eqb-true, eqb-false}
use Rattle.header.specs.declared.refusal.Refusal.{Refusal}
use Rattle.header.specs.declared.refusal.Refusal.TheVariants.{ChainRule, WrongCount, BadArgument, IndexTree}
use Rattle.header.specs.Numbers.{numbers_of}
use Rattle.header.specs.declared.Header.{Header}
use Rattle.header.proofs.RefusalLaws.{refusal_least}
use Rattle.header.proofs.AcceptedLaws.{first_holds}
use Rattle.blocks.specs.Shape.{shape_of, has_block}
use Rattle.blocks.specs.Counts.{count_in}
use Rattle.blocks.specs.declared.Shape.{Shape}
use Rattle.lookup.specs.Sought.{key_fits}
use Rattle.lookup.specs.Found.{lookup_of}
use Rattle.lookup.specs.Rules.{NoPlace}
use Rattle.lookup.proofs.FoundLaws.{refused_no_place, no_refusal}
use Rattle.index.specs.Header.{most_levels, index_of}
use Rattle.index.specs.Rules.{Reads}
use Rattle.index.specs.Entries.{entries_in, below}
use Rattle.index.specs.Walk.{found_after, by_count, in_data, onward, walk_from, walk_of, walk_key}
use Rattle.index.specs.Walk.{found_of, reads_of, walked_numbers, walk_numbers}
use Rattle.index.specs.declared.IndexHeader.{IndexHeader}
use Rattle.index.specs.declared.walking.Walked.{Walked}
use Rattle.index.proofs.AcceptedLaws.{accepted_index}
use Rattle.index.proofs.WalkLaws.{key_unfit, index_refused, walk_rootless, walk_rooted}

module _ (reads level : ℕ) where
  by_refusal : (r : Refusal) → Reads reads level (Err r)
  unfolding found_of reads_of
  by_refusal r =
      record {
        refused = λ s e. (refusal_least s, refl);
        found = λ b p e. cc;
        most = omega arith;
      }

  by_absence : (m : ℕ) → m ≤ reads + level → Reads reads level (found_after m None)
  unfolding found_after found_of reads_of
  by_absence m l =
      record {
        refused = λ r e. cc;
        found = λ b p e. cc;
        most = l;
      }

module _ (t : List ℕ) (g : Shape) (x : List ℕ) (gx : Shape) (key : List ℕ) where
  -- in the data block
  data_reads : (b reads : ℕ) → Reads reads 0 (in_data t g key b reads)
  unfolding in_data by_count found_after found_of reads_of
  data_reads b reads = by_file (has_block g b)
    where
      by_records : (c : Option ℕ) → Reads reads 0 (by_count t g key b reads c)
      by_records (Some n) =
          record {
            refused = λ r e. cc;
            found = λ d p e. omega arith;
            most = omega arith;
          }
      by_records None = by_refusal reads 0 WrongCount

      by_file : (c : Bool) → Reads reads 0 (cond c (by_count t g key b reads (count_in t g b)) (Err ChainRule))
      by_file true = by_records (count_in t g b)
      by_file false = by_refusal reads 0 ChainRule

  -- down the tree
  tree_reads : (level b reads : ℕ) → Reads reads level (walk_from t g x gx key level b reads)
  unfolding walk_from onward
  tree_reads zero b reads = data_reads b reads
  tree_reads (suc level) b reads = by_entries (eqb (entries_in x gx b) 0) (tree_reads level)
    where
      one_more : reads + 1 + level ≡ reads + suc level
      one_more = omega arith

      later : (w : Result Walked Refusal) → Reads (reads + 1) level w → Reads reads (suc level) w
      later w r =
          record { refused = r.refused; found = λ d p e. r.found d p e ∙ one_more; most = omega (arith, r.most) }

      by_below : ((d n : ℕ) → Reads n level (walk_from t g x gx key level d n)) → (c : Option ℕ)
          → Reads reads (suc level) (onward c (found_after (reads + 1) None)
          (λ (next : ℕ). walk_from t g x gx key level next (reads + 1)))
      by_below ih (Some d) = later (walk_from t g x gx key level d (reads + 1)) (ih d (reads + 1))
      by_below ih None = by_absence reads (suc level) (reads + 1) (omega arith)

      by_entries : (c : Bool) → ((d n : ℕ) → Reads n level (walk_from t g x gx key level d n))
          → Reads reads (suc level) (cond c (Err IndexTree)
          (onward (below x gx key b (entries_in x gx b)) (found_after (reads + 1) None)
          (λ (next : ℕ). walk_from t g x gx key level next (reads + 1))))
      by_entries true ih = by_refusal reads (suc level) IndexTree
      by_entries false ih = by_below ih (below x gx key b (entries_in x gx b))

-- the whole walk, for any bytes and any key
module _ (t x key : List ℕ) where
  abbrev h : Header
  h = numbers_of t

  -- the levels are those of the index's header
  pub walk_reads : (i : IndexHeader) → index_of x h.key_length ≡ Ok i → Reads 0 i.levels (walk_of t x key)
  unfolding walk_of
  walk_reads i k =
      first_holds t Err (walk_key t h x key) (Reads 0 i.levels) (λ r w. by_refusal 0 i.levels r)
      (λ a. by_key (key_fits h key) refl)
    where
      by_root : key_fits h key ≡ true → (c : Bool) → eqb i.root 0 ≡ c → Reads 0 i.levels (walk_key t h x key)
      by_root f true r =
          rw (walk_rootless t x key f i k (eqb-true i.root 0 r)) (by_absence 0 i.levels 0 (omega arith))
      by_root f false r =
          rw (walk_rooted t x key f i k (eqb-false i.root 0 r))
          (tree_reads t (shape_of h) x i.shape key i.levels i.root 0)

      by_key : (c : Bool) → key_fits h key ≡ c → Reads 0 i.levels (walk_key t h x key)
      by_key true f = by_root f (eqb i.root 0) refl
      by_key false f = rw (key_unfit t x key f) (by_refusal 0 i.levels BadArgument)

  -- where the index's header is refused, no index block is read
  pub walk_unread : (r : Refusal) → index_of x h.key_length ≡ Err r → Reads 0 0 (walk_of t x key)
  unfolding walk_of
  walk_unread r k =
      first_holds t Err (walk_key t h x key) (Reads 0 0) (λ s w. by_refusal 0 0 s) (λ a. by_key (key_fits h key) refl)
    where
      by_key : (c : Bool) → key_fits h key ≡ c → Reads 0 0 (walk_key t h x key)
      by_key true f = rw (index_refused t x key f r k) (by_refusal 0 0 r)
      by_key false f = rw (key_unfit t x key f) (by_refusal 0 0 BadArgument)

  -- no index has more levels than 8
  pub reads_most : reads_of (walk_of t x key) ≤ most_levels
  reads_most = go (index_of x h.key_length) refl
    where
      go : (i : Result IndexHeader Refusal) → index_of x h.key_length ≡ i → reads_of (walk_of t x key) ≤ most_levels
      go (Ok i) e = omega (arith, (walk_reads i e).most, (accepted_index x h.key_length i e).levels_most)
      go (Err r) e = omega (arith, (walk_unread r e).most)

  -- a refused walk hands out no place, and its count is 0
  pub walk_no_place : ((walk_numbers t x key).0.refusal ≡ 0 → ⊥) →
      NoPlace (walk_numbers t x key).0 × ((walk_numbers t x key).1 ≡ 0)
  unfolding walk_numbers walked_numbers found_of reads_of
  walk_no_place h = (refused_no_place (found_of (walk_of t x key)) h, go (walk_of t x key) h)
    where
      go : (w : Result Walked Refusal) → ((lookup_of (found_of w)).refusal ≡ 0 → ⊥) → reads_of w ≡ 0
      go (Ok w) k = absurd (k (no_refusal w.found))
      go (Err r) k = refl
