-- Where a tree fits an accepted table with key fields, the walk down it finds the first record with the key. By
-- induction on the level: the last entry whose key is at most the one sought leads to the only records that can have
-- it. Assumes nothing.
use Prim.Native.Nat.{ℕ, zero, suc, ◌+◌, ◌≤◌}
use mathlib.Core.Path.{◌≡◌, refl, sym, ap, subst, ◌∙◌}
use mathlib.Core.Bool.{Bool, true, false, cond}
use mathlib.Core.List.{List, [], ◌∷◌, ◌++◌, append-nil}
use native.Mathlib.Omega.{arith}
use lib.Dec.{eqb}
use lib.ListN.{length}
use borrow.Author.Tests.{eqb-true}
use Rattle.std.specs.Prelude.{Option, Some, None, Result, Ok}
use Rattle.words.specs.Each.{each}
use Rattle.words.specs.Order.{is_at_most, order}
use Rattle.words.proofs.Conjunctions.{both}
use Rattle.words.proofs.EachLaws.{each_last}
use Rattle.header.specs.declared.Header.{Header}
use Rattle.header.specs.declared.refusal.Refusal.{Refusal}
use Rattle.blocks.specs.Shape.{shape_of}
use Rattle.blocks.specs.declared.Shape.{Shape}
use Rattle.chain.specs.Links.{used_of}
use Rattle.table.specs.Records.{Position, held, places_from, records_in, records_of}
use Rattle.table.specs.Rules.{AcceptedTable}
use Rattle.table.proofs.GoodChainLaws.{good_begins}
use Rattle.table.proofs.UniqueLaws.{earlier_less}
use Rattle.lookup.specs.Sought.{first_with}
use Rattle.lookup.specs.declared.found.Found.{Found}
use Rattle.index.specs.Entries.{entries_in, entry_key, entry_block, below}
use Rattle.index.specs.Walk.{found_of, found_after, by_count, in_data, onward, walk_from, from_root, walk_tree}
use Rattle.index.specs.declared.IndexHeader.{IndexHeader}
use Rattle.pair.specs.Tree.{Entry, entry_at, key_right, fits, joined, leaves, tree_leaves, first_keys, same_entries}
use Rattle.pair.specs.Pair.{empty_fits, root_fits, tree_fits}
use Rattle.pair.proofs.RunLaws.{All, all_append, Ascends, ascends_takes, ascends_append, Starts, second_run}
use Rattle.pair.proofs.RunLaws.{first_run}
use Rattle.pair.proofs.LeafLaws.{records_under, under_append, Leaf, under_first, first_leaves, leaves_start}
use Rattle.pair.proofs.FitLaws.{entries_gives, fitting, under, entry_fits, block_fits}

-- what was found, as an answer that is no refusal
abbrev answered : Option Found → Result (Option Found) Refusal
answered f = Ok f

module _ (t : List ℕ) (g : Shape) (x : List ℕ) (gx : Shape) (key : List ℕ) where
  -- the key length
  abbrev n : ℕ
  n = length key

  -- the first record with the key, of the blocks that some entries name
  abbrev found : List Entry → Option Found
  found es = first_with t g key (records_under t g es)

  -- ---- down from an entry whose block is at a level

  -- the walk from its block finds the first record with the key below it
  abbrev AgreesAt : ℕ → Entry → Type 0
  AgreesAt level e =
      (reads : ℕ) → fits x gx n level e.block ≡ true → All (Leaf t g n) (leaves x gx n level e)
      → Ascends t g n (records_under t g (leaves x gx n level e))
      → found_of (walk_from t g x gx key level e.block reads) ≡ answered (found (leaves x gx n level e))

  module _ (level b : ℕ) (ih : (e : Entry) → AgreesAt level e) (reads : ℕ) where
    -- the level 1 entries below the first i entries of index block b
    abbrev joins : ℕ → List Entry
    joins i = joined (under x gx n level b) i

    -- what the walk finds below the block that an entry names
    abbrev onwards : Option ℕ → Result (Option Found) Refusal
    onwards w =
        found_of
        (onward w (found_after (reads + 1) None) (λ (next : ℕ). walk_from t g x gx key level next (reads + 1)))

    -- it finds the first record with the key below the first i entries
    agrees_joined : (i : ℕ) → each (fitting x gx n level b) i ≡ true → All (Leaf t g n) (joins i) →
        Ascends t g n (records_under t g (joins i)) → onwards (below x gx key b i) ≡ answered (found (joins i))
    unfolding joined below onward found_after found_of records_in first_with
    agrees_joined zero f h s = refl
    agrees_joined (suc i) f h s =
        go (is_at_most (order (entry_key x gx n b i) key)) refl
        (agrees_joined i (each_last (fitting x gx n level b) i f).0 parts.0 (ascends_append t g n us vs ascends).0)
        ∙ ap (λ (ps : List Position). answered (first_with t g key ps))
        (sym (under_append t g (joins i) (under x gx n level b i)))
      where
        us : List Position
        us = records_under t g (joins i)

        vs : List Position
        vs = records_under t g (under x gx n level b i)

        entry : (fits x gx n level (entry_block x gx n b i) ≡ true)
            × (key_right x gx n level (entry_at x gx n b i) ≡ true)
        entry = entry_fits x gx n level b i (each_last (fitting x gx n level b) i f).1

        parts : All (Leaf t g n) (joins i) × All (Leaf t g n) (under x gx n level b i)
        parts = all_append (Leaf t g n) (joins i) (under x gx n level b i) h

        ascends : Ascends t g n (us ++ vs)
        ascends = subst (Ascends t g n) (under_append t g (joins i) (under x gx n level b i)) s

        starts : Starts t g n vs (entry_key x gx n b i)
        starts = leaves_start t g n x gx level (entry_at x gx n b i) entry.0 entry.1 parts.1

        go : (c : Bool) → is_at_most (order (entry_key x gx n b i) key) ≡ c →
            onwards (below x gx key b i) ≡ answered (first_with t g key us)
            → onwards (cond c (Some (entry_block x gx n b i)) (below x gx key b i))
            ≡ answered (first_with t g key (us ++ vs))
        go true e w =
            ih (entry_at x gx n b i) (reads + 1) entry.0 parts.1 (ascends_append t g n us vs ascends).1
            ∙ ap answered (sym (second_run t g key us vs (entry_key x gx n b i) ascends starts e))
        go false e w = w ∙ ap answered (sym (first_run t g key us vs (entry_key x gx n b i) ascends starts e))

  -- so it is at every level
  agrees : (level : ℕ) (e : Entry) → AgreesAt level e
  unfolding leaves walk_from in_data by_count found_after found_of records_in held
  agrees zero e reads f h s =
      let w = h.0 in rw (w.here, w.counted) (ap (λ (ps : List Position). answered (first_with t g key ps))
      (sym (append-nil (places_from e.block 0 (suc w.others)))))
  agrees (suc level) e reads f h s =
      let p = block_fits x gx n level e.block f in
      rw p.0 (agrees_joined level e.block (agrees level) reads (entries_in x gx e.block) p.1 h s)

-- ---- down from the root of an index over a table

-- a list of length 0 is the empty one
no_records : (ps : List Position) → eqb (length ps) 0 ≡ true → ps ≡ []
no_records [] e = refl
no_records (p ∷ ps) e = absurd (omega (arith, eqb-true (length (p ∷ ps)) 0 e))

module _ (t : List ℕ) (h : Header) (x : List ℕ) (i : IndexHeader) (key : List ℕ) (a : AcceptedTable t h)
    (keyed : 1 ≤ h.key_fields) (size : length key ≡ h.key_length) where
  -- the keys of all records ascend, here by the length of the key sought
  ascending : Ascends t (shape_of h) (length key) (records_of t h)
  ascending = rw size (ascends_takes t (shape_of h) h.key_length (records_of t h) (earlier_less t h a keyed))

  -- a root that is not 0
  rooted : root_fits t h x i ≡ true →
      found_of (from_root t (shape_of h) x i key) ≡ answered (first_with t (shape_of h) key (records_of t h))
  unfolding root_fits
  rooted e =
      let g = shape_of h in
      let root : Entry = record { key = []; block = i.root } in
      let p = both {a = fits x i.shape h.key_length i.levels i.root}
      {b = same_entries (tree_leaves x i.shape h.key_length i.levels i.root)
      (first_keys t g h.key_length (used_of t h))} e in
      let s : leaves x i.shape (length key) i.levels root ≡ first_keys t g (length key) (used_of t h) = rw size
      (entries_gives _ _ p.1) in
      let r : records_under t g (leaves x i.shape (length key) i.levels root) ≡ records_of t h = ap
      (records_under t g) s ∙ under_first t g (length key) (used_of t h) in
      agrees t g x i.shape key i.levels root 0 (rw size p.0)
      (rw s (first_leaves t g (length key) h.first (used_of t h) (good_begins t h a))) (rw r ascending)
      ∙ ap (λ (ps : List Position). answered (first_with t g key ps)) r

  -- any root
  pub walk_agrees : tree_fits t h x i ≡ true →
      found_of (walk_tree t (shape_of h) x i key) ≡ Ok (first_with t (shape_of h) key (records_of t h))
  unfolding tree_fits empty_fits walk_tree found_after found_of first_with
  walk_agrees e = go (eqb i.root 0) e
    where
      go : (c : Bool) → cond c (empty_fits t h) (root_fits t h x i) ≡ true
          → found_of (cond c (found_after 0 None) (from_root t (shape_of h) x i key))
          ≡ answered (first_with t (shape_of h) key (records_of t h))
      go true f =
          ap (λ (ps : List Position). answered (first_with t (shape_of h) key ps))
          (sym (no_records (records_of t h) f))
      go false f = rooted f
