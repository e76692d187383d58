-- The level 1 entries of a tree that fits are those of blocks that hold records, each with its first key; so the
-- first record below any entry has the entry's key. Assumes nothing.
use Prim.Native.Nat.{ℕ, zero, suc}
use mathlib.Core.Path.{◌≡◌, refl, sym, ap, ◌∙◌}
use mathlib.Core.Bool.{true, false, cond, false≢true}
use mathlib.Core.List.{List, [], ◌∷◌, ◌++◌, map, map-append}
use lib.Dec.{eqb, eqb-suc-zero}
use Rattle.std.specs.Prelude.{Some}
use Rattle.words.specs.Each.{each}
use Rattle.words.proofs.EachLaws.{each_last}
use Rattle.blocks.specs.Shape.{has_block}
use Rattle.blocks.specs.Counts.{count_in}
use Rattle.blocks.specs.declared.Shape.{Shape}
use Rattle.blocks.proofs.ShapeLaws.{block_there}
use Rattle.chain.specs.Links.{next_of}
use Rattle.chain.specs.Rules.{GoodChain}
use Rattle.chain.proofs.GoodChainLaws.{good_some}
use Rattle.table.specs.Records.{Position, held, places_from, records_in}
use Rattle.table.specs.Keys.{key_at}
use Rattle.table.proofs.RecordLaws.{records_append}
use Rattle.index.specs.Entries.{entries_in, entry_key}
use Rattle.pair.specs.Tree.{Entry, entry_at, key_right, fits, joined, leaves, first_entry, first_keys}
use Rattle.pair.proofs.FitLaws.{key_gives, fitting, under, entry_fits, block_fits}
use Rattle.pair.proofs.RunLaws.{All, all_append, Starts, starts_append}

-- ---- the table below an index block

module _ (t : List ℕ) (g : Shape) where
  -- the records of the blocks that some entries name
  abbrev pub records_under : List Entry → List Position
  records_under es = records_in t g (map (λ (e : Entry). e.block) es)

  pub under_append : (ds es : List Entry) → records_under (ds ++ es) ≡ records_under ds ++ records_under es
  under_append ds es =
      ap (records_in t g) (map-append (λ (e : Entry). e.block) ds es)
      ∙ records_append t g (map (λ (e : Entry). e.block) ds) (map (λ (e : Entry). e.block) es)

  module _ (n : ℕ) where
    -- a level 1 entry as it is to be: it names a block of the table with a good count that holds records, and has its
    -- first key
    pub record Leaf (e : Entry) : Type 0 where
      pub here : has_block g e.block ≡ true
      pub others : ℕ
      pub counted : count_in t g e.block ≡ Some (suc others)
      pub first_key : e.key ≡ key_at t g n (record { block = e.block; place = 0 })

    -- what the level 1 entries are to be has all records: blocks without any add none
    pub under_first : (bs : List ℕ) → records_under (first_keys t g n bs) ≡ records_in t g bs
    unfolding records_in first_keys places_from
    under_first [] = refl
    under_first (b ∷ bs) = go (held (count_in t g b)) refl (under_first bs)
      where
        go : (m : ℕ) → held (count_in t g b) ≡ m → records_under (first_keys t g n bs) ≡ records_in t g bs
            → records_under (cond (eqb m 0) (first_keys t g n bs) (first_entry t g n b ∷ first_keys t g n bs))
            ≡ places_from b 0 m ++ records_in t g bs
        go zero e ih = ih
        go (suc m) e ih = rw (eqb-suc-zero, e) (ap (λ (ps : List Position). places_from b 0 (suc m) ++ ps) ih)

    -- over a good chain each of them is so
    pub first_leaves : (b : ℕ) (bs : List ℕ) → GoodChain t g b bs → All Leaf (first_keys t g n bs)
    unfolding first_keys held
    first_leaves b [] c = tt
    first_leaves b (x ∷ bs) c =
        let w = (good_some t g b x bs c).1 in go w.count w.counted (block_there g x w.low w.high)
        (first_leaves (next_of t g x) bs w.onward)
      where
        go : (m : ℕ) → count_in t g x ≡ Some m → has_block g x ≡ true → All Leaf (first_keys t g n bs)
            → All Leaf (cond (eqb (held (count_in t g x)) 0) (first_keys t g n bs)
            (first_entry t g n x ∷ first_keys t g n bs))
        go zero e i ih = rw e ih
        go (suc m) e i ih = rw (e, eqb-suc-zero) (record { here = i; others = m; counted = e; first_key = refl }, ih)

    -- ---- the first record below an entry

    module _ (x : List ℕ) (gx : Shape) where
      -- where an entry fits, and its level 1 entries are as they are to be, the first record below it has its key
      abbrev StartsAt : ℕ → Entry → Type 0
      StartsAt level e =
          fits x gx n level e.block ≡ true → key_right x gx n level e ≡ true → All Leaf (leaves x gx n level e)
          → Starts t g n (records_under (leaves x gx n level e)) e.key

      module _ (level b : ℕ) (ih : (e : Entry) → StartsAt level e) where
        -- the level 1 entries below the first i entries of index block b
        abbrev joins : ℕ → List Entry
        joins i = joined (under x gx n level b) i

        -- the first record below them has the key of entry 0
        starts_joined : (i : ℕ) → each (fitting x gx n level b) (suc i) ≡ true → All Leaf (joins (suc i)) →
            Starts t g n (records_under (joins (suc i))) (entry_key x gx n b 0)
        unfolding joined
        starts_joined zero f h =
            let p = entry_fits x gx n level b 0 (each_last (fitting x gx n level b) 0 f).1 in ih (entry_at x gx n b 0)
            p.0 p.1 h
        starts_joined (suc i) f h =
            rw (under_append (joins (suc i)) (under x gx n level b (suc i)))
            (starts_append t g n (records_under (joins (suc i))) (records_under (under x gx n level b (suc i)))
            (entry_key x gx n b 0)
            (starts_joined i (each_last (fitting x gx n level b) (suc i) f).0
            (all_append Leaf (joins (suc i)) (under x gx n level b (suc i)) h).0))

      -- so it is at every level
      pub leaves_start : (level : ℕ) (e : Entry) → StartsAt level e
      unfolding leaves records_in places_from held
      leaves_start zero e f r h =
          let w = h.0 in record {
            first = record { block = e.block; place = 0 };
            rest = places_from e.block 1
                w.others ++ [];
            split = rw w.counted;
            key = sym w.first_key;
          }
      leaves_start (suc level) e f r h =
          let p = block_fits x gx n level e.block f in go (entries_in x gx e.block) (leaves_start level) p.0
          p.1 h
        where
          go : (m : ℕ) → ((d : Entry) → StartsAt level d) → eqb m 0 ≡ false →
              each (fitting x gx n level e.block) m ≡ true
              → All Leaf (joined (under x gx n level e.block) m)
              → Starts t g n (records_under (joined (under x gx n level e.block) m)) e.key
          go zero ih z s a = absurd (false≢true (sym z))
          go (suc m) ih z s a = rw (key_gives x gx n (suc level) e r) (starts_joined level e.block ih m s a)
