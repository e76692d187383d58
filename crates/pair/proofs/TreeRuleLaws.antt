-- Rule 27 as a test is rule 27 as a proposition: a tree passes exactly when `TreeRules` holds. Assumes nothing.
use Prim.Native.Nat.{ℕ, zero, suc, ◌≤◌, ◌<◌}
use mathlib.Core.Path.{◌≡◌, refl, sym, ap₂, ◌∙◌}
use mathlib.Core.Bool.{Bool, true, false, cond, not}
use mathlib.Core.List.{List, [], ◌∷◌, ◌++◌}
use native.Mathlib.Nat.{not-suc-le-zero, pos_of_ne-zero}
use native.Mathlib.Omega.{arith}
use lib.Dec.{eqb, eqb-suc-zero}
use lib.ListN.{length, length-append}
use borrow.Author.Tests.{eq-eqb, ne_eqb, eqb-true, eqb-false}
use Rattle.words.proofs.Conjunctions.{both, join}
use Rattle.words.proofs.EachLaws.{each_gives, each_takes}
use Rattle.header.specs.declared.Header.{Header}
use Rattle.blocks.specs.Shape.{shape_of}
use Rattle.blocks.specs.Counts.{count_in}
use Rattle.blocks.specs.declared.Shape.{Shape}
use Rattle.chain.specs.Links.{used_of}
use Rattle.table.specs.Records.{held, records_of}
use Rattle.table.specs.Counts.{sum}
use Rattle.table.proofs.RecordLaws.{records_total}
use Rattle.table.proofs.HeldLaws.{counts_of, sum_counts}
use Rattle.index.specs.Entries.{entries_in, entry_block}
use Rattle.index.specs.declared.IndexHeader.{IndexHeader}
use Rattle.index.proofs.EntryLaws.{entries_held, entries_are}
use Rattle.pair.specs.Tree.{Entry, entry_at, fits, joined, leaves, root_entry, tree_leaves, first_entry, first_keys}
use Rattle.pair.specs.Tree.{same_entries}
use Rattle.pair.specs.Pair.{empty_fits, root_fits, tree_fits}
use Rattle.pair.specs.Rules.{KeyRight, GoodBlock, Fits, Leaves, itself, below, first_entries, RootedTree}
use Rattle.pair.specs.Rules.{TreeRules}
use Rattle.pair.proofs.FitLaws.{entries_gives, entries_takes, key_gives, key_takes, fitting, under, entry_fits}
use Rattle.pair.proofs.FitLaws.{block_fits}

-- lists that are not empty, one after another, are not
joined_some : (list : ℕ → List Entry) (m : ℕ) → 1 ≤ m → ((i : ℕ) → i < m → 1 ≤ length (list i)) →
    1 ≤ length (joined list m)
unfolding joined
joined_some list zero l h = absurd (not-suc-le-zero l)
joined_some list (suc i) l h = omega (arith, length-append (joined list i) (list i), h i (omega arith))

-- lists that are the same, one after another, are the same
joined_same : (us vs : ℕ → List Entry) (m : ℕ) → ((i : ℕ) → i < m → us i ≡ vs i) → joined us m ≡ joined vs m
unfolding joined
joined_same us vs zero h = refl
joined_same us vs (suc i) h = ap₂ ◌++◌ (joined_same us vs i (λ k l. h k (omega arith))) (h i (omega arith))

-- ---- blocks and entries that fit

module _ (x : List ℕ) (g : Shape) (n : ℕ) (sized : 1 ≤ g.record_size) where
  -- a block that fits has as many entries as it holds
  good_counted : (b : ℕ) (Rule : Entry → Type 0) (r : GoodBlock x g n b Rule) → entries_in x g b ≡ r.count
  good_counted b Rule r = entries_are x g b sized r.count r.held

  -- what each entry of a block keeps that fits one level above
  abbrev Fitting : ℕ → Entry → Type 0
  Fitting level e = Fits x g n level e.block × KeyRight x g n level e

  -- a block fits: entry by entry
  fits_gives : (level b : ℕ) → fits x g n level b ≡ true → Fits x g n level b
  fits_gives zero b f = tt
  fits_gives (suc level) b f =
      let p = block_fits x g n level b f in
      let some = pos_of_ne-zero (eqb-false (entries_in x g b) 0 p.0) in
      record {
        count = entries_in x g b;
        held = entries_held x g b some;
        some = some;
        each_entry = λ i l.
            let q = entry_fits x g n level b i (each_gives (fitting x g n level b) (entries_in x g b) p.1 i l) in
            (fits_gives level (entry_block x g n b i) q.0, key_gives x g n level (entry_at x g n b i) q.1);
      }

  fits_takes : (level b : ℕ) → Fits x g n level b → fits x g n level b ≡ true
  unfolding fits
  fits_takes zero b r = refl
  fits_takes (suc level) b r =
      let some : not (eqb r.count 0) ≡ true = rw (ne_eqb r.count 0 (λ z. absurd (omega (arith, r.some)))) in
      rw (good_counted b (Fitting level) r)
      (join some
      (each_takes (fitting x g n level b) r.count
      (λ i l. let q = r.each_entry i l in join (fits_takes level (entry_block x g n b i) q.0)
      (key_takes x g n level (entry_at x g n b i) q.1))))

  -- ---- the level 1 entries

  -- an entry whose block fits leads to them
  leaves_give : (level : ℕ) (e : Entry) → Fits x g n level e.block → Leaves x g n level e (leaves x g n level e)
  unfolding leaves
  leaves_give zero e r = itself
  leaves_give (suc level) e r =
      rw (good_counted e.block (Fitting level) r)
      (below (under x g n level e.block) r.held
      (λ i l. leaves_give level (entry_at x g n e.block i) (r.each_entry i l).0))

  -- and to no others
  leaves_take : (level : ℕ) (e : Entry) (es : List Entry) → Fits x g n level e.block → Leaves x g n level e es →
      es ≡ leaves x g n level e
  unfolding leaves
  leaves_take zero e es r itself = refl
  leaves_take (suc level) e es r (below {count = count} lists holding each) =
      let same : entries_in x g e.block ≡ count = entries_are x g e.block sized count holding in
      let all : count ≡ r.count = sym same ∙ good_counted e.block (Fitting level) r in
      rw same
      (joined_same lists (under x g n level e.block) count
      (λ i l. leaves_take level (entry_at x g n e.block i) (lists i) (r.each_entry i (omega arith)).0 (each i l)))

  -- there is one at least
  leaves_some : (level : ℕ) (e : Entry) → Fits x g n level e.block → 1 ≤ length (leaves x g n level e)
  unfolding leaves
  leaves_some zero e r = omega arith
  leaves_some (suc level) e r =
      rw (good_counted e.block (Fitting level) r)
      (joined_some (under x g n level e.block) r.count r.some
      (λ i l. leaves_some level (entry_at x g n e.block i) (r.each_entry i l).0))

-- ---- what they are to be

module _ (t : List ℕ) (g : Shape) (n : ℕ) where
  -- by the blocks' counts
  entries_counts : (bs : List ℕ) → first_entries t g n bs (counts_of t g bs) ≡ first_keys t g n bs
  unfolding first_entries first_keys
  entries_counts [] = refl
  entries_counts (b ∷ bs) = go (held (count_in t g b)) (entries_counts bs)
    where
      go : (m : ℕ) → first_entries t g n bs (counts_of t g bs) ≡ first_keys t g n bs →
          first_entries t g n (b ∷ bs) (m ∷ counts_of t g bs)
          ≡ cond (eqb m 0) (first_keys t g n bs) (first_entry t g n b ∷ first_keys t g n bs)
      go zero ih = ih
      go (suc m) ih = rw (eqb-suc-zero, ih)

  -- blocks without records have no first keys
  entries_none : (bs counts : List ℕ) → sum counts ≡ 0 → first_entries t g n bs counts ≡ []
  unfolding sum first_entries
  entries_none [] counts e = refl
  entries_none (b ∷ bs) [] e = refl
  entries_none (b ∷ bs) (zero ∷ counts) e = entries_none bs counts (omega arith)
  entries_none (b ∷ bs) (suc m ∷ counts) e = absurd (omega arith)

-- ---- the tree

module _ (t : List ℕ) (h : Header) (x : List ℕ) (i : IndexHeader) (sized : 1 ≤ i.shape.record_size) where
  abbrev used : List ℕ
  used = used_of t h

  abbrev counts : List ℕ
  counts = counts_of t (shape_of h) used

  abbrev found : List Entry
  found = tree_leaves x i.shape h.key_length i.levels i.root

  abbrev wanted : List Entry
  wanted = first_keys t (shape_of h) h.key_length used

  same_wanted : first_entries t (shape_of h) h.key_length used counts ≡ wanted
  same_wanted = entries_counts t (shape_of h) h.key_length used

  -- a root that is not 0
  root_gives : root_fits t h x i ≡ true → RootedTree t h used counts x i
  unfolding root_fits
  root_gives e =
      let p = both {a = fits x i.shape h.key_length i.levels i.root} {b = same_entries found wanted} e in
      let f = fits_gives x i.shape h.key_length sized i.levels i.root p.0 in
      let same : found ≡ wanted = entries_gives found wanted p.1 in
      record {
        fitting = f;
        leaves_right =
            rw (same_wanted, ← same)
            (leaves_give x i.shape h.key_length sized i.levels (root_entry i.root) f);
      }

  -- the level 1 entries of its rules are those that are read
  leaves_found : RootedTree t h used counts x i → found ≡ first_entries t (shape_of h) h.key_length used counts
  leaves_found r =
      sym (leaves_take x i.shape h.key_length sized i.levels (root_entry i.root)
      (first_entries t (shape_of h) h.key_length used counts) r.fitting r.leaves_right)

  root_takes : RootedTree t h used counts x i → root_fits t h x i ≡ true
  unfolding root_fits
  root_takes r =
      join (fits_takes x i.shape h.key_length sized i.levels i.root r.fitting)
      (entries_takes found wanted (leaves_found r ∙ same_wanted))

  -- a tree below a root that is not 0 has level 1 entries, and so the table has records
  records_some : RootedTree t h used counts x i → sum counts ≡ 0 → ⊥
  records_some r e =
      let some : 1 ≤ length found = leaves_some x i.shape h.key_length sized i.levels
      (root_entry i.root) r.fitting in
      let none : found ≡ [] =
      leaves_found r ∙ entries_none t (shape_of h) h.key_length used counts e in
      not-suc-le-zero (rw none at some)

  -- as many records as the counts add up to
  records_sum : length (records_of t h) ≡ sum counts
  records_sum = records_total t (shape_of h) used ∙ sym (sum_counts t (shape_of h) used)

  -- any root: 0 exactly when there are no records
  pub tree_gives : tree_fits t h x i ≡ true → TreeRules t h used counts x i
  unfolding tree_fits empty_fits
  tree_gives e = go (eqb i.root 0) refl e
    where
      go : (b : Bool) → eqb i.root 0 ≡ b → cond b (empty_fits t h) (root_fits t h x i) ≡ true →
          TreeRules t h used counts x i
      go true f k =
          let z = eqb-true i.root 0 f in
          record {
            empty = λ _. sym records_sum ∙ eqb-true (length (records_of t h)) 0 k;
            no_records = λ _. z;
            rooted = λ ne. absurd (ne z);
          }
      go false f k =
          let ne = eqb-false i.root 0 f in
          let r = root_gives k in
          record { empty = λ z. absurd (ne z); no_records = λ none. absurd (records_some r none); rooted = λ _. r }

  pub tree_takes : TreeRules t h used counts x i → tree_fits t h x i ≡ true
  unfolding tree_fits empty_fits
  tree_takes r = go (eqb i.root 0) refl
    where
      go : (b : Bool) → eqb i.root 0 ≡ b → cond b (empty_fits t h) (root_fits t h x i) ≡ true
      go true f = eq-eqb (length (records_of t h)) 0 (records_sum ∙ r.empty (eqb-true i.root 0 f))
      go false f = root_takes (r.rooted (eqb-false i.root 0 f))
