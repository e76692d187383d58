-- What walking answers, one law for each case. Assumes nothing.
use Rattle.std.specs.Prelude.{Option, Some, None, Result, Ok, Err}
use Prim.Native.Nat.{ℕ, zero, suc, ◌+◌, ◌-◌, ◌<◌}
use mathlib.Core.Path.{◌≡◌, refl, ap, ◌∙◌}
use mathlib.Core.Bool.{Bool, true, false}
use mathlib.Core.List.{List}
use lib.ListN.{length}
use native.Mathlib.Nat.{not-suc-le-zero}
use native.Mathlib.Omega.{arith}
use lib.Dec.{eqb}
use borrow.Author.Tests.{eq-eqb, ne_eqb, eqb-true, eqb-false}
use Rattle.header.specs.declared.refusal.Refusal.{Refusal}
use Rattle.header.specs.declared.refusal.Refusal.TheVariants.{ChainRule, WrongCount, BadArgument, IndexTree}
use Rattle.header.specs.Numbers.{numbers_of}
use Rattle.header.specs.Answers.{header_answer}
use Rattle.header.specs.Rules.{Accepted}
use Rattle.header.specs.declared.Header.{Header}
use Rattle.header.proofs.AcceptedLaws.{first_kept, first_refused}
use Rattle.blocks.specs.Shape.{shape_of, has_block}
use Rattle.blocks.specs.Counts.{count_in}
use Rattle.blocks.specs.declared.Shape.{Shape}
use Rattle.table.specs.Records.{places_from}
use Rattle.lookup.specs.Sought.{key_fits, first_with}
use Rattle.lookup.proofs.KeyLaws.{fits_gives}
use Rattle.index.specs.Header.{index_of}
use Rattle.index.specs.Entries.{entries_in, below}
use Rattle.index.specs.Steps.{Walkable, descent_of}
use Rattle.index.specs.Walk.{found_after, by_count, in_data, onward, walk_from, from_root, walk_tree}
use Rattle.index.specs.Walk.{walk_index, walk_key, walk_of, walked_numbers, walk_numbers}
use Rattle.index.specs.declared.IndexHeader.{IndexHeader}
use Rattle.index.specs.declared.walking.Walked.{Walked}
use Rattle.index.proofs.AcceptedLaws.{accepted_index}
use Rattle.index.proofs.EntryLaws.{descent_refused, descent_read}

-- ---- in the data block

module _ (t : List ℕ) (g : Shape) (key : List ℕ) (b reads : ℕ) where
  pub data_outside : has_block g b ≡ false → in_data t g key b reads ≡ Err ChainRule
  unfolding in_data
  data_outside e = rw e

  module _ (e : has_block g b ≡ true) where
    pub data_bad : count_in t g b ≡ None → in_data t g key b reads ≡ Err WrongCount
    unfolding in_data by_count
    data_bad f = rw (e, f)

    pub data_found : (n : ℕ) → count_in t g b ≡ Some n →
        in_data t g key b reads ≡ found_after reads (first_with t g key (places_from b 0 n))
    unfolding in_data by_count
    data_found n f = rw (e, f)

-- ---- down the tree

module _ (t : List ℕ) (g : Shape) (x : List ℕ) (gx : Shape) (key : List ℕ) (b reads : ℕ) where
  -- from the block that an index block names, or absent where it names none
  abbrev down_from : ℕ → Option ℕ → Result Walked Refusal
  down_from level d =
      onward d (found_after (reads + 1) None) (λ (next : ℕ). walk_from t g x gx key (level - 1) next (reads + 1))

  -- a level of index blocks: what the block answers to the key
  walk_level : (level : ℕ) → 0 < level → (entries_in x gx b ≡ 0 → ⊥) →
      walk_from t g x gx key level b reads ≡ down_from level (below x gx key b (entries_in x gx b))
  unfolding walk_from
  walk_level zero l ne = absurd (not-suc-le-zero l)
  walk_level (suc level) l ne = let e : suc level - 1 ≡ level = omega arith in rw (ne_eqb (entries_in x gx b) 0 ne, e)

  walk_empty : (level : ℕ) → 0 < level → entries_in x gx b ≡ 0 →
      walk_from t g x gx key level b reads ≡ Err IndexTree
  unfolding walk_from
  walk_empty zero l e = absurd (not-suc-le-zero l)
  walk_empty (suc level) l e = rw (eq-eqb (entries_in x gx b) 0 e)

  module _ (level : ℕ) (l : 0 < level) where
    -- an index block that was refused
    pub walk_refused : {r : Refusal} → descent_of x gx key b ≡ Err r → walk_from t g x gx key level b reads ≡ Err r
    walk_refused {r} d = go (eqb (entries_in x gx b) 0) refl
      where
        go : (c : Bool) → eqb (entries_in x gx b) 0 ≡ c → walk_from t g x gx key level b reads ≡ Err r
        go true e =
            let none = eqb-true (entries_in x gx b) 0 e in
            let f = descent_refused x gx b key none in
            let same : IndexTree ≡ r = cc in
            walk_empty level l none ∙ ap (λ (s : Refusal). Err s) same
        go false e =
            let f = descent_read x gx b key (eqb-false (entries_in x gx b) 0 e) in cc

    -- an index block that was read
    read_on : (d : Option ℕ) → descent_of x gx key b ≡ Ok d → walk_from t g x gx key level b reads ≡ down_from level d
    read_on d e = go (eqb (entries_in x gx b) 0) refl
      where
        Goal : Type 0
        Goal = walk_from t g x gx key level b reads ≡ down_from level d

        go : (c : Bool) → eqb (entries_in x gx b) 0 ≡ c → Goal
        go true f =
            let r = descent_refused x gx b key (eqb-true (entries_in x gx b) 0 f) in let z : ◌≡◌ {A = ℕ} 0
            1 = cc in absurd (omega arith)
        go false f =
            let ne = eqb-false (entries_in x gx b) 0 f in
            let r = descent_read x gx b key ne in
            let same : below x gx key b (entries_in x gx b) ≡ d = cc in
            walk_level level l ne ∙ rw same

    pub walk_absent : descent_of x gx key b ≡ Ok None →
        walk_from t g x gx key level b reads ≡ found_after (reads + 1) None
    unfolding onward
    walk_absent e = read_on None e

    pub walk_down : (next : ℕ) → descent_of x gx key b ≡ Ok (Some next) →
        walk_from t g x gx key level b reads ≡ walk_from t g x gx key (level - 1) next (reads + 1)
    unfolding onward
    walk_down next e = read_on (Some next) e

  -- no level is left
  pub walk_end : (levels : ℕ) → levels ≡ reads →
      walk_from t g x gx key (levels - reads) b reads ≡ in_data t g key b levels
  unfolding walk_from
  walk_end levels l = let e : levels - reads ≡ 0 = omega arith in rw (e, l)

-- ---- the whole

module _ (t x key : List ℕ) where
  -- an answer has the numbers of the definition's
  pub walks : (r : Result Walked Refusal) → r ≡ walk_of t x key →
      (r ≡ walk_of t x key) × (walked_numbers r ≡ walk_numbers t x key)
  unfolding walk_numbers
  walks r e = (e, ap walked_numbers e)

  abbrev h : Header
  h = numbers_of t

  -- behind 1 to 7: 13
  pub key_unfit : key_fits h key ≡ false → walk_key t h x key ≡ Err BadArgument
  unfolding walk_key
  key_unfit f = rw f

  module _ (f : key_fits h key ≡ true) where
    -- 21 to 26
    pub index_refused : (r : Refusal) → index_of x h.key_length ≡ Err r → walk_key t h x key ≡ Err r
    unfolding walk_key walk_index
    index_refused r e = rw (f, e)

    module _ (i : IndexHeader) (k : index_of x h.key_length ≡ Ok i) where
      pub walk_tree_lem : walk_key t h x key ≡ walk_tree t (shape_of h) x i key
      unfolding walk_key walk_index
      walk_tree_lem = rw (f, k)

      pub walk_rootless : i.root ≡ 0 → walk_key t h x key ≡ found_after 0 None
      unfolding walk_tree
      walk_rootless z = walk_tree_lem ∙ rw (eq-eqb i.root 0 z)

      pub walk_rooted : (i.root ≡ 0 → ⊥) → walk_key t h x key ≡ from_root t (shape_of h) x i key
      unfolding walk_tree
      walk_rooted ne = walk_tree_lem ∙ rw (ne_eqb i.root 0 ne)

      -- what the walk from the root asks
      pub walkable : Accepted t h → Walkable (shape_of h) i.shape (length key)
      unfolding shape_of
      walkable head =
          let own = accepted_index x h.key_length i k in
          let long = (fits_gives h key f).1 in
          record { short = omega (arith, long, head.key_most); size = own.entry_size ∙ rw long }

  -- where the table's header was read as r
  module _ (r : Result Header Refusal) (read : r ≡ header_answer t) where
    pub walk_refused_first : {s : Refusal} → r ≡ Err s → walk_of t x key ≡ Err s
    unfolding walk_of
    walk_refused_first e = first_refused t r read Err (walk_key t h x key) e

    pub walk_behind : {a : Header} → r ≡ Ok a → walk_of t x key ≡ walk_key t h x key
    unfolding walk_of
    walk_behind e = first_kept t r read Err (walk_key t h x key) e
