-- What checking a pair answers, one law for each outcome, what an accepted pair keeps, and a key looked up. Assumes
-- nothing.
use Prim.Native.Nat.{ℕ, ◌≤◌}
use mathlib.Core.Path.{◌≡◌, ◌∙◌, refl}
use mathlib.Core.Bool.{true, false}
use mathlib.Core.List.{List}
use native.Mathlib.Omega.{arith}
use lib.Dec.{leb}
use lib.ListN.{length}
use borrow.Author.Tests.{le-leb, lt-leb, leb-true}
use Rattle.std.specs.Prelude.{Ok, Err}
use Rattle.words.proofs.Cases.{apart}
use Rattle.header.specs.Refusals.{Verdict, kept, first_broken}
use Rattle.header.specs.declared.refusal.Refusal.{Refusal}
use Rattle.header.specs.declared.refusal.Refusal.TheVariants.{BadArgument, IndexTree}
use Rattle.header.specs.Numbers.{numbers_of}
use Rattle.header.specs.Answers.{unless_refused}
use Rattle.header.specs.declared.Header.{Header}
use Rattle.header.proofs.VerdictLaws.{unless_kept, unless_refused_lem, unless_zero, kept_of}
use Rattle.table.specs.Table.{table_answer, table_first}
use Rattle.table.proofs.CheckLaws.{table_kept, table_refused}
use Rattle.index.specs.Header.{index_answer, index_numbers, index_of}
use Rattle.index.specs.Walk.{walk_of}
use Rattle.index.specs.declared.IndexHeader.{IndexHeader}
use Rattle.pair.specs.Pair.{tree_fits, tree_answer, keyed_answer, pair_answer, look_up_of}

module _ (t x : List ℕ) (room : ℕ) where
  -- the table's header, and the index's numbers
  abbrev h : Header
  h = numbers_of t

  abbrev i : IndexHeader
  i = index_numbers x

  -- ---- each law takes the rules before it as kept

  -- the table check's refusal
  pub pair_table : (r : Refusal) → table_answer t room ≡ Err r → pair_answer t x room ≡ Err r
  unfolding pair_answer
  pair_table r e = table_refused t room Err (keyed_answer t h x) e

  module _ (accepted : table_answer t room ≡ kept) where
    behind : pair_answer t x room ≡ keyed_answer t h x
    unfolding pair_answer
    behind = table_kept t room Err (keyed_answer t h x) accepted

    -- 13
    pub pair_unkeyed : h.key_fields ≡ 0 → pair_answer t x room ≡ Err BadArgument
    unfolding keyed_answer
    pair_unkeyed z = behind ∙ rw (lt-leb 1 h.key_fields (omega arith))

    module _ (keyed : 1 ≤ h.key_fields) where
      in_tree : pair_answer t x room ≡ tree_answer t h x (index_of x h.key_length)
      unfolding keyed_answer
      in_tree = behind ∙ rw (le-leb 1 h.key_fields keyed)

      -- 21 to 26
      pub pair_index : (r : Refusal) → index_of x h.key_length ≡ Err r → pair_answer t x room ≡ Err r
      unfolding tree_answer
      pair_index r e = in_tree ∙ rw e

      module _ (j : IndexHeader) (indexed : index_of x h.key_length ≡ Ok j) where
        by_tree : pair_answer t x room ≡ first_broken (tree_fits t h x j) IndexTree kept
        unfolding tree_answer
        by_tree = in_tree ∙ rw indexed

        -- 27
        pub pair_unfit : tree_fits t h x j ≡ false → pair_answer t x room ≡ Err IndexTree
        pair_unfit f = by_tree ∙ rw f

        -- accepted
        pub pair_fits : tree_fits t h x j ≡ true → pair_answer t x room ≡ kept
        pair_fits f = by_tree ∙ rw f

  -- ---- an accepted pair keeps them all

  -- 21 to 26 and 27
  tree_parts : tree_answer t h x (index_of x h.key_length) ≡ kept →
      (index_of x h.key_length ≡ Ok i) × (tree_fits t h x i ≡ true)
  unfolding tree_answer index_of unless_refused
  tree_parts e = go (index_answer x h.key_length) e
    where
      go : (v : Verdict) → tree_answer t h x (unless_refused v Err (Ok i)) ≡ kept →
          (unless_refused v Err (Ok i) ≡ Ok i) × (tree_fits t h x i ≡ true)
      go (Ok none) f = (refl, (kept_of (tree_fits t h x i) IndexTree kept f).0)
      go (Err r) f = apart cc

  pub pair_parts : pair_answer t x room ≡ kept →
      (table_answer t room ≡ kept) × (1 ≤ h.key_fields) × (index_of x h.key_length ≡ Ok i) × (tree_fits t h x i ≡ true)
  unfolding pair_answer table_first keyed_answer
  pair_parts e =
      let table = unless_zero (table_answer t room) (keyed_answer t h x) e in
      let keyed = kept_of (leb 1 h.key_fields) BadArgument (tree_answer t h x (index_of x h.key_length)) table.1 in
      let tree = tree_parts keyed.1 in
      (table.0, leb-true 1 h.key_fields keyed.0, tree.0, tree.1)

-- ---- a key looked up

module _ (t x key m : List ℕ) where
  abbrev pair : Verdict
  pair = pair_answer t x (length m)

  -- in a pair that is refused
  pub looked_up_refused : (r : Refusal) → pair ≡ Err r → look_up_of t x key m ≡ Err r
  unfolding look_up_of
  looked_up_refused r e = unless_refused_lem pair Err (walk_of t x key) e

  -- in one that is accepted
  pub looked_up_walked : pair ≡ kept → look_up_of t x key m ≡ walk_of t x key
  unfolding look_up_of
  looked_up_walked e = unless_kept pair Err (walk_of t x key) e
