-- Going down a tree, an entry at a time: where the used chain is after a part of it, and that going to the end is the
-- rule of the tree. Assumes nothing.
use Prim.Native.Nat.{ℕ, zero, suc, ◌+◌, ◌-◌, ◌≤◌, ◌<◌}
use mathlib.Core.Path.{◌≡◌, refl, sym, ap, ◌∙◌}
use mathlib.Core.Bool.{Bool, true, false, cond, not, ◌&&◌}
use mathlib.Core.List.{List, [], ◌∷◌, ◌++◌}
use native.Mathlib.Nat.{not-suc-le-zero}
use native.Mathlib.Numerals.{add-one}
use native.Mathlib.Omega.{arith}
use lib.Dec.{eqb}
use borrow.Author.Tests.{eq-eqb, ne_eqb, eqb-true, eqb-false}
use Rattle.std.specs.Prelude.{Option, Some, None}
use Rattle.words.specs.Each.{each}
use Rattle.words.specs.Order.{is_same, order, range}
use Rattle.std.specs.declared.cmp.Ordering.{Ordering}
use Rattle.words.proofs.Cases.{apart, cond_same}
use Rattle.blocks.specs.Shape.{record_at}
use Rattle.blocks.specs.declared.Shape.{Shape}
use Rattle.chain.specs.Links.{next_of, blocks_from}
use Rattle.chain.specs.Rules.{GoodFrom}
use Rattle.index.specs.Entries.{entries_in, entry_key, entry_block}
use Rattle.pair.specs.Tree.{Entry, entry_at, key_right, fits, joined, leaves, tree_leaves, first_entry, first_keys}
use Rattle.pair.specs.Tree.{same_entries}
use Rattle.pair.specs.Steps.{holding_from, is_expected, follow, leaf_from, entry_from, block_from, Shapes}
use Rattle.pair.proofs.FitLaws.{fitting, under}
use Rattle.pair.proofs.HoldingLaws.{keys_ended, keys_next}

-- one part of a tree after another
abbrev pub and_then : Option ℕ → (ℕ → Option ℕ) → Option ℕ
and_then (Some c) f = f c
and_then None f = None

module _ (t : List ℕ) (g : Shape) (n : ℕ) where
  -- ---- level 1 entries against the chain

  follow_append : (us vs : List Entry) (c : ℕ) →
      follow t g n (us ++ vs) c ≡ and_then (follow t g n us c) (follow t g n vs)
  unfolding follow
  follow_append [] vs c = refl
  follow_append (e ∷ us) vs c = go (is_expected t g n e c) (follow_append us vs (next_of t g (holding_from t g c)))
    where
      go : (p : Bool) → let d =
          next_of t g (holding_from t g c) in follow t g n (us ++ vs) d ≡ and_then (follow t g n us d) (follow t g n vs)
          → cond p (follow t g n (us ++ vs) d) None ≡ and_then (cond p (follow t g n us d) None) (follow t g n vs)
      go true ih = ih
      go false ih = refl

  -- an entry where the chain is at number c, by the next block that holds records
  module _ (e : Entry) (c : ℕ) where
    pub unexpected_end : holding_from t g c ≡ 0 → is_expected t g n e c ≡ false
    unfolding is_expected
    unexpected_end z = rw z

    module _ (ne : holding_from t g c ≡ 0 → ⊥) where
      expected_by : is_expected t g n e c
          ≡ (eqb e.block (holding_from t g c) && is_same (order e.key (first_entry t g n (holding_from t g c)).key))
      unfolding is_expected
      expected_by = rw (ne_eqb (holding_from t g c) 0 ne)

      pub unexpected_block : (e.block ≡ holding_from t g c → ⊥) → is_expected t g n e c ≡ false
      unexpected_block other = expected_by ∙ rw (ne_eqb e.block (holding_from t g c) other)

      expected_key : e.block ≡ holding_from t g c →
          is_expected t g n e c ≡ is_same (order e.key (first_entry t g n (holding_from t g c)).key)
      expected_key same = expected_by ∙ rw (eq-eqb e.block (holding_from t g c) same)

      -- by a comparison with the first record of block b, which stands at an offset
      pub expected_tested : (b at : ℕ) (o : Ordering) (r : Bool) → b ≡ holding_from t g c → e.block ≡ b →
          at ≡ record_at g b 0 → o ≡ order e.key (range t at n) → r ≡ is_same o → is_expected t g n e c ≡ r
      expected_tested b at o r h k p q s = expected_key (k ∙ h) ∙ sym (s ∙ ap is_same q ∙ rw (p, h))

    -- one entry alone
    pub follow_one : is_expected t g n e c ≡ true → follow t g n (e ∷ []) c ≡ Some (next_of t g (holding_from t g c))
    unfolding follow
    follow_one x = rw x

    pub follow_none : is_expected t g n e c ≡ false → follow t g n (e ∷ []) c ≡ None
    unfolding follow
    follow_none x = rw x

  -- the chain stays good
  follow_good : (us : List Entry) (c d : ℕ) → GoodFrom t g c → follow t g n us c ≡ Some d → GoodFrom t g d
  unfolding follow
  follow_good [] c d good e = let z : c ≡ d = cc in rw (← z) good
  follow_good (u ∷ us) c d good e =
      go (eqb (holding_from t g c) 0) refl (is_expected t g n u c) refl
      (follow_good us (next_of t g (holding_from t g c)) d)
    where
      go : (p : Bool) → eqb (holding_from t g c) 0 ≡ p → (q : Bool) → is_expected t g n u c ≡ q
          → (let b = next_of t g (holding_from t g c) in GoodFrom t g b → follow t g n us b ≡ Some d → GoodFrom t g d)
          → GoodFrom t g d
      go true z q x ih =
          let y = unexpected_end u c (eqb-true (holding_from t g c) 0 z) in
          let f : ◌≡◌ {A = Option ℕ} None (Some d) = rw y at e in apart cc
      go false z true x ih = ih (keys_next t g n c good (eqb-false (holding_from t g c) 0 z)).0.onward (rw x at e)
      go false z false x ih =
          let f : ◌≡◌ {A = Option ℕ} None (Some d) = rw x at e in apart cc

  -- no level 1 entry is to come any more
  abbrev pub is_end : Option ℕ → Bool
  is_end (Some c) = eqb (holding_from t g c) 0
  is_end None = false

  -- level 1 entries that follow the chain to its end are its first keys
  follow_ends : (us : List Entry) (c : ℕ) → GoodFrom t g c →
      is_end (follow t g n us c) ≡ same_entries us (first_keys t g n (blocks_from t g c))
  unfolding follow same_entries
  follow_ends [] c good = go (eqb (holding_from t g c) 0) refl
    where
      go : (p : Bool) → eqb (holding_from t g c) 0 ≡ p →
          eqb (holding_from t g c) 0 ≡ same_entries [] (first_keys t g n (blocks_from t g c))
      go true z = z ∙ rw (keys_ended t g n c good (eqb-true (holding_from t g c) 0 z))
      go false z = z ∙ rw (keys_next t g n c good (eqb-false (holding_from t g c) 0 z)).1
  follow_ends (u ∷ us) c good = go (eqb (holding_from t g c) 0) refl (follow_ends us)
    where
      by_test : (p q r : Bool) (f : Option ℕ) → is_end f ≡ r → is_end (cond (p && q) f None) ≡ (p && q && r)
      by_test true true r f e = e
      by_test true false r f e = refl
      by_test false q r f e = refl

      go : (p : Bool) → eqb (holding_from t g c) 0 ≡ p →
          ((d : ℕ) → GoodFrom t g d →
          is_end (follow t g n us d) ≡ same_entries us (first_keys t g n (blocks_from t g d)))
          → is_end (cond (is_expected t g n u c) (follow t g n us (next_of t g (holding_from t g c))) None)
          ≡ same_entries (u ∷ us) (first_keys t g n (blocks_from t g c))
      go true z ih = let e = eqb-true (holding_from t g c) 0 z in rw (unexpected_end u c e, keys_ended t g n c good e)
      go false z ih =
          let ne = eqb-false (holding_from t g c) 0 z in
          let w = keys_next t g n c good ne in
          rw (expected_by u c ne, w.1)
          (by_test (eqb u.block (holding_from t g c))
          (is_same (order u.key (first_entry t g n (holding_from t g c)).key))
          (same_entries us (first_keys t g n (blocks_from t g (next_of t g (holding_from t g c)))))
          (follow t g n us (next_of t g (holding_from t g c))) (ih (next_of t g (holding_from t g c)) w.0.onward))

-- ---- down the tree

module _ (t x : List ℕ) (s : Shapes) where
  abbrev g : Shape
  g = s.table

  abbrev gx : Shape
  gx = s.index

  abbrev n : ℕ
  n = s.key_length

  -- the first i entries of index block b, whose blocks are at a level
  abbrev pub up_to : ℕ → ℕ → ℕ → ℕ → Option ℕ
  up_to level b i c = cond (each (fitting x gx n level b) i) (follow t g n (joined (under x gx n level b) i) c) None

  pub up_to_none : (level b c : ℕ) → up_to level b 0 c ≡ Some c
  unfolding each joined follow
  up_to_none level b c = refl

  pub up_to_suc : (level b i c : ℕ) →
      up_to level b (suc i) c ≡ and_then (up_to level b i c) (entry_from t x s level (entry_at x gx n b i))
  unfolding each joined entry_from
  up_to_suc level b i c =
      go (each (fitting x gx n level b) i) (fitting x gx n level b i) (joined (under x gx n level b) i)
      (under x gx n level b i)
    where
      unfit : (f : Option ℕ) → None ≡ and_then f (λ (d : ℕ). None)
      unfit (Some d) = refl
      unfit None = refl

      go : (p q : Bool) (us vs : List Entry) →
          cond (p && q) (follow t g n (us ++ vs) c) None
          ≡ and_then (cond p (follow t g n us c) None) (λ (d : ℕ). cond q (follow t g n vs d) None)
      go true true us vs = follow_append t g n us vs c
      go true false us vs = unfit (follow t g n us c)
      go false q us vs = refl

  -- once some entries do not fit, they and more do not
  pub up_to_stays : (level b i c : ℕ) → up_to level b i c ≡ None → (d : ℕ) → up_to level b (i + d) c ≡ None
  up_to_stays level b i c h zero = let e : i + 0 ≡ i = omega arith in rw e h
  up_to_stays level b i c h (suc d) =
      let e : i + suc d ≡ suc (i + d) = omega arith in
      rw e (up_to_suc level b (i + d) c
      ∙ ap (λ (f : Option ℕ). and_then f (entry_from t x s level (entry_at x gx n b (i + d))))
      (up_to_stays level b i c h d))

  -- the chain stays good
  pub up_to_good : (level b i c d : ℕ) → GoodFrom t g c → up_to level b i c ≡ Some d → GoodFrom t g d
  up_to_good level b i c d good e = go (each (fitting x gx n level b) i) e
    where
      go : (p : Bool) → cond p (follow t g n (joined (under x gx n level b) i) c) None ≡ Some d → GoodFrom t g d
      go true f = follow_good t g n (joined (under x gx n level b) i) c d good f
      go false f = apart cc

  -- ---- an index block, at a level of 1 or more

  block_by : (level b c : ℕ) → 1 ≤ level →
      block_from t x s level b c ≡ cond (eqb (entries_in x gx b) 0) None (up_to (level - 1) b (entries_in x gx b) c)
  unfolding block_from fits leaves
  block_by zero b c l = absurd (not-suc-le-zero l)
  block_by (suc level) b c l =
      let e : suc level - 1 ≡ level = omega arith in
      rw e (go (eqb (entries_in x gx b) 0) (each (fitting x gx n level b) (entries_in x gx b))
      (follow t g n (joined (under x gx n level b) (entries_in x gx b)) c))
    where
      go : (p q : Bool) (f : Option ℕ) → cond (not p && q) f None ≡ cond p None (cond q f None)
      go true q f = refl
      go false q f = refl

  module _ (level b c m : ℕ) (l : 1 ≤ level) (e : m ≡ entries_in x gx b) where
    pub block_empty : m ≡ 0 → block_from t x s level b c ≡ None
    block_empty z = block_by level b c l ∙ rw (← e, z)

    pub block_done : (i d : ℕ) → (m ≡ 0 → ⊥) → i ≤ m → m ≤ i → up_to (level - 1) b i c ≡ Some d →
        block_from t x s level b c ≡ Some d
    block_done i d ne j k u = let q : i ≡ m = omega arith in block_by level b c l ∙ rw (← e, ne_eqb m 0 ne, ← q) u

    -- one entry more
    pub block_turn : (i d next : ℕ) → up_to (level - 1) b i c ≡ Some d →
        entry_from t x s (level - 1) (entry_at x gx n b i) d ≡ Some next → up_to (level - 1) b (i + 1) c ≡ Some next
    block_turn i d next u v = rw add-one (up_to_suc (level - 1) b i c ∙ rw u v)

    -- an entry that does not fit
    pub block_refused : (i d : ℕ) → (m ≡ 0 → ⊥) → i < m → up_to (level - 1) b i c ≡ Some d →
        entry_from t x s (level - 1) (entry_at x gx n b i) d ≡ None → block_from t x s level b c ≡ None
    block_refused i d ne j u v =
        let q : suc i + (m - suc i) ≡ m = omega arith in
        let w : up_to (level - 1) b (suc i) c ≡ None = up_to_suc (level - 1) b i c ∙ rw u v in
        block_by level b c l ∙ rw (← e, ne_eqb m 0 ne) (rw q at (up_to_stays (level - 1) b (suc i) c w (m - suc i)))

  -- a block that fits has an entry
  pub block_some : (level b c d : ℕ) → 1 ≤ level → block_from t x s level b c ≡ Some d → 0 < entries_in x gx b
  block_some level b c d l e = go (entries_in x gx b) (sym (block_by level b c l) ∙ e)
    where
      go : (m : ℕ) → cond (eqb m 0) None (up_to (level - 1) b m c) ≡ Some d → 0 < m
      go zero f = apart cc
      go (suc m) f = omega arith

  -- and all of them fit
  pub block_all : (level b c d : ℕ) → block_from t x s (suc level) b c ≡ Some d →
      up_to level b (entries_in x gx b) c ≡ Some d
  block_all level b c d e =
      let k : suc level - 1 ≡ level = omega arith in
      go (eqb (entries_in x gx b) 0) (sym (block_by (suc level) b c (omega arith)) ∙ e) k
    where
      go : (p : Bool) → cond p None (up_to (suc level - 1) b (entries_in x gx b) c) ≡ Some d → suc level - 1 ≡ level →
          up_to level b (entries_in x gx b) c ≡ Some d
      go true f k = apart cc
      go false f k = rw k at f

  -- ---- an entry

  -- an entry as the index has it, by where it stands and the block that it names
  pub entry_read : (b i c at m : ℕ) → at ≡ record_at gx b i → m ≡ entry_block x gx n b i →
      leaf_from t x s at m c ≡ follow t g n (entry_at x gx n b i ∷ []) c
  entry_read b i c at m e f = rw (e, f)

  -- at level 0 it is a level 1 entry itself
  pub entry_leaf : (level : ℕ) (e : Entry) (c : ℕ) → level ≡ 0 → entry_from t x s level e c ≡ follow t g n (e ∷ []) c
  unfolding entry_from fits key_right leaves
  entry_leaf level e c z = rw z

  -- above, its block is to fit and its key to be the first one there
  entry_by : (level : ℕ) (e : Entry) (c : ℕ) → 1 ≤ level
      → entry_from t x s level e c ≡ cond (is_same (order e.key (entry_key x gx n e.block 0)))
      (block_from t x s level e.block c) None
  unfolding entry_from block_from key_right leaves
  entry_by zero e c l = absurd (not-suc-le-zero l)
  entry_by (suc level) e c l =
      go (fits x gx n (suc level) e.block) (is_same (order e.key (entry_key x gx n e.block 0)))
      (follow t g n (joined (under x gx n level e.block) (entries_in x gx e.block)) c)
    where
      go : (p q : Bool) (f : Option ℕ) → cond (p && q) f None ≡ cond q (cond p f None) None
      go true true f = refl
      go true false f = refl
      go false true f = refl
      go false false f = refl

  -- its key by a comparison with that of the first entry in block m, which stands at an offset, as it does itself
  pub key_tested : (b i at m first : ℕ) (o : Ordering) (r : Bool) → at ≡ record_at gx b i → m ≡ entry_block x gx n b i →
      first ≡ record_at gx m 0 → o ≡ order (range x at n) (range x first n) → r ≡ is_same o →
      is_same (order (entry_key x gx n b i) (entry_key x gx n (entry_block x gx n b i) 0)) ≡ r
  key_tested b i at m first o r p q k e s = sym (s ∙ ap is_same e ∙ rw (k, p, q))

  module _ (level : ℕ) (e : Entry) (c : ℕ) (l : 1 ≤ level) where
    pub entry_unfit : block_from t x s level e.block c ≡ None → entry_from t x s level e c ≡ None
    entry_unfit u =
        entry_by level e c l ∙ rw u (cond_same (is_same (order e.key (entry_key x gx n e.block 0))) None)

    pub entry_other : is_same (order e.key (entry_key x gx n e.block 0)) ≡ false → entry_from t x s level e c ≡ None
    entry_other k = entry_by level e c l ∙ rw k

    pub entry_fits : (d : ℕ) → block_from t x s level e.block c ≡ Some d →
        is_same (order e.key (entry_key x gx n e.block 0)) ≡ true → entry_from t x s level e c ≡ Some d
    entry_fits d u k = entry_by level e c l ∙ rw (k, u)

    -- the block of an entry that fits does too
    pub entry_block_lem : (d : ℕ) → entry_from t x s level e c ≡ Some d → block_from t x s level e.block c ≡ Some d
    entry_block_lem d f = go (is_same (order e.key (entry_key x gx n e.block 0))) (sym (entry_by level e c l) ∙ f)
      where
        go : (p : Bool) → cond p (block_from t x s level e.block c) None ≡ Some d →
            block_from t x s level e.block c ≡ Some d
        go true u = u
        go false u = apart cc

  -- ---- the whole tree

  -- the chain stays good
  pub block_good : (level b c d : ℕ) → GoodFrom t g c → block_from t x s level b c ≡ Some d → GoodFrom t g d
  unfolding block_from
  block_good level b c d good e = go (fits x gx n level b) e
    where
      go : (p : Bool) → cond p (follow t g n (tree_leaves x gx n level b) c) None ≡ Some d → GoodFrom t g d
      go true f = follow_good t g n (tree_leaves x gx n level b) c d good f
      go false f = apart cc

  -- gone through to the end of the chain: the rule of the tree
  pub tree_ends : (level b c : ℕ) → GoodFrom t g c →
      is_end t g n (block_from t x s level b c)
      ≡ (fits x gx n level b && same_entries (tree_leaves x gx n level b) (first_keys t g n (blocks_from t g c)))
  unfolding block_from
  tree_ends level b c good = go (fits x gx n level b)
    where
      go : (p : Bool) → is_end t g n (cond p (follow t g n (tree_leaves x gx n level b) c) None) ≡ (p && same_entries
          (tree_leaves x gx n level b) (first_keys t g n (blocks_from t g c)))
      go true = follow_ends t g n (tree_leaves x gx n level b) c good
      go false = refl
