-- The index rules as tests are the rules as propositions: they are kept exactly when IndexRules holds. Assumes
-- nothing.
use Prim.Native.Nat.{ℕ, ◌+◌, ◌*◌}
use mathlib.Core.Path.{◌≡◌, refl}
use mathlib.Core.Bool.{Bool, true, false, ◌&&◌, ◌||◌}
use mathlib.Core.List.{List}
use mathlib.Core.Logic.{◌⊎◌, inl, inr}
use lib.Dec.{eqb, leb}
use lib.ListN.{length}
use borrow.Author.Tests.{eq-eqb, eqb-true, le-leb, leb-true}
use Rattle.words.proofs.Conjunctions.{both, join}
use Rattle.header.specs.Refusals.{kept}
use Rattle.header.specs.declared.refusal.Refusal.TheVariants.{IndexTooShort, NotAnIndex, IndexVersion, IndexLimit}
use Rattle.header.specs.declared.refusal.Refusal.TheVariants.{IndexLength}
use Rattle.header.specs.Stored.{unit}
use Rattle.header.specs.Header.{least_version, most_version, most_units, block_head, most_blocks, known_version}
use Rattle.header.specs.Header.{length_right}
use Rattle.header.proofs.VerdictLaws.{kept_of}
use Rattle.blocks.specs.Shape.{in_file}
use Rattle.blocks.proofs.ShapeLaws.{in_file_lem, file_has}
use Rattle.index.specs.Stored.{stored_of}
use Rattle.index.specs.Header.{least_index, index_kind, entry_numbers, most_levels, long_enough, is_index, root_right}
use Rattle.index.specs.Header.{limits_kept, index_answer}
use Rattle.index.specs.Rules.{Rooted, IndexLimits, IndexRules}
use Rattle.index.specs.declared.stored.Stored.{Stored}

-- ---- 25: root and levels

module _ (s : Stored) where
  -- the two cases of the test
  abbrev is_empty : Bool
  is_empty = eqb s.root 0 && eqb s.levels 0

  abbrev is_rooted : Bool
  is_rooted = in_file s.blocks s.root && leb 1 s.levels && leb s.levels most_levels

  -- both are 0, or the root is a block of the file and there are 1 to 8 levels
  root_gives : root_right s ≡ true → ((s.root ≡ 0) × (s.levels ≡ 0)) ⊎ Rooted s
  unfolding root_right
  root_gives e = go is_empty refl e
    where
      go : (b : Bool) → is_empty ≡ b → (b || is_rooted) ≡ true → ((s.root ≡ 0) × (s.levels ≡ 0)) ⊎ Rooted s
      go true f g =
          let p = both {a = eqb s.root 0} {b = eqb s.levels 0} f in inl
          (eqb-true s.root 0 p.0, eqb-true s.levels 0 p.1)
      go false f g =
          let p = both {a = in_file s.blocks s.root && leb 1 s.levels} {b = leb s.levels most_levels} g in
          let q = both {a = in_file s.blocks s.root} {b = leb 1 s.levels} p.0 in
          let r = in_file_lem s.blocks s.root q.0 in
          inr
          (record {
            root_least = r.0;
            root_most = r.1;
            levels_least = leb-true 1 s.levels q.1;
            levels_most = leb-true s.levels most_levels p.1;
          })

  root_takes : ((s.root ≡ 0) × (s.levels ≡ 0)) ⊎ Rooted s → root_right s ≡ true
  unfolding root_right
  root_takes (inl p) = rw (eq-eqb s.root 0 p.0, eq-eqb s.levels 0 p.1)
  root_takes (inr r) =
      go is_empty (join (join (file_has s.blocks s.root r.root_least r.root_most)
      (le-leb 1 s.levels r.levels_least)) (le-leb s.levels most_levels r.levels_most))
    where
      go : (b : Bool) → is_rooted ≡ true → (b || is_rooted) ≡ true
      go true e = refl
      go false e = e

-- ---- 25: every number within its limit

module _ (n : ℕ) (s : Stored) where
  pub limits_give : limits_kept n s ≡ true → IndexLimits n s
  unfolding limits_kept
  limits_give e =
      let p6 = both e in
      let p5 = both p6.0 in
      let p4 = both p5.0 in
      let p3 = both p4.0 in
      let p2 = both p3.0 in
      let p1 = both p2.0 in
      record {
        size = eqb-true s.record_size (n + entry_numbers) p1.0;
        header_least = leb-true least_index s.header_size p1.1;
        units_least = leb-true 1 s.units p2.1;
        units_most = leb-true s.units most_units p3.1;
        blocks_most = leb-true s.blocks most_blocks p4.1;
        size_most = leb-true (s.record_size + block_head) (s.units * unit) p5.1;
        root = root_gives s p6.1;
      }

  limits_take : IndexLimits n s → limits_kept n s ≡ true
  unfolding limits_kept
  limits_take l =
      join (join (join (join (join (join (eq-eqb s.record_size (n + entry_numbers) l.size)
      (le-leb least_index s.header_size l.header_least)) (le-leb 1 s.units l.units_least))
      (le-leb s.units most_units l.units_most)) (le-leb s.blocks most_blocks l.blocks_most))
      (le-leb (s.record_size + block_head) (s.units * unit) l.size_most)) (root_takes s l.root)

-- ---- 21, 22, 23, 25 and 26

module _ (x : List ℕ) (n : ℕ) where
  pub answer_gives : index_answer x n ≡ kept → IndexRules x n
  unfolding index_answer long_enough is_index known_version length_right
  answer_gives e =
      let s = stored_of x in
      let p1 = kept_of (long_enough x) IndexTooShort _ e in
      let p2 = kept_of (is_index s) NotAnIndex _ p1.1 in
      let p3 = kept_of (known_version s.version) IndexVersion _ p2.1 in
      let p4 = kept_of (limits_kept n s) IndexLimit _ p3.1 in
      let p5 = kept_of (length_right (length x) s.header_size s.blocks s.units) IndexLength kept p4.1 in
      let v = both {a = leb least_version s.version} {b = leb s.version most_version} p3.0 in
      record {
        long = leb-true least_index (length x) p1.0;
        kind = eqb-true s.kind index_kind p2.0;
        version_least = leb-true least_version s.version v.0;
        version_most = leb-true s.version most_version v.1;
        limits = limits_give n s p4.0;
        whole = eqb-true (length x) (s.header_size + s.blocks * (s.units * unit)) p5.0;
      }

  pub answer_takes : IndexRules x n → index_answer x n ≡ kept
  unfolding index_answer long_enough is_index known_version length_right
  answer_takes r =
      let s = stored_of x in
      rw (
        le-leb least_index (length x) r.long,
        eq-eqb s.kind index_kind r.kind,
        le-leb least_version s.version r.version_least,
        le-leb s.version most_version r.version_most,
        limits_take n s r.limits,
        eq-eqb (length x) (s.header_size + s.blocks * (s.units * unit)) r.whole,
      )
