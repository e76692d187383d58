-- Which refusals reading an index's header and walking answer: each stands at a rule of the definition. Assumes
-- nothing.
use Rattle.std.specs.Prelude.{Option, Some, None, Result, Ok, Err}
use Prim.Native.Nat.{ℕ, zero, suc, ◌+◌}
use mathlib.Core.Path.{◌≡◌, refl}
use mathlib.Core.Bool.{true}
use mathlib.Core.List.{List, [], ◌∷◌, ◌++◌}
use lib.Dec.{eqb}
use lib.ListN.{length}
use Rattle.words.proofs.Cases.{either}
use Rattle.header.specs.Refusals.{Verdict, number, one_of, among}
use Rattle.header.specs.declared.refusal.Refusal.{Refusal}
use Rattle.header.specs.declared.refusal.Refusal.TheVariants.{BadArgument}
use Rattle.header.specs.Header.{known_version}
use Rattle.header.specs.Numbers.{numbers_of}
use Rattle.header.specs.declared.Header.{Header}
use Rattle.header.proofs.RefusalLaws.{among_front, among_back, among_is, among_refused, unless_among}
use Rattle.header.proofs.AcceptedLaws.{first_among}
use Rattle.blocks.specs.Shape.{shape_of, has_block}
use Rattle.blocks.specs.Counts.{count_in}
use Rattle.blocks.specs.declared.Shape.{Shape}
use Rattle.lookup.specs.Sought.{key_fits}
use Rattle.index.specs.Stored.{stored_of}
use Rattle.index.specs.Header.{long_enough, is_index, limits_kept, length_kept, index_answer, index_numbers}
use Rattle.index.specs.Header.{index_refusals, index_of}
use Rattle.index.specs.Entries.{entries_in, below}
use Rattle.index.specs.Walk.{found_after, by_count, in_data, onward, walk_from, walk_tree, way_refusals}
use Rattle.index.specs.Walk.{walk_index, walk_key, walk_of, walk_refusals}
use Rattle.index.specs.declared.IndexHeader.{IndexHeader}
use Rattle.index.specs.declared.walking.Walked.{Walked}

-- ---- the header: 21, 22, 23, 25, 26

answer_among : (x : List ℕ) (n : ℕ) → among index_refusals (index_answer x n) ≡ true
unfolding among one_of number index_refusals index_answer
answer_among x n =
    let s = stored_of x in
    let Among : Verdict → Type 0 = λ v. among index_refusals v ≡ true in
    either Among (long_enough x) _ _
    (either Among (is_index s) _ _
    (either Among (known_version s.version) _ _
    (either Among (limits_kept n s) _ _
    (either Among (length_kept (length x) s) _ _ refl refl) refl) refl) refl) refl

pub index_refusals_lem : (x : List ℕ) (n : ℕ) → among index_refusals (index_of x n) ≡ true
unfolding index_of among index_refusals
index_refusals_lem x n =
    unless_among index_refusals [] (index_answer x n) (Ok (index_numbers x)) (answer_among x n) (λ e. refl)

-- ---- the walk

-- on the way: 27, 8, 9
abbrev Among : Result Walked Refusal → Type 0
Among w = among way_refusals w ≡ true

module _ (t : List ℕ) (g : Shape) (key : List ℕ) where
  count_among : (b reads : ℕ) (c : Option ℕ) → Among (by_count t g key b reads c)
  unfolding by_count found_after among one_of number
  count_among b reads (Some n) = refl
  count_among b reads None = refl

  data_among : (b reads : ℕ) → Among (in_data t g key b reads)
  unfolding in_data among one_of number
  data_among b reads = either Among (has_block g b) _ _ (count_among b reads (count_in t g b)) refl

  onward_among : (d : Option ℕ) (none : Result Walked Refusal) (down : ℕ → Result Walked Refusal) → Among none
      → ((b : ℕ) → Among (down b)) → Among (onward d none down)
  unfolding onward
  onward_among (Some b) none down absent lower = lower b
  onward_among None none down absent lower = absent

  from_among : (x : List ℕ) (gx : Shape) (level b reads : ℕ) → Among (walk_from t g x gx key level b reads)
  unfolding walk_from found_after among one_of number
  from_among x gx zero b reads = data_among b reads
  from_among x gx (suc level) b reads =
      either Among (eqb (entries_in x gx b) 0) _ _ refl
      (onward_among (below x gx key b (entries_in x gx b)) _ _ refl (λ next. from_among x gx level next (reads + 1)))

  tree_among : (x : List ℕ) (i : IndexHeader) → Among (walk_tree t g x i key)
  unfolding walk_tree found_after among one_of
  tree_among x i =
      either Among (eqb i.root 0) _ _ refl (from_among x i.shape i.levels i.root 0)

module _ (t : List ℕ) (h : Header) (x key : List ℕ) where
  -- 21 to 26, then those
  index_among : (i : Result IndexHeader Refusal) → among index_refusals i ≡ true →
      among (index_refusals ++ way_refusals) (walk_index t h x i key) ≡ true
  unfolding walk_index
  index_among (Ok i) e =
      among_back (walk_tree t (shape_of h) x i key) index_refusals way_refusals (tree_among t (shape_of h) key x i)
  index_among (Err r) e =
      among_front (Err r) index_refusals way_refusals
      (among_refused Walked index_refusals r (among_is index_refusals (Err r) e refl))

  -- 13 before them
  key_among : among (BadArgument ∷ index_refusals ++ way_refusals) (walk_key t h x key) ≡ true
  unfolding walk_key among one_of number
  key_among =
      either (λ (w : Result Walked Refusal). among (BadArgument ∷ index_refusals ++ way_refusals) w ≡ true)
      (key_fits h key) (walk_index t h x (index_of x h.key_length) key) (Err BadArgument)
      (among_back (walk_index t h x (index_of x h.key_length) key) (BadArgument ∷ []) (index_refusals ++ way_refusals)
      (index_among (index_of x h.key_length) (index_refusals_lem x h.key_length))) refl

-- 1 to 7, then those
pub walk_refusals_lem : (t x key : List ℕ) → among walk_refusals (walk_of t x key) ≡ true
unfolding walk_refusals walk_of
walk_refusals_lem t x key =
    first_among t (BadArgument ∷ index_refusals ++ way_refusals) (walk_key t (numbers_of t) x key)
    (λ a. key_among t (numbers_of t) x key)
