-- Which refusals the pair check and a key looked up in a pair answer: by the laws of the table check, the index's
-- header and the scan, with 13 and 27. Assumes nothing.
use Prim.Native.Nat.{ℕ}
use mathlib.Core.Path.{◌≡◌, refl}
use mathlib.Core.Bool.{true}
use mathlib.Core.List.{List, [], ◌∷◌, ◌++◌}
use lib.Dec.{leb}
use lib.ListN.{length}
use Rattle.std.specs.Prelude.{Result, Ok, Err}
use Rattle.words.proofs.Cases.{either}
use Rattle.header.specs.Refusals.{number, Verdict, kept, one_of, among}
use Rattle.header.specs.declared.refusal.Refusal.{Refusal}
use Rattle.header.specs.declared.refusal.Refusal.TheVariants.{BadArgument, IndexTree}
use Rattle.header.specs.Numbers.{numbers_of}
use Rattle.header.specs.Answers.{unless_refused}
use Rattle.header.specs.declared.Header.{Header}
use Rattle.header.proofs.RefusalLaws.{among_front, among_back, unless_among}
use Rattle.table.specs.Table.{table_answer, table_refusals, table_first}
use Rattle.table.proofs.RefusalLaws.{table_refusals_lem}
use Rattle.lookup.specs.Found.{lookup_of}
use Rattle.lookup.specs.Rules.{NoPlace}
use Rattle.lookup.proofs.FoundLaws.{refused_no_place}
use Rattle.scan.proofs.RefusalLaws.{accepted_refusals}
use Rattle.index.specs.Header.{index_refusals, index_of}
use Rattle.index.specs.Walk.{walk_of, found_of, reads_of, walked_numbers, walk_numbers}
use Rattle.index.specs.declared.IndexHeader.{IndexHeader}
use Rattle.index.specs.declared.walking.Walked.{Walked}
use Rattle.index.proofs.RefusalLaws.{index_refusals_lem}
use Rattle.index.proofs.ReadsLaws.{walk_no_place}
use Rattle.pair.specs.Pair.{tree_fits, tree_answer, keyed_answer, pair_answer, pair_refusals, look_up_of}
use Rattle.pair.specs.Pair.{look_up_refusals}
use Rattle.pair.proofs.PairLaws.{pair_parts}
use Rattle.pair.proofs.Demand.{both_ways}

-- ---- the pair check

module _ (t : List ℕ) (h : Header) (x : List ℕ) where
  -- 21 to 26, then 27
  tree_among : (i : Result IndexHeader Refusal) → among index_refusals i ≡ true →
      among (index_refusals ++ IndexTree ∷ []) (tree_answer t h x i) ≡ true
  unfolding tree_answer among one_of number
  tree_among (Ok i) w =
      among_back (tree_answer t h x (Ok i)) index_refusals (IndexTree ∷ [])
      (either (λ (v : Verdict). among (IndexTree ∷ []) v ≡ true) (tree_fits t h x i) kept (Err IndexTree) refl refl)
  tree_among (Err r) w = among_front {A = Unit {0}} (Err r) index_refusals (IndexTree ∷ []) w

  -- 13 before them
  keyed_among : among (BadArgument ∷ index_refusals ++ IndexTree ∷ []) (keyed_answer t h x) ≡ true
  unfolding keyed_answer among one_of number
  keyed_among =
      let tree = tree_answer t h x (index_of x h.key_length) in
      either (λ (v : Verdict). among (BadArgument ∷ index_refusals ++ IndexTree ∷ []) v ≡ true) (leb 1 h.key_fields)
      tree (Err BadArgument)
      (among_back tree (BadArgument ∷ []) (index_refusals ++ IndexTree ∷ [])
      (tree_among (index_of x h.key_length) (index_refusals_lem x h.key_length)))
      refl

-- the table check's, then those
pub pair_refusals_lem : (t x : List ℕ) (room : ℕ) → among pair_refusals (pair_answer t x room) ≡ true
unfolding pair_refusals pair_answer table_first
pair_refusals_lem t x room =
    unless_among table_refusals (BadArgument ∷ index_refusals ++ IndexTree ∷ []) (table_answer t room)
    (keyed_answer t (numbers_of t) x) (table_refusals_lem t room) (λ e. keyed_among t (numbers_of t) x)

-- ---- a key looked up

-- what a walk found has the walk's refusals
found_among : (refusals : List Refusal) (w : Result Walked Refusal) → among refusals (found_of w) ≡ true →
    among refusals w ≡ true
unfolding found_of among
found_among refusals (Ok w) e = refl
found_among refusals (Err r) e = e

module _ (t x key m : List ℕ) where
  -- what the walk finds in an accepted pair is what the scan finds
  walk_among : pair_answer t x (length m) ≡ kept → among (BadArgument ∷ []) (walk_of t x key) ≡ true
  walk_among e =
      found_among (BadArgument ∷ []) (walk_of t x key)
      (rw (← (both_ways t x key m (walk_of t x key) refl e).scanned)
      (accepted_refusals t key (length m) (pair_parts t x (length m) e).0))

  -- the pair check's, then 13
  pub look_up_refusals_lem : among look_up_refusals (look_up_of t x key m) ≡ true
  unfolding look_up_refusals look_up_of
  look_up_refusals_lem =
      unless_among pair_refusals (BadArgument ∷ []) (pair_answer t x (length m)) (walk_of t x key)
      (pair_refusals_lem t x (length m)) walk_among

  -- a refusal hands out no place, and the index blocks read are 0
  pub look_up_no_place : ((lookup_of (found_of (look_up_of t x key m))).refusal ≡ 0 → ⊥) →
      NoPlace (lookup_of (found_of (look_up_of t x key m))) × (reads_of (look_up_of t x key m) ≡ 0)
  unfolding look_up_of unless_refused found_of reads_of walk_numbers walked_numbers
  look_up_no_place h = (refused_no_place (found_of (look_up_of t x key m)) h, go (pair_answer t x (length m)) h)
    where
      go : (v : Verdict) → ((lookup_of (found_of (unless_refused v Err (walk_of t x key)))).refusal ≡ 0 → ⊥) →
          reads_of (unless_refused v Err (walk_of t x key)) ≡ 0
      go (Ok none) k = (walk_no_place t x key k).1
      go (Err r) k = refl
