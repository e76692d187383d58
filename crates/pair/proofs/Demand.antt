-- Demand 3: where a pair is accepted, for every key of the key length the walk and the scan answer the same block and
-- place, and absent exactly when no record has the key. Assumes nothing.
use Prim.Native.Nat.{ℕ, ◌≤◌}
use mathlib.Core.Path.{◌≡◌, refl, sym, ap, ◌∙◌}
use mathlib.Core.Bool.{Bool, true, false}
use mathlib.Core.List.{List}
use lib.ListN.{length}
use Rattle.std.specs.Prelude.{Result, Err}
use Rattle.header.specs.Refusals.{kept}
use Rattle.header.specs.Numbers.{numbers_of}
use Rattle.header.specs.declared.Header.{Header}
use Rattle.header.specs.declared.refusal.Refusal.{Refusal}
use Rattle.blocks.specs.Shape.{shape_of}
use Rattle.table.specs.Table.{table_answer}
use Rattle.table.proofs.RuleLaws.{header_kept, table_gives, table_takes, accepted_table}
use Rattle.lookup.specs.Found.{lookup_of}
use Rattle.lookup.specs.Sought.{key_fits}
use Rattle.lookup.proofs.KeyLaws.{fits_gives, fits_takes}
use Rattle.scan.specs.Scan.{scan_of, scan_lookup}
use Rattle.scan.proofs.ScanLaws.{scan_unfit, scan_first}
use Rattle.scan.proofs.KeyLaws.{scan_finds}
use Rattle.index.specs.Header.{index_numbers}
use Rattle.index.specs.Walk.{found_of, walk_tree, walk_of, walk_key, walked_numbers, walk_numbers}
use Rattle.index.specs.declared.walking.Walked.{Walked}
use Rattle.index.proofs.WalkLaws.{key_unfit, walk_tree_lem}
use Rattle.pair.specs.Pair.{pair_answer}
use Rattle.pair.specs.Rules.{Agreement, Agreeing}
use Rattle.pair.proofs.PairLaws.{pair_parts}
use Rattle.pair.proofs.AgreeLaws.{walk_agrees}

-- ---- an accepted pair, a table that the scan accepts with its own mark buffer, and a key of the key length

module _ (t x key : List ℕ) (room room₂ : ℕ) (e : pair_answer t x room ≡ kept) (table : table_answer t room₂ ≡ kept)
    (size : length key ≡ (numbers_of t).key_length) where
  abbrev h : Header
  h = numbers_of t

  -- the key fits the table
  fits : key_fits h key ≡ true
  fits = fits_takes h key (pair_parts t x room e).1 size

  -- the walk goes down the tree
  walks_tree : walk_of t x key ≡ walk_tree t (shape_of h) x (index_numbers x) key
  unfolding walk_of
  walks_tree =
      header_kept t room₂ table Err _ ∙ walk_tree_lem t x key fits (index_numbers x) (pair_parts t x room e).2

  -- and comes to the first record with the key, as the scan does
  walk_scans : found_of (walk_of t x key) ≡ scan_of t key room₂
  walk_scans =
      rw walks_tree (walk_agrees t h x (index_numbers x) key (accepted_table t room₂ table)
      (pair_parts t x room e).1 size (pair_parts t x room e).3)
      ∙ sym (scan_first t key room₂ table fits)

  -- so their numbers are the same, and say what the scan says of the records
  agreement : Agreement t (numbers_of t) key (walk_numbers t x key).0 (scan_lookup t key room₂)
  unfolding walk_numbers walked_numbers scan_lookup
  agreement =
      record {
        same = ap lookup_of walk_scans;
        finds = scan_finds t key room₂ table (pair_parts t x room e).1 size;
      }

-- a key of another length is 13 both ways; so for every key they find the same
module _ (t x key : List ℕ) (room room₂ : ℕ) (e : pair_answer t x room ≡ kept)
    (table : table_answer t room₂ ≡ kept) where
  any_key : found_of (walk_of t x key) ≡ scan_of t key room₂
  unfolding walk_of found_of
  any_key = go (key_fits (numbers_of t) key) refl
    where
      go : (c : Bool) → key_fits (numbers_of t) key ≡ c → found_of (walk_of t x key) ≡ scan_of t key room₂
      go true f = walk_scans t x key room room₂ e table (fits_gives (numbers_of t) key f).1
      go false f =
          let unfit = header_kept t room₂ table Err (walk_key t (numbers_of t) x key) ∙ key_unfit t x key f in
          ap found_of unfit ∙ sym (scan_unfit t key room₂ table f)

-- ---- demand 3

module _ (t x key : List ℕ) (room room₂ : ℕ) (e : pair_answer t x room ≡ kept)
    (l : (numbers_of t).blocks ≤ room₂) where
  -- the table is accepted with any mark buffer that has a byte for each block
  again : table_answer t room₂ ≡ kept
  again = table_takes t room₂ (table_gives t room (pair_parts t x room e).0) l

  -- the walk finds what the scan finds, for any key
  pub demand_3_found : found_of (walk_of t x key) ≡ scan_of t key room₂
  demand_3_found = any_key t x key room room₂ e again

  -- the same by their numbers, and what they say of the records, for a key of the key length
  pub demand_3 : length key ≡ (numbers_of t).key_length →
      Agreement t (numbers_of t) key (walk_numbers t x key).0 (scan_lookup t key room₂)
  demand_3 size = agreement t x key room room₂ e again size

-- ---- of the code: the answer w of the walk is what a key looked up in an accepted pair comes to

pub both_ways : (t x key m : List ℕ) (w : Result Walked Refusal) → w ≡ walk_of t x key → Agreeing t x key m w
unfolding walk_numbers walked_numbers
both_ways t x key m w same e =
    let table = (pair_parts t x (length m) e).0 in
    rw same (record {
      walked = refl;
      scanned = sym (any_key t x key (length m) (length m) e table);
      agreed = λ size. agreement t x key (length m) (length m) e table size;
    })
