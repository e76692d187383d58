-- Demand 2 for pairs: with a mark for each block of the table the answer is no refusal exactly when `PairRules` holds.
-- Assumes nothing.
use Prim.Native.Nat.{ℕ, ◌≤◌}
use mathlib.Core.Path.{◌≡◌}
use mathlib.Core.List.{List}
use Rattle.std.specs.Prelude.{Ok}
use Rattle.header.specs.Refusals.{kept}
use Rattle.header.specs.Numbers.{numbers_of}
use Rattle.table.proofs.RuleLaws.{rules_used, rules_counts, table_gives, table_takes}
use Rattle.index.specs.Header.{index_numbers, index_of}
use Rattle.index.specs.declared.IndexHeader.{IndexHeader}
use Rattle.index.proofs.AcceptedLaws.{index_gives, index_takes, accepted_index}
use Rattle.pair.specs.Pair.{pair_answer}
use Rattle.pair.specs.Rules.{PairRules}
use Rattle.pair.proofs.PairLaws.{pair_parts, pair_fits}
use Rattle.pair.proofs.TreeRuleLaws.{tree_gives, tree_takes}

-- an entry of an accepted index has bytes
entry_some : (x : List ℕ) (n : ℕ) (i : IndexHeader) → index_of x n ≡ Ok i → 1 ≤ i.shape.record_size
entry_some x n i e = (accepted_index x n i e).sound.size_least

module _ (t x : List ℕ) (room : ℕ) where
  -- an accepted pair meets the rules
  pub pair_gives : pair_answer t x room ≡ kept → PairRules t x
  pair_gives e =
      let h = numbers_of t in
      let i = index_numbers x in
      let p = pair_parts t x room e in
      let table = table_gives t room p.0 in
      record {
        table = table;
        keyed = p.1;
        index = index_gives x h.key_length i p.2;
        tree =
            rw (rules_counts table, ← rules_used table)
            (tree_gives t h x i (entry_some x h.key_length i p.2) p.3);
      }

  -- a pair that meets the rules is accepted, where the mark buffer has a byte for each block of the table
  pub pair_takes : PairRules t x → (numbers_of t).blocks ≤ room → pair_answer t x room ≡ kept
  pair_takes r l =
      let h = numbers_of t in
      let i = index_numbers x in
      let accepted = index_takes x h.key_length r.index in
      let tree = rw (rules_counts r.table, ← rules_used r.table) at r.tree in
      pair_fits t x room (table_takes t room r.table l) r.keyed i accepted
      (tree_takes t h x i (entry_some x h.key_length i accepted) tree)

  -- with a mark for each block of the table a pair is accepted exactly when it meets the rules
  pub pair_exactly : (numbers_of t).blocks ≤ room →
      (pair_answer t x room ≡ kept → PairRules t x) × (PairRules t x → pair_answer t x room ≡ kept)
  pair_exactly l = (pair_gives, λ r. pair_takes r l)
