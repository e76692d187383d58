-- A pair whose table is accepted with a header that was read, and then its index: what `check` answers on each way.
-- Assumes nothing.
use Prim.Native.Nat.{ℕ, ◌≤◌}
use mathlib.Core.Path.{◌≡◌, refl, sym, ap, subst, ◌∙◌}
use mathlib.Core.Bool.{true, false}
use mathlib.Core.List.{List}
use native.Mathlib.Nat.{pos_of_ne-zero}
use Rattle.std.specs.Prelude.{Result, Ok, Err, IsErrAnd}
use Rattle.std.proofs.lemmas.Result.{err_from_is_err_and}
use Rattle.header.specs.Refusals.{kept}
use Rattle.header.specs.declared.refusal.Refusal.{Refusal}
use Rattle.header.specs.declared.refusal.Refusal.TheVariants.{BadArgument, IndexTree}
use Rattle.header.specs.Numbers.{numbers_of}
use Rattle.header.specs.declared.Header.{Header}
use Rattle.table.specs.Table.{table_answer, checked_header}
use Rattle.table.specs.Rules.{AcceptedTable}
use Rattle.table.proofs.CheckLaws.{checked_refusal, checked_kept, checked_numbers}
use Rattle.table.proofs.RuleLaws.{accepted_table}
use Rattle.index.specs.Header.{index_of}
use Rattle.index.specs.declared.IndexHeader.{IndexHeader}
use Rattle.index.proofs.AcceptedLaws.{accepted_index}
use Rattle.pair.specs.Pair.{tree_fits, pair_answer}
use Rattle.pair.specs.Steps.{Paired}
use Rattle.pair.proofs.PairLaws.{pair_table, pair_unkeyed, pair_index, pair_unfit, pair_fits}

-- where a `?` leaves, its refusal is the answer
pub leaves : {A : Type 0} (a : Result A Refusal) {r : Refusal} → IsErrAnd a (λ y. y ≡ r) → a ≡ Err r
leaves a e = let p = err_from_is_err_and a e in p.1 ∙ ap Err p.2

module _ (t x : List ℕ) (room : ℕ) where
  -- a table that is refused
  pub read_refused : {r : Refusal} → Err r ≡ checked_header t room → Err r ≡ pair_answer t x room
  read_refused {r} read = sym (pair_table t x room r (checked_refusal t room (Err r) read refl))

  -- one that is accepted, with the header h
  module _ {h : Header} (read : Ok h ≡ checked_header t room) where
    accepted : table_answer t room ≡ kept
    accepted = checked_kept t room (Ok h) read refl

    same : h ≡ numbers_of t
    same = checked_numbers t room (Ok h) read refl

    -- without key fields
    pub read_unkeyed : h.key_fields ≡ 0 → Err BadArgument ≡ pair_answer t x room
    read_unkeyed z = sym (pair_unkeyed t x room accepted (subst (λ (k : Header). k.key_fields ≡ 0) same z))

    -- with them
    module _ (keyed : h.key_fields ≡ 0 → ⊥) where
      some : 1 ≤ (numbers_of t).key_fields
      some = subst (λ (k : Header). 1 ≤ k.key_fields) same (pos_of_ne-zero keyed)

      -- an index that is refused
      pub read_unindexed : {r : Refusal} → Err r ≡ index_of x h.key_length → Err r ≡ pair_answer t x room
      read_unindexed {r} e =
          sym (pair_index t x room accepted some r
          (subst (λ (k : Header). index_of x k.key_length ≡ Err r) same (sym e)))

      -- one that is accepted, with the header i
      module _ {i : IndexHeader} (indexed : Ok i ≡ index_of x h.key_length) where
        its : index_of x (numbers_of t).key_length ≡ Ok i
        its = subst (λ (k : Header). index_of x k.key_length ≡ Ok i) same (sym indexed)

        pub read_paired : Paired t h x i
        read_paired =
            record {
              table = subst (AcceptedTable t) (sym same) (accepted_table t room accepted);
              index = accepted_index x h.key_length i (sym indexed);
            }

        pub read_unfit : tree_fits t h x i ≡ false → Err IndexTree ≡ pair_answer t x room
        read_unfit f =
            sym (pair_unfit t x room accepted some i its
            (subst (λ (k : Header). tree_fits t k x i ≡ false) same f))

        pub read_fits : tree_fits t h x i ≡ true → kept ≡ pair_answer t x room
        read_fits f =
            sym (pair_fits t x room accepted some i its (subst (λ (k : Header). tree_fits t k x i ≡ true) same f))
