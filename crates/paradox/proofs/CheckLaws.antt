-- The two checks by the number that C gets: 0 exactly where the rules are met, else the number of one of the check's
-- refusals; and the marks that a number leaves. Assumes nothing.
use Prim.Native.Nat.{ℕ, ◌≤◌}
use mathlib.Core.Path.{◌≡◌, sym, ap, subst}
use mathlib.Core.Bool.{true}
use mathlib.Core.List.{List, ◌∷◌}
use lib.ListN.{length}
use Rattle.std.specs.Prelude.{Ok, Err}
use Rattle.header.specs.Numbers.{numbers_of}
use Rattle.header.specs.Refusals.{Verdict, kept, answer_number}
use Rattle.header.proofs.RefusalLaws.{number_same}
use Rattle.table.specs.Rules.{TableRules, MarksLeft}
use Rattle.table.specs.Table.{table_answer, table_marks, table_refusals}
use Rattle.table.proofs.BufferLaws.{marks_left, marks_only}
use Rattle.table.proofs.RefusalLaws.{table_refusals_lem}
use Rattle.table.proofs.RuleLaws.{table_gives, table_takes}
use Rattle.pair.specs.Pair.{pair_answer, pair_refusals}
use Rattle.pair.specs.Rules.{PairRules}
use Rattle.pair.proofs.RefusalLaws.{pair_refusals_lem}
use Rattle.pair.proofs.RuleLaws.{pair_gives, pair_takes}
use Rattle.numbers.specs.Lent.{numbered, is_one}
use Rattle.numbers.proofs.LentLaws.{among_numbered, zero_kept}

kept_zero : (v : Verdict) → v ≡ kept → answer_number v ≡ 0
unfolding answer_number
kept_zero v e = ap answer_number e

-- a number tells its verdict
verdict_same : (v w : Verdict) → answer_number v ≡ answer_number w → v ≡ w
unfolding answer_number
verdict_same (Ok tt) w e = sym (zero_kept w (sym e))
verdict_same (Err r) (Ok tt) e = zero_kept (Err r) e
verdict_same (Err r) (Err s) e = ap Err (number_same r s e)

-- with a mark for each block a table's number is 0 exactly when it meets the rules
pub table_number_exactly : (t : List ℕ) (room : ℕ) → (numbers_of t).blocks ≤ room →
    (answer_number (table_answer t room) ≡ 0 → TableRules t) × (TableRules t → answer_number (table_answer t room) ≡ 0)
table_number_exactly t room l = (
  λ e. table_gives t room (zero_kept (table_answer t room) e),
  λ r. kept_zero (table_answer t room) (table_takes t room r l),
)

-- so is a pair's
pub pair_number_exactly : (t x : List ℕ) (room : ℕ) → (numbers_of t).blocks ≤ room →
    (answer_number (pair_answer t x room) ≡ 0 → PairRules t x) × (PairRules t x → answer_number (pair_answer t x room) ≡ 0)
pair_number_exactly t x room l = (
  λ e. pair_gives t x room (zero_kept (pair_answer t x room) e),
  λ r. kept_zero (pair_answer t x room) (pair_takes t x room r l),
)

pub table_number_refusals : (t : List ℕ) (room : ℕ) →
    is_one (0 ∷ numbered table_refusals) (answer_number (table_answer t room)) ≡ true
table_number_refusals t room = among_numbered table_refusals (table_answer t room) (table_refusals_lem t room)

pub pair_number_refusals : (t x : List ℕ) (room : ℕ) →
    is_one (0 ∷ numbered pair_refusals) (answer_number (pair_answer t x room)) ≡ true
pair_number_refusals t x room = among_numbered pair_refusals (pair_answer t x room) (pair_refusals_lem t x room)

-- by the table check's number these marks and no others
module _ (t m : List ℕ) (v : Verdict) (its : answer_number v ≡ answer_number (table_answer t (length m))) where
  pub number_marks_left : MarksLeft t m v (table_marks t m)
  number_marks_left =
      subst (λ (w : Verdict). MarksLeft t m w (table_marks t m)) (sym (verdict_same v (table_answer t (length m)) its))
      (marks_left t m)

  pub number_marks_only : (marks : List ℕ) → MarksLeft t m v marks → marks ≡ table_marks t m
  number_marks_only marks k =
      marks_only t m marks
      (subst (λ (w : Verdict). MarksLeft t m w marks) (verdict_same v (table_answer t (length m)) its) k)
