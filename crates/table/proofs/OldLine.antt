-- Request 10 took a line out of the table check: 16, between 9 and 10, for counts that add up to more than
-- 2,147,483,647. This file, and no other, has the check with that line; what it answered there, `old`, is any refusal,
-- as none has the number 16. Every answer and what is left in the mark buffer are as without the line, and a refusal
-- that is none of the check's own is given for no bytes. Assumes nothing.
use Rattle.std.specs.Prelude.{Ok, Err}
use Prim.Native.Nat.{ℕ}
use mathlib.Core.Path.{◌≡◌, refl, sym, ap, ◌∙◌}
use mathlib.Core.Bool.{Bool, true, false, false≢true}
use mathlib.Core.List.{List}
use native.Mathlib.Nat.{le_trans}
use native.Mathlib.Omega.{arith}
use lib.Dec.{leb}
use lib.ListN.{length}
use borrow.Author.Tests.{le-leb}
use Rattle.header.specs.Refusals.{Verdict, kept, number, answer_number, one_of, header_refusals, first_broken}
use Rattle.header.specs.declared.refusal.Refusal.{Refusal}
use Rattle.header.specs.declared.refusal.Refusal.TheVariants.{ChainRule, WrongCount, KeyOrder, ShortBuffer}
use Rattle.header.specs.Header.{most_records, header_refusal}
use Rattle.header.specs.Numbers.{numbers_of}
use Rattle.header.specs.Answers.{unless_refused, header_first}
use Rattle.header.specs.Rules.{HeaderRules}
use Rattle.header.specs.declared.Header.{Header}
use Rattle.header.proofs.AcceptedLaws.{accepted_gives}
use Rattle.header.proofs.RefusalLaws.{one_of_not, among_is}
use Rattle.blocks.specs.Shape.{shape_of}
use Rattle.chain.specs.Links.{links_of, used_of, free_of}
use Rattle.chain.proofs.RuleLaws.{rules_give, rules_once}
use Rattle.table.specs.Counts.{total, counts_right}
use Rattle.table.specs.Keys.{keys_ascend}
use Rattle.table.specs.Table.{table_chained, tests_answer, rules_answer, blocks_answer, table_answer}
use Rattle.table.specs.Table.{table_refusals, table_first, table_marks}
use Rattle.table.specs.Rules.{noted, MarksLeft}
use Rattle.table.proofs.TotalLaws.{total_limit, most_below}
use Rattle.table.proofs.BufferLaws.{marks_left, marks_only}
use Rattle.table.proofs.RefusalLaws.{table_refusals_lem}

-- ---- the check with the line

-- 16: the counts of the used blocks add up to at most 2,147,483,647
unfoldable pub sum_fits : List ℕ → Header → Bool
sum_fits t h = leb (total t (shape_of h) (used_of t h)) most_records

-- 8, 9, 16, 10, by the tests of these rules
unfoldable pub old_tests : Refusal → Bool → Bool → Bool → Bool → Verdict
old_tests old chains counts few keys =
    first_broken chains ChainRule
    (first_broken counts WrongCount (first_broken few old (first_broken keys KeyOrder kept)))

-- 8, 9, 16, 10 of a table
unfoldable pub old_rules : Refusal → List ℕ → Header → Verdict
old_rules old t h =
    old_tests old (table_chained t h) (counts_right t h (used_of t h)) (sum_fits t h) (keys_ascend t h (used_of t h))

-- 1 to 7 and 14 come before them
unfoldable pub old_answer : Refusal → List ℕ → ℕ → Verdict
old_answer old t room =
    header_first t Err (first_broken (leb (numbers_of t).blocks room) ShortBuffer (old_rules old t (numbers_of t)))

-- the mark buffer by the answer: with 16 too the marks of both chains
pub data OldMarksLeft (old : Refusal) (t m : List ℕ) : Verdict → List ℕ → Type 0 where
  as_now : {a : Verdict} {marks : List ℕ} → MarksLeft t m a marks → OldMarksLeft old t m a marks
  by_sum : OldMarksLeft old t m (Err old) (noted t m)

-- ---- the same answers

-- where the chain rules are kept, the sum is within the limit
sum_fits_lem : (t : List ℕ) → HeaderRules t (length t) → table_chained t (numbers_of t) ≡ true →
    sum_fits t (numbers_of t) ≡ true
unfolding sum_fits
sum_fits_lem t r e =
    let h = numbers_of t in
    let used = used_of t h in
    let c = rules_give h.blocks (links_of t h) e in
    let once = rules_once h.blocks (links_of t h) used (free_of t h) c in
    le-leb (total t (shape_of h) used) most_records (le_trans (total_limit t r used c.used_inside once) most_below)

module _ (old : Refusal) where
  old_tests_same : (chains counts few keys : Bool) → (chains ≡ true → few ≡ true) →
      old_tests old chains counts few keys ≡ tests_answer chains counts keys
  unfolding old_tests tests_answer
  old_tests_same false counts few keys h = refl
  old_tests_same true counts few keys h = rw (h refl)

  old_rules_same : (t : List ℕ) → HeaderRules t (length t) →
      old_rules old t (numbers_of t) ≡ rules_answer t (numbers_of t)
  unfolding old_rules rules_answer
  old_rules_same t r =
      let h = numbers_of t in old_tests_same (table_chained t h) _ (sum_fits t h) _ (sum_fits_lem t r)

  -- for any bytes and any room
  pub old_answer_same : (t : List ℕ) (room : ℕ) → old_answer old t room ≡ table_answer t room
  unfolding old_answer table_answer header_first unless_refused blocks_answer
  old_answer_same t room = go (header_refusal t) refl
    where
      behind : Verdict → Verdict
      behind rules = first_broken (leb (numbers_of t).blocks room) ShortBuffer rules

      answer : Verdict → Verdict → Verdict
      answer v rules = unless_refused v Err (behind rules)

      go : (v : Verdict) → header_refusal t ≡ v →
          answer v (old_rules old t (numbers_of t)) ≡ answer v (rules_answer t (numbers_of t))
      go (Ok none) e = ap behind (old_rules_same t (accepted_gives t e))
      go (Err r) e = refl

  -- and every answer that has the table check first, as the scan's and the pair check's, is as before
  pub old_first_same : {A : Type 0} (t : List ℕ) (room : ℕ) (refused : Refusal → A) (others : A) →
      unless_refused (old_answer old t room) refused others ≡ table_first t room refused others
  unfolding table_first
  old_first_same t room refused others = ap (λ (v : Verdict). unless_refused v refused others) (old_answer_same t room)

  -- ---- where it is no refusal of the check without the line, no file gives it

  module _ (other : one_of table_refusals old ≡ false) where
    pub never_too_many : (t : List ℕ) (room : ℕ) → old_answer old t room ≡ Err old → ⊥
    never_too_many t room e =
        one_of_not old table_refusals old
        (among_is table_refusals (table_answer t room) (table_refusals_lem t room) (sym (old_answer_same t room) ∙ e))
        other refl

    -- the same marks: by either list, those that the check leaves and no others
    pub old_marks_only : (t m marks : List ℕ) → OldMarksLeft old t m (old_answer old t (length m)) marks →
        marks ≡ table_marks t m
    old_marks_only t m marks k = go (old_answer old t (length m)) marks refl k
      where
        go : (a : Verdict) (left : List ℕ) → old_answer old t (length m) ≡ a → OldMarksLeft old t m a left →
            left ≡ table_marks t m
        go a left e (as_now l) = marks_only t m left (rw (sym (old_answer_same t (length m)) ∙ e) l)
        go a left e by_sum = absurd (never_too_many t (length m) e)

  pub old_marks_left : (t m : List ℕ) → OldMarksLeft old t m (old_answer old t (length m)) (table_marks t m)
  old_marks_left t m = rw (old_answer_same t (length m)) (as_now (marks_left t m))

-- no answer of the check has the number 16
pub never_sixteen : (t : List ℕ) (room : ℕ) → answer_number (table_answer t room) ≡ 16 → ⊥
unfolding answer_number one_of table_refusals header_refusals number
never_sixteen t room = go (table_answer t room) refl
  where
    go : (v : Verdict) → table_answer t room ≡ v → answer_number v ≡ 16 → ⊥
    go (Ok none) e k = omega arith
    go (Err r) e k =
        let w = among_is table_refusals (table_answer t room) (table_refusals_lem t room) e in
        false≢true (rw k at w)

-- nor has any of the check with the line
pub old_never_sixteen : (old : Refusal) (t : List ℕ) (room : ℕ) → answer_number (old_answer old t room) ≡ 16 → ⊥
old_never_sixteen old t room e = never_sixteen t room (ap answer_number (sym (old_answer_same old t room)) ∙ e)
