-- Demand 2 for tables: with a mark for each block the rules are kept exactly when `TableRules` holds; and what an
-- accepted table gives. Assumes nothing.
use Rattle.std.specs.Prelude.{Err}
use Prim.Native.Nat.{ℕ, ◌≤◌}
use mathlib.Core.Path.{◌≡◌, refl, sym, ap, ◌∙◌}
use mathlib.Core.Bool.{Bool, true, false, cond}
use mathlib.Core.List.{List}
use native.Mathlib.Omega.{arith}
use lib.Dec.{eqb, leb}
use lib.ListN.{length-map}
use borrow.Author.Tests.{eq-eqb, eqb-true, le-leb, leb-true}
use Rattle.words.proofs.Conjunctions.{both, join}
use Rattle.header.specs.Refusals.{kept}
use Rattle.header.specs.declared.refusal.Refusal.{Refusal}
use Rattle.header.specs.declared.refusal.Refusal.TheVariants.{ChainRule, WrongCount, KeyOrder, ShortBuffer}
use Rattle.header.specs.Header.{header_refusal}
use Rattle.header.specs.Numbers.{numbers_with, numbers_in, numbers_of}
use Rattle.header.specs.Answers.{header_first}
use Rattle.header.specs.Rules.{Accepted}
use Rattle.header.specs.declared.Header.{Header}
use Rattle.header.proofs.AcceptedLaws.{accepted, accepted_gives, accepted_takes}
use Rattle.header.proofs.VerdictLaws.{unless_kept, unless_zero, kept_of}
use Rattle.blocks.specs.Shape.{shape_of}
use Rattle.blocks.specs.Counts.{count_in}
use Rattle.chain.specs.Links.{links_of, used_of, free_of}
use Rattle.chain.specs.Rules.{ChainRules}
use Rattle.chain.proofs.RuleLaws.{rules_give, rules_take, rules_length, rules_once, used_is}
use Rattle.table.specs.Records.{held, records_held, records_in}
use Rattle.table.specs.Counts.{counts_good, sum, total, counts_right}
use Rattle.table.specs.Keys.{keys_of, ascend, keys_ascend}
use Rattle.table.specs.Table.{table_chained, tests_answer, rules_answer, blocks_answer, table_answer}
use Rattle.table.specs.Rules.{Ascending, TableRules, AcceptedTable}
use Rattle.table.proofs.RecordLaws.{records_total, counts_give, ascend_gives, ascend_takes, ascending_pairs}
use Rattle.table.proofs.HeldLaws.{counts_of, sum_counts, held_records, holding_gives, holding_good}
use Rattle.table.proofs.HeldLaws.{holding_counts}

-- ---- the rules are kept exactly when every test holds

-- the tests of a table, apart
record Kept (t : List ℕ) (h : Header) : Type 0 where
  chains : table_chained t h ≡ true
  counts : counts_right t h (used_of t h) ≡ true
  keys : keys_ascend t h (used_of t h) ≡ true

records_give : (t : List ℕ) (h : Header) → rules_answer t h ≡ kept → Kept t h
unfolding rules_answer tests_answer
records_give t h e =
    let p₁ = kept_of (table_chained t h) ChainRule _ e in
    let p₂ = kept_of (counts_right t h (used_of t h)) WrongCount _ p₁.1 in
    let p₃ = kept_of (keys_ascend t h (used_of t h)) KeyOrder kept p₂.1 in
    record { chains = p₁.0; counts = p₂.0; keys = p₃.0 }

records_take : (t : List ℕ) (h : Header) → Kept t h → rules_answer t h ≡ kept
unfolding rules_answer tests_answer
records_take t h k = rw (k.chains, k.counts, k.keys)

-- the header's refusal comes first
answer_parts : (t : List ℕ) (room : ℕ) → table_answer t room ≡ kept →
    (header_refusal t ≡ kept) × (blocks_answer t (numbers_of t) room ≡ kept)
unfolding table_answer header_first
answer_parts t room e = unless_zero (header_refusal t) (blocks_answer t (numbers_of t) room) e

-- an accepted table keeps 1 to 7: a call's answer is what comes after them
pub header_kept : {A : Type 0} (t : List ℕ) (room : ℕ) → table_answer t room ≡ kept →
    (refused : Refusal → A) (others : A) →
    header_first t refused others ≡ others
unfolding header_first
header_kept t room e refused others = unless_kept (header_refusal t) refused others (answer_parts t room e).0

blocks_give : (t : List ℕ) (h : Header) (room : ℕ) → blocks_answer t h room ≡ kept → Kept t h
unfolding blocks_answer
blocks_give t h room e = records_give t h (kept_of (leb h.blocks room) ShortBuffer (rules_answer t h) e).1

-- ---- the tests are the propositions

keys_give : (t : List ℕ) (h : Header) → keys_ascend t h (used_of t h) ≡ true → 1 ≤ h.key_fields →
    Ascending (keys_of t h)
unfolding keys_ascend
keys_give t h e l = ascend_gives (keys_of t h) (rw (le-leb 1 h.key_fields l) at e)

keys_take : (t : List ℕ) (h : Header) → (1 ≤ h.key_fields → Ascending (keys_of t h)) →
    keys_ascend t h (used_of t h) ≡ true
unfolding keys_ascend
keys_take t h k = go (leb 1 h.key_fields) refl
  where
    go : (b : Bool) → leb 1 h.key_fields ≡ b → cond b (ascend (keys_of t h)) true ≡ true
    go true e = ascend_takes (keys_of t h) (k (leb-true 1 h.key_fields e))
    go false e = refl

-- the used blocks of the rules are those of the chain, and their counts are what each block's gives
module _ {t : List ℕ} (r : TableRules t) where
  pub rules_used : used_of t (numbers_of t) ≡ r.used
  rules_used = used_is (numbers_of t).blocks (links_of t (numbers_of t)) r.used r.free r.chains

  record_some : 1 ≤ (shape_of (numbers_of t)).record_size
  unfolding shape_of numbers_of numbers_in numbers_with
  record_some = r.header.limits.size_least

  pub rules_counts : r.counts ≡ counts_of t (shape_of (numbers_of t)) r.used
  rules_counts =
      holding_counts t (shape_of (numbers_of t)) record_some r.used r.counts r.counts_length r.holding

module _ (t : List ℕ) (room : ℕ) where
  -- an accepted table meets the rules
  pub table_gives : table_answer t room ≡ kept → TableRules t
  unfolding counts_right
  table_gives e =
      let h = numbers_of t in
      let p = answer_parts t room e in
      let k = blocks_give t h room p.1 in
      let c =
      both {a = counts_good t (shape_of h) (used_of t h)} {b = eqb (total t (shape_of h) (used_of t h)) h.records}
      k.counts in
      record {
        header = accepted_gives t p.0;
        used = used_of t h;
        free = free_of t h;
        chains = rules_give h.blocks (links_of t h) k.chains;
        counts = counts_of t (shape_of h) (used_of t h);
        counts_length = length-map (used_of t h) (λ (b : ℕ). held (count_in t (shape_of h) b));
        holding = holding_gives t (shape_of h) (used_of t h) c.0;
        counts_sum =
            sum_counts t (shape_of h) (used_of t h) ∙ eqb-true (total t (shape_of h) (used_of t h)) h.records c.1;
        keys = λ l. rw (held_records t (shape_of h) (used_of t h)) (keys_give t h k.keys l);
      }

  -- a table that meets the rules is accepted, where the mark buffer has a byte for each block
  pub table_takes : TableRules t → (numbers_of t).blocks ≤ room → table_answer t room ≡ kept
  unfolding table_answer header_first blocks_answer counts_right
  table_takes r l =
      let h = numbers_of t in
      let z = accepted_takes t r.header in
      let u : used_of t h ≡ r.used = rules_used r in
      let c : r.counts ≡ counts_of t (shape_of h) r.used = rules_counts r in
      let s : total t (shape_of h) r.used ≡ sum r.counts = sym (ap sum c ∙ sum_counts t (shape_of h) r.used) in
      let p : records_held r.used r.counts ≡ records_in t (shape_of h) r.used =
      ap (records_held r.used) c ∙ held_records t (shape_of h) r.used in
      let k : Kept t h = record {
        chains = rules_take h.blocks (links_of t h) r.used r.free r.chains;
        counts =
            rw u (join (holding_good t (shape_of h) (record_some r) r.used r.counts r.holding)
            (eq-eqb (total t (shape_of h) r.used) h.records (s ∙ r.counts_sum)));
        keys = keys_take t h (λ y. rw (u, ← p) (r.keys y));
      } in
      unless_kept (header_refusal t) Err (blocks_answer t h room) z
      ∙ rw (le-leb h.blocks room l) (records_take t h k)

-- with a mark for each block a table is accepted exactly when it meets the rules
pub table_exactly : (t : List ℕ) (room : ℕ) → (numbers_of t).blocks ≤ room →
    (table_answer t room ≡ kept → TableRules t) × (TableRules t → table_answer t room ≡ kept)
table_exactly t room l = (table_gives t room, λ r. table_takes t room r l)

-- ---- what an accepted table gives

-- behind an accepted header
module _ (t : List ℕ) (h : Header) (a : Accepted t h) (room : ℕ) (e : blocks_answer t h room ≡ kept) where
  tests : Kept t h
  tests = blocks_give t h room e

  chained : ChainRules h.blocks (links_of t h) (used_of t h) (free_of t h)
  chained = rules_give h.blocks (links_of t h) tests.chains

  pub accepted_blocks : AcceptedTable t h
  unfolding counts_right
  accepted_blocks =
      let c =
      both {a = counts_good t (shape_of h) (used_of t h)} {b = eqb (total t (shape_of h) (used_of t h)) h.records}
      tests.counts in
      let s = eqb-true (total t (shape_of h) (used_of t h)) h.records c.1 in
      record {
        header = a;
        chain = chained.used_chain;
        inside = chained.used_inside;
        once = rules_once h.blocks (links_of t h) (used_of t h) (free_of t h) chained;
        few_blocks = omega (arith, rules_length h.blocks (links_of t h) (used_of t h) (free_of t h) chained);
        counts = counts_give t (shape_of h) (used_of t h) c.0;
        sum = s;
        records = records_total t (shape_of h) (used_of t h) ∙ s;
        ascending = λ k. ascending_pairs (keys_of t h) (keys_give t h tests.keys k);
      }

pub accepted_table : (t : List ℕ) (room : ℕ) → table_answer t room ≡ kept → AcceptedTable t (numbers_of t)
accepted_table t room e =
    let p = answer_parts t room e in accepted_blocks t (numbers_of t) (accepted t p.0) room p.1
