-- The mark buffer by the answer: unchanged with 1 to 7 and 14, cleared with 8, else the marks of both
-- chains. Assumes nothing.
use Rattle.std.specs.Prelude.{Ok, Err}
use Prim.Native.Nat.{ℕ}
use mathlib.Core.Path.{◌≡◌, refl, sym, ap, ◌∙◌}
use mathlib.Core.Bool.{Bool, true, false, cond, ◌||◌}
use mathlib.Core.List.{List, [], ◌∷◌, ◌++◌}
use native.Mathlib.Omega.{arith}
use lib.Dec.{leb}
use lib.ListN.{length, replicate, drop, length-append, length-replicate}
use lib.Seq.{drop_at}
use borrow.Author.Tests.{le-leb}
use Rattle.header.specs.Refusals.{Verdict, kept, number, one_of, header_refusals, first_broken}
use Rattle.header.specs.declared.refusal.Refusal.{Refusal}
use Rattle.header.specs.declared.refusal.Refusal.TheVariants.{ChainRule, ShortBuffer}
use Rattle.header.specs.Header.{header_refusal}
use Rattle.header.specs.Numbers.{numbers_of}
use Rattle.header.specs.Answers.{unless_refused, header_first}
use Rattle.header.specs.declared.Header.{Header}
use Rattle.header.proofs.RefusalLaws.{among_is, header_refusals_lem}
use Rattle.chain.specs.Links.{used_of}
use Rattle.chain.specs.Marks.{unmarked, marks_of}
use Rattle.chain.proofs.ListLaws.{marks_length}
use Rattle.table.specs.Counts.{counts_right}
use Rattle.table.specs.Keys.{keys_ascend}
use Rattle.table.specs.Table.{table_chained, tests_answer, rules_answer, blocks_answer, table_answer}
use Rattle.table.specs.Table.{block_marks, buffer_after, table_marks}
use Rattle.table.specs.Rules.{noted, MarksLeft, by_header, by_buffer, by_chains, by_counts, by_keys}
use Rattle.table.specs.Rules.{accepting}

module _ (t m : List ℕ) where
  -- 8, 9, 10, by the tests of the rules
  by_rules : (chains counts keys : Bool)
      → let h = numbers_of t in
      let marks = cond chains (marks_of h.blocks (used_of t h)) (replicate h.blocks unmarked) in
      MarksLeft t m (tests_answer chains counts keys) (marks ++ drop h.blocks m)
  unfolding tests_answer
  by_rules false counts keys = by_chains
  by_rules true false keys = by_counts
  by_rules true true false = by_keys
  by_rules true true true = accepting

  -- 14 comes before them
  by_room : (room : Bool) (a : Verdict) (marks : List ℕ) → MarksLeft t m a marks →
      MarksLeft t m (first_broken room ShortBuffer a) (cond room marks m)
  by_room true a marks k = k
  by_room false a marks k = by_buffer

  -- 1 to 7 come first
  by_verdict : (v a : Verdict) (marks : List ℕ) → header_refusal t ≡ v → MarksLeft t m a marks →
      MarksLeft t m (unless_refused v Err a) (unless_refused v (λ (r : Refusal). m) marks)
  unfolding unless_refused
  by_verdict (Ok none) a marks e k = k
  by_verdict (Err r) a marks e k = by_header e

  -- what the check leaves in the mark buffer, by its answer
  pub marks_left : MarksLeft t m (table_answer t (length m)) (table_marks t m)
  unfolding table_answer table_marks header_first blocks_answer buffer_after rules_answer block_marks
  marks_left =
      let h = numbers_of t in
      by_verdict (header_refusal t) (blocks_answer t h (length m)) (buffer_after t h m) refl
      (by_room (leb h.blocks (length m)) (rules_answer t h) (block_marks t h ++ drop h.blocks m)
      (by_rules (table_chained t h) (counts_right t h (used_of t h)) (keys_ascend t h (used_of t h))))

  -- what the buffer holds then, computed from the answer
  unfoldable marks_by : Verdict → List ℕ
  marks_by (Ok none) = noted t m
  marks_by (Err r) =
      let h = numbers_of t in
      cond (one_of header_refusals r || one_of (ShortBuffer ∷ []) r) m
      (cond (one_of (ChainRule ∷ []) r) (replicate h.blocks unmarked ++ drop h.blocks m) (noted t m))

  -- with 1 to 7 it is unchanged
  unchanged : (r : Refusal) → one_of header_refusals r ≡ true → m ≡ marks_by (Err r)
  unfolding marks_by
  unchanged r w = rw w

  -- the answer alone decides the marks
  answered : (a : Verdict) (marks : List ℕ) → MarksLeft t m a marks → marks ≡ marks_by a
  unfolding marks_by one_of header_refusals number
  answered a marks (by_header {r} e) =
      unchanged r (among_is header_refusals (header_refusal t) (header_refusals_lem t) e)
  answered a marks by_buffer = refl
  answered a marks by_chains = refl
  answered a marks by_counts = refl
  answered a marks by_keys = refl
  answered a marks accepting = refl

  -- and no other marks
  pub marks_only : (marks : List ℕ) → MarksLeft t m (table_answer t (length m)) marks → marks ≡ table_marks t m
  marks_only marks k =
      let a = table_answer t (length m) in answered a marks k ∙ sym (answered a (table_marks t m) marks_left)

  -- an accepted table's marks: 1 for a used block and 2 for a free one. A later answer of a call that ran the check
  -- leaves them so
  pub accepted_marks : table_answer t (length m) ≡ kept → table_marks t m ≡ noted t m
  unfolding marks_by
  accepted_marks e = answered (table_answer t (length m)) (table_marks t m) marks_left ∙ ap marks_by e

-- ---- a second check leaves what the first one left

module _ (t : List ℕ) (h : Header) where
  block_marks_lem : length (block_marks t h) ≡ h.blocks
  unfolding block_marks
  block_marks_lem = go (table_chained t h)
    where
      go : (b : Bool) → length (cond b (marks_of h.blocks (used_of t h)) (replicate h.blocks 0)) ≡ h.blocks
      go true = marks_length h.blocks (used_of t h)
      go false = length-replicate h.blocks 0

  buffer_again : (m : List ℕ) → buffer_after t h (buffer_after t h m) ≡ buffer_after t h m
  unfolding buffer_after
  buffer_again m = go (leb h.blocks (length m)) refl
    where
      left : List ℕ
      left = block_marks t h ++ drop h.blocks m

      long : leb h.blocks (length left) ≡ true
      long =
          le-leb h.blocks (length left) (omega (
            arith,
            length-append (block_marks t h) (drop h.blocks m),
            block_marks_lem,
          ))

      go : (b : Bool) → leb h.blocks (length m) ≡ b → buffer_after t h (cond b left m) ≡ cond b left m
      go true e = rw (long, drop_at (block_marks t h) (drop h.blocks m) h.blocks block_marks_lem)
      go false e = rw e

pub marks_again : (t m : List ℕ) → table_marks t (table_marks t m) ≡ table_marks t m
unfolding table_marks header_first unless_refused
marks_again t m = go (header_refusal t)
  where
    marks : List ℕ → List ℕ
    marks l = buffer_after t (numbers_of t) l

    go : (v : Verdict) →
        unless_refused v (λ (r : Refusal). unless_refused v (λ (q : Refusal). m) (marks m))
        (marks (unless_refused v (λ (q : Refusal). m) (marks m)))
        ≡ unless_refused v (λ (q : Refusal). m) (marks m)
    go (Ok none) = buffer_again t (numbers_of t) m
    go (Err r) = refl
