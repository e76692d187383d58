-- What each answer of the table check says, and what it leaves in the mark buffer. Assumes nothing.
use Rattle.std.specs.Prelude.{Option, Some, None, Result, Ok, Err}
use Prim.Native.Nat.{ℕ, ◌≤◌, ◌<◌}
use mathlib.Core.Path.{◌≡◌, sym, ap, ◌∙◌}
use mathlib.Core.Bool.{true, false}
use mathlib.Core.List.{List, ◌++◌}
use native.Mathlib.Omega.{arith}
use lib.ListN.{length, take, drop, replicate, length-replicate}
use lib.Seq.{take_at, drop_at}
use borrow.Author.Tests.{le-leb, lt-leb}
use Rattle.header.specs.declared.refusal.Refusal.TheVariants.{ChainRule, WrongCount, ShortBuffer}
use Rattle.header.specs.Numbers.{numbers_of}
use Rattle.header.specs.Refusals.{Verdict, kept}
use Rattle.header.specs.Answers.{header_answer, unless_refused}
use Rattle.header.specs.Rules.{Accepted}
use Rattle.header.specs.Fields.{width_sum}
use Rattle.header.specs.declared.Header.{Header}
use Rattle.header.specs.declared.refusal.Refusal.{Refusal}
use Rattle.header.proofs.VerdictLaws.{unless_kept, unless_refused_lem, unless_ok}
use Rattle.header.proofs.AcceptedLaws.{read_numbers, first_kept, first_refused}
use Rattle.blocks.specs.Shape.{shape_of}
use Rattle.chain.specs.Links.{used_of}
use Rattle.chain.specs.Marks.{marks_of}
use Rattle.table.specs.Counts.{counts_right}
use Rattle.table.specs.Keys.{keys_ascend}
use Rattle.table.specs.Table.{table_chained, tests_answer, rules_answer, blocks_answer, table_answer, table_first}
use Rattle.table.specs.Table.{checked_header, block_marks, buffer_after, table_marks}
use Rattle.table.specs.Steps.{ChainsMarked, tally_of, tally_answer, counted_answer}
use Rattle.table.specs.declared.tally.Tally.{Tally}
use Rattle.table.specs.declared.used.UsedChain.{UsedChain}
use Rattle.table.proofs.TallyLaws.{tally_answer_lem}

-- ---- 8, 9, 10

module _ (t : List ℕ) (h : Header) where
  pub chains_refused : table_chained t h ≡ false →
      (Err ChainRule ≡ rules_answer t h) × (replicate h.blocks 0 ≡ block_marks t h)
  unfolding rules_answer tests_answer block_marks
  chains_refused e = (rw e, rw e)

  pub chains_kept : table_chained t h ≡ true → marks_of h.blocks (used_of t h) ≡ block_marks t h
  unfolding block_marks
  chains_kept e = rw e

  -- without key fields the key length is 0
  keyless : Accepted t h → h.key_fields ≡ 0 → h.key_length ≡ 0
  unfolding width_sum
  keyless a e = a.key_length ∙ rw e

  -- the used chain's tally answers for the rules
  module _ (a : Accepted t h) (e : table_chained t h ≡ true) (tally : Option Tally)
      (is : tally ≡ tally_of t (shape_of h) h.key_length (used_of t h)) where
    records_answered : counted_answer tally h.records ≡ rules_answer t h
    unfolding rules_answer counts_right keys_ascend
    records_answered =
        rw is (tally_answer_lem t (shape_of h) h.key_length (used_of t h) h.key_fields a.key_least (keyless a)
        h.records ∙ rw e)

    pub uncounted_refused : tally ≡ None → Err WrongCount ≡ rules_answer t h
    unfolding counted_answer
    uncounted_refused f = rw f at records_answered

    pub tally_answered : (s : Tally) → tally ≡ Some s → tally_answer s h.records ≡ rules_answer t h
    unfolding counted_answer
    tally_answered s f = rw f at records_answered

  -- ---- 14

  module _ (m : List ℕ) where
    pub buffer_short : length m < h.blocks → (Err ShortBuffer ≡ blocks_answer t h (length m)) × (m ≡ buffer_after t h m)
    unfolding blocks_answer buffer_after
    buffer_short l = (rw (lt-leb h.blocks (length m) l), rw (lt-leb h.blocks (length m) l))

    pub buffer_long : h.blocks ≤ length m →
        (rules_answer t h ≡ blocks_answer t h (length m)) × (block_marks t h ++ drop h.blocks m ≡ buffer_after t h m)
    unfolding blocks_answer buffer_after
    buffer_long l = (rw (le-leb h.blocks (length m) l), rw (le-leb h.blocks (length m) l))

-- ---- 1 to 7, of a header that was read as r: m is the mark buffer before the check

module _ (t m : List ℕ) (r : Result Header Refusal) (read : r ≡ header_answer t) where
  pub header_refused : {x : Refusal} → r ≡ Err x → (Err x ≡ table_answer t (length m)) × (m ≡ table_marks t m)
  unfolding table_answer table_marks
  header_refused e = (
    sym (first_refused t r read Err (blocks_answer t (numbers_of t) (length m)) e),
    sym (first_refused t r read (λ (x : Refusal). m) (buffer_after t (numbers_of t) m) e),
  )

  -- the check of the blocks behind it: a is its answer, m₁ the mark buffer after it
  pub checked_blocks : {h : Header} → r ≡ Ok h → (a : Verdict) (m₁ : List ℕ) →
      a ≡ blocks_answer t h (length m) → m₁ ≡ buffer_after t h m →
      (a ≡ table_answer t (length m)) × (m₁ ≡ table_marks t m)
  unfolding table_answer table_marks
  checked_blocks z a m₁ e f =
      let n = read_numbers t r read z in
      let k = first_kept t r read Err (blocks_answer t (numbers_of t) (length m)) z in
      let l = first_kept t r read (λ (x : Refusal). m) (buffer_after t (numbers_of t) m) z in (
        e ∙ ap (λ (h : Header). blocks_answer t h (length m)) n ∙ sym k,
        f ∙ ap (λ (h : Header). buffer_after t h m) n ∙ sym l,
      )

-- ---- an answer behind the table check

module _ {A : Type 0} (t : List ℕ) (room : ℕ) (refused : Refusal → A) (others : A) where
  pub table_kept : table_answer t room ≡ kept → table_first t room refused others ≡ others
  unfolding table_first
  table_kept e = unless_kept (table_answer t room) refused others e

  pub table_refused : {r : Refusal} → table_answer t room ≡ Err r → table_first t room refused others ≡ refused r
  unfolding table_first
  table_refused e = unless_refused_lem (table_answer t room) refused others e

-- ---- the table check with the header's numbers, as it was answered

module _ (t : List ℕ) (room : ℕ) where
  -- its refusal is the table check's, and else the header's numbers
  pub header_as_refused : {r : Refusal} → Err r ≡ table_answer t room → Err r ≡ checked_header t room
  unfolding checked_header
  header_as_refused e = sym (table_refused t room Err (Ok (numbers_of t)) (sym e))

  pub header_as_kept : kept ≡ table_answer t room → Ok (numbers_of t) ≡ checked_header t room
  unfolding checked_header
  header_as_kept e = sym (table_kept t room Err (Ok (numbers_of t)) (sym e))

  module _ (a : Result Header Refusal) (read : a ≡ checked_header t room) where
    -- its refusal is the table check's
    pub checked_refusal : {r : Refusal} → a ≡ Err r → table_answer t room ≡ Err r
    unfolding checked_header table_first unless_refused
    checked_refusal {r} e = go (table_answer t room) (sym read ∙ e)
      where
        go : (v : Verdict) → unless_refused v Err (Ok (numbers_of t)) ≡ Err r → v ≡ Err r
        go (Ok none) f = absurd (let z : ◌≡◌ {A = ℕ} 0 1 = cc in omega arith)
        go (Err s) f = let z : s ≡ r = cc in rw z

    both_kept : {h : Header} → a ≡ Ok h →
        (table_answer t room ≡ kept) × ◌≡◌ {A = Result Header Refusal} (Ok (numbers_of t)) (Ok h)
    unfolding checked_header table_first
    both_kept e = unless_ok (table_answer t room) (Ok (numbers_of t)) (sym read ∙ e)

    -- where it accepts, so does the table check, and the numbers are the header's
    pub checked_kept : {h : Header} → a ≡ Ok h → table_answer t room ≡ kept
    checked_kept e = (both_kept e).0

    pub checked_numbers : {h : Header} → a ≡ Ok h → h ≡ numbers_of t
    checked_numbers {h} e = let f = (both_kept e).1 in let z : numbers_of t ≡ h = cc in sym z

-- ---- the marks of n blocks taken away, and those lent

module _ (n : ℕ) (m m₁ : List ℕ) (e : m₁ ≡ replicate n 0 ++ drop n m) where
  pub cleared_part : take n m₁ ≡ replicate n 0
  cleared_part = rw e (take_at (replicate n 0) (drop n m) n (length-replicate n 0))

  pub cleared_rest : drop n m₁ ≡ drop n m
  cleared_rest = rw e (drop_at (replicate n 0) (drop n m) n (length-replicate n 0))

  -- again, when the part that was lent has come back as m₂
  pub cleared_again : (m₂ m₃ : List ℕ) → length m₂ ≡ n → m₃ ≡ replicate n 0 ++ drop n (m₂ ++ drop n m₁) →
      m₃ ≡ replicate n 0 ++ drop n m
  cleared_again m₂ m₃ l k = k ∙ rw (drop_at m₂ (drop n m₁) n l, cleared_rest)

-- ---- the check of the blocks, where there is a mark for each: m₁ is the buffer with their marks taken away, and m₂
-- the part of it that was lent, as it came back

module _ (t : List ℕ) (h : Header) (m m₁ m₂ : List ℕ) (enough : h.blocks ≤ length m)
    (cleared : m₁ ≡ replicate h.blocks 0 ++ drop h.blocks m) where
  lent_length : length m₂ ≡ length (take h.blocks m₁) → length m₂ ≡ h.blocks
  lent_length l = l ∙ ap length (cleared_part h.blocks m m₁ cleared) ∙ length-replicate h.blocks 0

  -- 8: the marks are taken away again
  pub chains_answered : ChainsMarked t h None m₂ → length m₂ ≡ length (take h.blocks m₁) → (m₃ : List ℕ) →
      m₃ ≡ replicate h.blocks 0 ++ drop h.blocks (m₂ ++ drop h.blocks m₁) →
      (Err ChainRule ≡ blocks_answer t h (length m)) × (m₃ ≡ buffer_after t h m)
  chains_answered w l m₃ again =
      let r = chains_refused t h (sym w.judged) in
      let b = buffer_long t h m enough in (
        r.0 ∙ b.0,
        cleared_again h.blocks m m₁ cleared m₂ m₃ (lent_length l) again
            ∙ ap (λ (s : List ℕ). s ++ drop h.blocks m) r.1
            ∙ b.1,
      )

  -- else both chains stay marked, and the tally answers
  module _ (used : UsedChain) (w : ChainsMarked t h (Some used) m₂) where
    pub marks_answered : m₂ ++ drop h.blocks m₁ ≡ buffer_after t h m
    marks_answered =
        ap (λ (s : List ℕ). s ++ drop h.blocks m₁) (w.stored ∙ chains_kept t h (sym w.judged))
        ∙ rw (cleared_rest h.blocks m m₁ cleared) (buffer_long t h m enough).1

    module _ (a : Accepted t h) where
      pub uncounted_answered : used.tally ≡ None → Err WrongCount ≡ blocks_answer t h (length m)
      uncounted_answered e =
          uncounted_refused t h a (sym w.judged) used.tally w.tallied e ∙ (buffer_long t h m enough).0

      pub counted_answered : (s : Tally) → used.tally ≡ Some s → tally_answer s h.records ≡ blocks_answer t h (length m)
      counted_answered s e =
          tally_answered t h a (sym w.judged) used.tally w.tallied s e ∙ (buffer_long t h m enough).0
