-- The table check: 1 to 7, then 14 for the mark buffer, then 8, 9, 10; and what it leaves in the mark buffer.
-- Definitions only.
use Rattle.std.specs.Prelude.{ℕ, Bool, cond, List, [], ◌∷◌, ◌++◌, leb, length, replicate, drop, Result, Ok, Err}
use Rattle.header.specs.declared.refusal.Refusal.{Refusal}
use Rattle.header.specs.declared.refusal.Refusal.TheVariants.{ChainRule, WrongCount, KeyOrder, ShortBuffer}
use Rattle.header.specs.Refusals.{Verdict, kept, first_broken, header_refusals}
use Rattle.header.specs.Answers.{unless_refused, header_first}
use Rattle.header.specs.Numbers.{numbers_of}
use Rattle.header.specs.declared.Header.{Header}
use Rattle.chain.specs.Chain.{chains_right}
use Rattle.chain.specs.Links.{links_of, used_of}
use Rattle.chain.specs.Marks.{unmarked, marks_of}
use Rattle.table.specs.Counts.{counts_right}
use Rattle.table.specs.Keys.{keys_ascend}

-- 8: the chains of a table keep the chain rules
abbrev pub table_chained : List ℕ → Header → Bool
table_chained t h = chains_right h.blocks (links_of t h)

-- ---- the answer

-- 8, 9, 10, by the tests of these rules: the first broken rule's refusal, or kept
unfoldable pub tests_answer : Bool → Bool → Bool → Verdict
tests_answer chains counts keys =
    first_broken chains ChainRule (first_broken counts WrongCount (first_broken keys KeyOrder kept))

-- 8, 9, 10 of a table
unfoldable pub rules_answer : List ℕ → Header → Verdict
rules_answer t h = tests_answer (table_chained t h) (counts_right t h (used_of t h)) (keys_ascend t h (used_of t h))

-- 14 comes before them: a mark buffer of `room` bytes has one for each block
unfoldable pub blocks_answer : List ℕ → Header → ℕ → Verdict
blocks_answer t h room = first_broken (leb h.blocks room) ShortBuffer (rules_answer t h)

-- the refusals behind 1 to 7: 14, 8, 9, 10
abbrev pub blocks_refusals : List Refusal
blocks_refusals = ShortBuffer ∷ ChainRule ∷ WrongCount ∷ KeyOrder ∷ []

-- what checking a table answers, for any bytes and a mark buffer of `room` bytes
unfoldable pub table_answer : List ℕ → ℕ → Verdict
table_answer t room = header_first t Err (blocks_answer t (numbers_of t) room)

-- its refusals: 1 to 7, then those
unfoldable pub table_refusals : List Refusal
table_refusals = header_refusals ++ blocks_refusals

-- a call's answer behind the table check
unfoldable pub table_first : {A : Type 0} → List ℕ → ℕ → (Refusal → A) → A → A
table_first t room refused others = unless_refused (table_answer t room) refused others

-- what the table check answers with the header's numbers, where it accepts
unfoldable pub checked_header : List ℕ → ℕ → Result Header Refusal
checked_header t room = table_first t room Err (Ok (numbers_of t))

-- ---- the mark buffer

-- the marks of the blocks: 0 with 8, else 1 for a used block and 2 for a free one
unfoldable pub block_marks : List ℕ → Header → List ℕ
block_marks t h = cond (table_chained t h) (marks_of h.blocks (used_of t h)) (replicate h.blocks unmarked)

-- with 14 the buffer is unchanged, and its bytes past the blocks' never change
unfoldable pub buffer_after : List ℕ → Header → List ℕ → List ℕ
buffer_after t h m = cond (leb h.blocks (length m)) (block_marks t h ++ drop h.blocks m) m

-- what checking a table leaves in the mark buffer: with 1 to 7 it is unchanged
unfoldable pub table_marks : List ℕ → List ℕ → List ℕ
table_marks t m = header_first t (λ (refusal : Refusal). m) (buffer_after t (numbers_of t) m)
