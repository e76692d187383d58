-- The pair check: the table check, 13, 21 to 26, then 27; and a key looked up in a pair. Definitions only.
use Rattle.std.specs.Prelude.{ℕ, Bool, cond, ◌&&◌, List, [], ◌∷◌, ◌++◌, eqb, leb, length, Result, Ok, Err}
use Rattle.header.specs.Refusals.{Verdict, kept, first_broken}
use Rattle.header.specs.declared.refusal.Refusal.{Refusal}
use Rattle.header.specs.declared.refusal.Refusal.TheVariants.{BadArgument, IndexTree}
use Rattle.header.specs.Numbers.{numbers_of}
use Rattle.header.specs.Answers.{unless_refused}
use Rattle.header.specs.declared.Header.{Header}
use Rattle.blocks.specs.Shape.{shape_of}
use Rattle.chain.specs.Links.{used_of}
use Rattle.table.specs.Records.{records_of}
use Rattle.table.specs.Table.{table_refusals, table_first, table_marks}
use Rattle.index.specs.Header.{index_refusals, index_of}
use Rattle.index.specs.Walk.{walk_of}
use Rattle.index.specs.declared.IndexHeader.{IndexHeader}
use Rattle.index.specs.declared.walking.Walked.{Walked}
use Rattle.pair.specs.Tree.{fits, tree_leaves, first_keys, same_entries}

-- 27: root 0 fits exactly when there are no records
unfoldable pub empty_fits : List ℕ → Header → Bool
empty_fits t h = eqb (length (records_of t h)) 0

-- 27: another root fits when its block does, and its level 1 entries name the used blocks that hold records, in chain
-- order, each with that block's first key
unfoldable pub root_fits : List ℕ → Header → List ℕ → IndexHeader → Bool
root_fits t h x i =
    fits x i.shape h.key_length i.levels i.root
    && same_entries (tree_leaves x i.shape h.key_length i.levels i.root)
    (first_keys t (shape_of h) h.key_length (used_of t h))

-- 27: the tree fits
unfoldable pub tree_fits : List ℕ → Header → List ℕ → IndexHeader → Bool
tree_fits t h x i = cond (eqb i.root 0) (empty_fits t h) (root_fits t h x i)

-- 21 to 26 by what reading the index's header answers, then 27
unfoldable pub tree_answer : List ℕ → Header → List ℕ → Result IndexHeader Refusal → Verdict
tree_answer t h x (Ok i) = first_broken (tree_fits t h x i) IndexTree kept
tree_answer t h x (Err refusal) = Err refusal

-- 13 comes before them: no key fields
unfoldable pub keyed_answer : List ℕ → Header → List ℕ → Verdict
keyed_answer t h x = first_broken (leb 1 h.key_fields) BadArgument (tree_answer t h x (index_of x h.key_length))

-- what checking a pair answers, for any bytes and a mark buffer of `room` bytes: the table check comes first
unfoldable pub pair_answer : List ℕ → List ℕ → ℕ → Verdict
pair_answer t x room = table_first t room Err (keyed_answer t (numbers_of t) x)

-- its refusals: the table check's, 13, those of the index's header, then 27
unfoldable pub pair_refusals : List Refusal
pair_refusals = table_refusals ++ (BadArgument ∷ index_refusals ++ IndexTree ∷ [])

-- what it leaves in the mark buffer: what the table check does, also where 13 or 21 to 27 is the answer
abbrev pub pair_marks : List ℕ → List ℕ → List ℕ
pair_marks t m = table_marks t m

-- what looking a key up in a pair answers, with the mark buffer m: the pair check's refusal, or what the walk gives.
-- Where the pair is accepted the scan finds the same (`Agreeing`)
unfoldable pub look_up_of : List ℕ → List ℕ → List ℕ → List ℕ → Result Walked Refusal
look_up_of t x key m = unless_refused (pair_answer t x (length m)) Err (walk_of t x key)

-- its refusals: the pair check's, then 13 for a key of another length
unfoldable pub look_up_refusals : List Refusal
look_up_refusals = pair_refusals ++ BadArgument ∷ []
