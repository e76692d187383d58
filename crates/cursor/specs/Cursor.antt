-- Records, one after another: what starting and stepping a cursor answer, for any bytes and any cursor. Definitions
-- only.
use Rattle.std.specs.Prelude.{ℕ, zero, suc, ◌-◌, Bool, true, false, cond, ◌&&◌, List, [], ◌∷◌, eqb, ltb}
use Rattle.std.specs.Prelude.{Option, Some, None, Result, Ok, Err}
use Rattle.header.specs.Refusals.{number}
use Rattle.header.specs.declared.refusal.Refusal.{Refusal}
use Rattle.header.specs.declared.refusal.Refusal.TheVariants.{ChainRule, WrongCount, BadArgument}
use Rattle.header.specs.Numbers.{numbers_of}
use Rattle.header.specs.Answers.{header_first}
use Rattle.header.specs.declared.Header.{Header}
use Rattle.blocks.specs.Shape.{shape_of, has_block}
use Rattle.blocks.specs.Counts.{count_in}
use Rattle.blocks.specs.declared.Shape.{Shape}
use Rattle.chain.specs.Links.{next_of}
use Rattle.cursor.specs.declared.Cursor.{Cursor}
use Rattle.cursor.specs.declared.Step.{Step}
use Rattle.cursor.specs.declared.Step.TheVariants.{Record, End}
use Rattle.cursor.specs.declared.Refused.{Refused}

-- ---- the answer

-- a record or the end, each with the cursor to go on with; or a refusal with the cursor that it hands back
abbrev pub Stepped : Type 0
Stepped = Result Step Refused

abbrev pub refused : Refusal → Cursor → Stepped
refused refusal c = Err (record { refusal = refusal; cursor = c })

-- an ended cursor, its numbers 0
unfoldable pub at_end : Cursor
at_end = record { block = 0; place = 0; moves = 0; ended = true }

-- a cursor on the record at a place of block b, after so many moves
abbrev pub standing : ℕ → ℕ → ℕ → Cursor
standing b place moves = record { block = b; place = place; moves = moves; ended = false }

-- an answer in document 01's numbers: the refusal's, 1 where a record came, and the cursor with its own
pub record Numbers : Type 0 where
  pub refusal : ℕ
  pub found : ℕ
  pub cursor : Cursor

unfoldable pub answer_numbers : Stepped → Numbers
answer_numbers (Ok (Record c)) = record { refusal = 0; found = 1; cursor = c }
answer_numbers (Ok (End c)) = record { refusal = 0; found = 0; cursor = c }
answer_numbers (Err r) = record { refusal = number r.refusal; found = 0; cursor = r.cursor }

-- ---- the first record from a block on

-- 8, 13: the file has block b, and so many moves are at most the blocks in file less 1
unfoldable pub in_reach : Shape → ℕ → ℕ → Bool
in_reach g b moves = has_block g b && ltb moves g.blocks

-- block b by its count, reached after so many moves: its first record; 9 for a bad count; one without records is
-- passed over, and `rest` is the answer. A refusal hands `back` back
unfoldable pub first_in : Cursor → ℕ → ℕ → Option ℕ → Stepped → Stepped
first_in back b moves (Some zero) rest = rest
first_in back b moves (Some (suc n)) rest = Ok (Record (standing b 0 moves))
first_in back b moves None rest = refused WrongCount back

-- from number b on, reached after so many moves: 0 is the end; 8 for a number out of range and for a move beyond
-- blocks - 1; to the next block it is one move more. `left` is how many blocks may still be entered
unfoldable pub first_within : List ℕ → Shape → Cursor → ℕ → ℕ → ℕ → Stepped
first_within t g back zero moves b = cond (eqb b 0) (Ok (End at_end)) (refused ChainRule back)
first_within t g back (suc left) moves b =
    cond (eqb b 0) (Ok (End at_end))
    (cond (in_reach g b moves)
    (first_in back b moves (count_in t g b) (first_within t g back left (suc moves) (next_of t g b)))
    (refused ChainRule back))

-- at most blocks - 1 moves are made, so blocks - moves blocks may be entered
unfoldable pub first_from : List ℕ → Shape → Cursor → ℕ → ℕ → Stepped
first_from t g back moves b = first_within t g back (g.blocks - moves) moves b

-- ---- starting: 1 to 7, then the first block, for which no move is counted. A refusal gives an ended cursor

unfoldable pub start_in : List ℕ → Header → Stepped
start_in t h = first_from t (shape_of h) at_end 0 h.first

unfoldable pub start_of : List ℕ → Stepped
start_of t = header_first t (λ (refusal : Refusal). refused refusal at_end) (start_in t (numbers_of t))

-- what it refuses with after 1 to 7
abbrev pub start_refusals : List Refusal
start_refusals = ChainRule ∷ WrongCount ∷ []

-- ---- stepping: 1 to 7, then 13, 9, 13 for the cursor itself, then the next record. Refused, it comes back the same

-- the record after the cursor's, by its block's count: in its block, or from the next number on; 9 for a bad count,
-- 13 for no such place
unfoldable pub step_with : List ℕ → Shape → Cursor → Option ℕ → Stepped
step_with t g c None = refused WrongCount c
step_with t g c (Some n) =
    cond (ltb c.place n)
    (cond (ltb (suc c.place) n)
    (Ok (Record (standing c.block (suc c.place) c.moves)))
    (first_from t g c (suc c.moves) (next_of t g c.block)))
    (refused BadArgument c)

-- 13 for a block outside the file or more than blocks - 1 moves
unfoldable pub step_in : List ℕ → Shape → Cursor → Stepped
step_in t g c = cond (in_reach g c.block c.moves) (step_with t g c (count_in t g c.block)) (refused BadArgument c)

-- a cursor that has ended stays so, and its numbers become 0
unfoldable pub step_of : List ℕ → Cursor → Stepped
step_of t c =
    header_first t (λ (refusal : Refusal). refused refusal c)
    (cond c.ended (Ok (End at_end)) (step_in t (shape_of (numbers_of t)) c))

-- what it refuses with after 1 to 7
abbrev pub step_refusals : List Refusal
step_refusals = BadArgument ∷ WrongCount ∷ ChainRule ∷ []

-- ---- both in document 01's numbers

unfoldable pub start_numbers : List ℕ → Numbers
start_numbers t = answer_numbers (start_of t)

unfoldable pub step_numbers : List ℕ → Cursor → Numbers
step_numbers t c = answer_numbers (step_of t c)
