-- What starting and stepping come to, as plain propositions. Definitions only.
use Rattle.std.specs.Prelude.{ℕ, suc, ◌≤◌, ◌<◌, ◌≡◌, true, false, List, [], ◌∷◌, Some, Ok, Err}
use Rattle.header.specs.Refusals.{one_of}
use Rattle.header.specs.declared.Header.{Header}
use Rattle.header.specs.declared.refusal.Refusal.{Refusal}
use Rattle.blocks.specs.Shape.{shape_of}
use Rattle.blocks.specs.Counts.{count_in}
use Rattle.blocks.specs.declared.Shape.{Shape}
use Rattle.chain.specs.Chain.{times}
use Rattle.chain.specs.Links.{used_of}
use Rattle.table.specs.Records.{Position, held, records_of, comes}
use Rattle.cursor.specs.Cursor.{Stepped, refused, at_end, start_of, step_of}
use Rattle.cursor.specs.declared.Cursor.{Cursor}
use Rattle.cursor.specs.declared.Step.TheVariants.{Record, End}
use Rattle.cursor.specs.declared.Refused.{Refused}

-- ---- one answer, of any bytes

-- a cursor on a record: its block is in the file and counts more records than its place, and its moves are at most
-- blocks - 1
pub record OnRecord (t : List ℕ) (g : Shape) (c : Cursor) : Type 0 where
  pub going : c.ended ≡ false
  pub low : 1 ≤ c.block
  pub high : c.block ≤ g.blocks
  pub few_moves : c.moves < g.blocks
  pub count : ℕ
  pub counted : count_in t g c.block ≡ Some count
  pub there : c.place < count

-- an answer is a cursor on a record, the end with numbers 0, or one of these refusals with the cursor that is to be
-- handed back
pub data Answered (refusals : List Refusal) (t : List ℕ) (g : Shape) (back : Cursor) : Stepped → Type 0 where
  found : {c : Cursor} → OnRecord t g c → Answered refusals t g back (Ok (Record c))
  over : Answered refusals t g back (Ok (End at_end))
  refusing : {r : Refusal} → one_of refusals r ≡ true → Answered refusals t g back (refused r back)

-- cursor d comes after cursor c: at the next place of the same block, or with more moves made
pub data After (c d : Cursor) : Type 0 where
  next_place : d.block ≡ c.block → d.moves ≡ c.moves → d.place ≡ suc c.place → After c d
  more_moves : c.moves < d.moves → After c d

-- ---- all answers, of any bytes

-- from an answer on, stepping comes to one that is no record
pub data Ends (t : List ℕ) : Stepped → Type 0 where
  by_end : {c : Cursor} → Ends t (Ok (End c))
  by_refusal : {r : Refused} → Ends t (Err r)
  later : {c : Cursor} → Ends t (step_of t c) → Ends t (Ok (Record c))

-- ---- all answers, of an accepted table

-- where the record of a cursor is
abbrev pub position_of : Cursor → Position
position_of c = record { block = c.block; place = c.place }

-- from an answer on, stepping gives these records in this order and then the end, and no answer is a refusal
pub data Gives (t : List ℕ) : Stepped → List Position → Type 0 where
  none : Gives t (Ok (End at_end)) []
  one : {c : Cursor} {ps : List Position} → Gives t (step_of t c) ps → Gives t (Ok (Record c)) (position_of c ∷ ps)

-- every record comes once, in chain order: from the start on stepping gives the records of the table and no other
-- list, a record that a used block counts is among them once, and none is twice
pub record EveryRecord (t : List ℕ) (h : Header) : Type 0 where
  pub gives : Gives t (start_of t) (records_of t h)
  pub exactly : (ps : List Position) → Gives t (start_of t) ps → ps ≡ records_of t h
  pub once : (p : Position) → times p.block (used_of t h) ≡ 1 → p.place < held (count_in t (shape_of h) p.block) →
      comes p (records_of t h) ≡ 1
  pub no_more : (p : Position) → comes p (records_of t h) ≤ 1
