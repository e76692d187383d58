-- Where a cell stands, in two steps: first block and field, then count and place. What its bytes mean comes after. Both
-- steps are defined for any bytes, given the numbers of a header. Definitions only.
use Rattle.std.specs.Prelude.{ℕ, ◌+◌, ◌-◌, ◌≤◌, ◌<◌, ◌≡◌, cond, List, [], ◌∷◌, ltb, length}
use Rattle.std.specs.Prelude.{Option, Some, None, Result, Ok, Err}
use Rattle.words.specs.Order.{range}
use Rattle.header.specs.declared.refusal.Refusal.{Refusal}
use Rattle.header.specs.declared.refusal.Refusal.TheVariants.{WrongCount, BadArgument}
use Rattle.header.specs.Kinds.{kind_of, Permitted}
use Rattle.header.specs.Header.{block_head}
use Rattle.header.specs.Fields.{code_at, width_at, width_sum}
use Rattle.header.specs.Numbers.{field_of, field_is, numbers_of}
use Rattle.header.specs.declared.Header.{Header}
use Rattle.header.specs.declared.kind.FieldKind.{FieldKind}
use Rattle.header.specs.declared.field.Field.{Field}
use Rattle.blocks.specs.Shape.{shape_of, has_block, block_at, record_at}
use Rattle.blocks.specs.Counts.{count_in}
use Rattle.blocks.specs.declared.Shape.{Shape}

-- ---- step 1: block and field

-- kind, width and offset in the record of field f (from 1); None, which is 13, for no such block or no such field
unfoldable pub field_at : List ℕ → Header → ℕ → ℕ → Option Field
field_at t h b f = cond (has_block (shape_of h) b) (field_of t h f) None

-- ---- step 2: count and place

-- by the count of block b: 9 where it is bad, 13 for no such place (from 0); else where the record begins, and the
-- offset behind that
unfoldable pub place_with : Shape → ℕ → ℕ → ℕ → Option ℕ → Result ℕ Refusal
place_with g b p offset None = Err WrongCount
place_with g b p offset (Some n) = cond (ltb p n) (Ok (record_at g b p + offset)) (Err BadArgument)

-- where the cell at this offset of the record at a block and place begins
unfoldable pub place_at : List ℕ → Shape → ℕ → ℕ → ℕ → Result ℕ Refusal
place_at t g b p offset = place_with g b p offset (count_in t g b)

-- what both steps refuse with
abbrev pub place_refusals : List Refusal
place_refusals = BadArgument ∷ WrongCount ∷ []

-- ---- what both steps give

-- both steps find the cell at a block, a place and a field: its kind, its width and where it begins
pub record BothSteps (t : List ℕ) (h : Header) (b p f : ℕ) (kind : FieldKind) (width at : ℕ) : Type 0 where
  pub offset : ℕ
  pub field : field_at t h b f ≡ field_is kind width offset
  pub place : place_at t (shape_of h) b p offset ≡ Ok at

-- a located cell of an accepted table: the kind and width are the stored pair's, the kind permits the width, the cell
-- begins behind the fields before it in its record, and it is inside the table
pub record Located (t : List ℕ) (h : Header) (b p f : ℕ) (kind : FieldKind) (width at : ℕ) : Type 0 where
  pub wide : width ≡ width_at t h.area (f - 1)
  pub stored : kind_of (code_at t h.area (f - 1)) width ≡ Some kind
  pub permitted : Permitted kind width
  pub begins : at ≡ record_at (shape_of h) b p + width_sum t h.area (f - 1)
  pub inside : at + width ≤ length t

-- where that is: in a block of the file, behind the block's head and inside the block, in a record that the block
-- counts; behind the record's key where the field is no key field
pub record InBlock (t : List ℕ) (h : Header) (b p f width at : ℕ) : Type 0 where
  pub low : 1 ≤ b
  pub high : b ≤ h.blocks
  pub count : ℕ
  pub counted : count_in t (shape_of h) b ≡ Some count
  pub below : p < count
  pub in_record : record_at (shape_of h) b p ≤ at
  pub record_end : at + width ≤ record_at (shape_of h) b p + h.record_size
  pub behind_head : block_at (shape_of h) b + block_head ≤ at
  pub block_end : at + width ≤ block_at (shape_of h) b + h.block_size
  pub behind_key : h.key_fields < f → record_at (shape_of h) b p + h.key_length ≤ at

-- ---- a cell of a table, by the numbers of its header

-- the code and the width of field f (from 1), as its table stores them
abbrev pub field_code : List ℕ → ℕ → ℕ
field_code t f = code_at t (numbers_of t).area (f - 1)

abbrev pub field_width : List ℕ → ℕ → ℕ
field_width t f = width_at t (numbers_of t).area (f - 1)

-- where the cell at a block, a place and a field begins: behind the fields before it in its record
abbrev pub cell_start : List ℕ → ℕ → ℕ → ℕ → ℕ
cell_start t b p f = record_at (shape_of (numbers_of t)) b p + width_sum t (numbers_of t).area (f - 1)

-- the bytes of that cell
abbrev pub cell_bytes : List ℕ → ℕ → ℕ → ℕ → List ℕ
cell_bytes t b p f = range t (cell_start t b p f) (field_width t f)

-- ---- two tables

-- two tables, each with the numbers of a header, have the same blocks, fields and counts
pub record SamePlaces (t : List ℕ) (h : Header) (u : List ℕ) (k : Header) : Type 0 where
  pub shape : shape_of k ≡ shape_of h
  pub fields : (f : ℕ) → field_of u k f ≡ field_of t h f
  pub counts : (b : ℕ) → 1 ≤ b → b ≤ (shape_of h).blocks → count_in u (shape_of h) b ≡ count_in t (shape_of h) b
