-- What the private functions ask and answer: no rule is stated here. Definitions only.
use Rattle.std.specs.Prelude.{◌≡◌, ℕ, zero, suc, ◌+◌, ◌*◌, ◌<◌, ◌≤◌, true, List, [], ◌++◌, length, ◌≢◌}
use Rattle.std.specs.Prelude.{Option, Some, None, Result, Ok, Err}
use Rattle.std.specs.Float.Ieee.Scale.{finite}
use Rattle.header.specs.declared.refusal.Refusal.TheVariants.{NoMeaning}
use Rattle.header.specs.declared.refusal.Refusal.{Refusal}
use Rattle.header.specs.Fields.{width_at, kind_at, width_sum}
use Rattle.header.specs.Numbers.{numbers_of}
use Rattle.header.specs.declared.Header.{Header}
use Rattle.header.specs.declared.kind.FieldKind.{FieldKind}
use Rattle.blocks.specs.Shape.{shape_of}
use Rattle.cell.specs.Values.{Cell, Content, content_of, nothing}
use Rattle.cell.specs.Reading.{cell_at, block_cell}
use Rattle.cell.specs.declared.value.Value.{Value}
use Rattle.cell.specs.declared.value.Value.TheVariants as Val
use Rattle.blob.specs.Blob.{Answer, block_blob}
use Rattle.numbers.specs.Lent.{in_front, room_first}
use Rattle.numbers.specs.Header.{header_list, header_count, field_count, field_in}
use Rattle.numbers.specs.Blob.{part_count}
use Rattle.numbers.specs.Cells.{cell_list, cell_count, cell_given, record_place}
use Rattle.numbers.specs.declared.run.Run.{Run}

-- ---- the answers of the calls, by how many numbers are lent

abbrev pub header_given : List ℕ → ℕ → Result (List ℕ) Refusal
header_given t room = room_first t room header_count (Ok (header_list (numbers_of t)))

abbrev pub field_answer : List ℕ → ℕ → ℕ → Result (List ℕ) Refusal
field_answer t f room = room_first t room field_count (field_in t (numbers_of t) f)

abbrev pub cell_answer : List ℕ → ℕ → ℕ → ℕ → ℕ → Result (List ℕ) Refusal
cell_answer t b p f room = room_first t room cell_count (cell_given (block_cell t (numbers_of t) b p f))

-- the cells of a record that begins at a place
unfoldable pub run_at : Header → Result ℕ Refusal → Result Run Refusal
run_at h (Ok at) = Ok (record { area = h.area; fields = h.fields; start = at })
run_at h (Err refusal) = Err refusal

abbrev pub run_in : List ℕ → Header → ℕ → ℕ → Result Run Refusal
run_in t h b p = run_at h (record_place t (shape_of h) b p)

abbrev pub run_answer : List ℕ → ℕ → ℕ → ℕ → Result Run Refusal
run_answer t b p room = room_first t room (cell_count * (numbers_of t).fields) (run_in t (numbers_of t) b p)

abbrev pub blob_answer : List ℕ → List ℕ → ℕ → ℕ → ℕ → ℕ → Answer
blob_answer t mb b p f room = room_first t room part_count (block_blob t mb (numbers_of t) b p f)

-- ---- values and cells

-- a value, or nothing where there is none
unfoldable pub content_if : List ℕ → Option Value → Content
content_if s (Some value) = content_of s value
content_if s None = nothing

-- a number is finite, as every one is that a cell means
unfoldable pub Finite : Value → Type 0
Finite Val.Blank = Unit {0}
Finite (Val.Short z) = Unit {0}
Finite (Val.Long z) = Unit {0}
Finite (Val.Date d) = Unit {0}
Finite (Val.Number x) = finite x ≡ true
Finite (Val.Logical b) = Unit {0}
Finite (Val.Text start len) = Unit {0}

unfoldable pub FiniteCell : Cell → Type 0
FiniteCell (Ok v) = Finite v
FiniteCell (Err refusal) = Unit {0}

-- ---- the cells of a record by the field area and the place where it begins

-- a cell by the pair that is stored for its field; a header that keeps the rules has none of an unknown kind
unfoldable pub pair_cell : List ℕ → ℕ → ℕ → Option FieldKind → Cell
pair_cell t at width (Some kind) = cell_at kind t at width
pair_cell t at width None = Err NoMeaning

-- field f, counted from 0
abbrev pub stored_cell : List ℕ → ℕ → ℕ → ℕ → Cell
stored_cell t area at f = pair_cell t (at + width_sum t area f) (width_at t area f) (kind_at t area f)

unfoldable pub cells_from : List ℕ → ℕ → ℕ → ℕ → List ℕ
cells_from t area at zero = []
cells_from t area at (suc f) = cells_from t area at f ++ cell_list (stored_cell t area at f)

-- the pairs of n fields are known, and they and the cells of a record are inside the table
pub record Inside (t : List ℕ) (area n at : ℕ) : Type 0 where
  pub pairs : area + 2 * n ≤ length t
  pub known : (f : ℕ) → f < n → kind_at t area f ≢ None
  pub cells : (f : ℕ) → f < n → at + width_sum t area f + width_at t area f ≤ length t

-- what putting the cells of n fields of the record at a place answers
abbrev pub run_given : List ℕ → ℕ → ℕ → ℕ → List ℕ → ℕ × List ℕ
run_given t area n at lent = in_front lent (cells_from t area at n)
