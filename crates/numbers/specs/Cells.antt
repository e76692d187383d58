-- Cells as numbers, four each: what it is, its value, its length, and one that is 0 so far. Definitions only.
use Rattle.std.specs.Prelude.{ℕ, zero, suc, ◌-◌, ◌*◌, ◌^◌, cond, List, [], ◌∷◌, ◌++◌, ℤ, pos, negsuc, length, to_bits}
use Rattle.std.specs.Prelude.{Result, Ok, Err}
use Rattle.std.specs.Float.{binary64}
use Rattle.header.specs.Refusals as Refusals
use Rattle.header.specs.declared.refusal.Refusal.{Refusal}
use Rattle.header.specs.declared.refusal.Refusal.TheVariants.{BadArgument}
use Rattle.header.specs.Numbers.{numbers_of}
use Rattle.header.specs.declared.Header.{Header}
use Rattle.blocks.specs.Shape.{shape_of, has_block}
use Rattle.blocks.specs.declared.Shape.{Shape}
use Rattle.cell.specs.Values.{Cell}
use Rattle.cell.specs.Locating.{place_at}
use Rattle.cell.specs.Reading.{block_cell}
use Rattle.cell.specs.declared.value.Value.{Value}
use Rattle.cell.specs.declared.value.Value.TheVariants as Val
use Rattle.numbers.specs.What.{refused, blank, short, long, date, number, logical, text}
use Rattle.numbers.specs.Lent.{given, room_first}

-- ---- a cell

-- a signed number as 64 bits: -(n + 1) is 2 ^ 64 - (n + 1)
unfoldable pub signed_bits : ℤ → ℕ
signed_bits (pos n) = n
signed_bits (negsuc n) = 2 ^ 64 - suc n

-- the value: a day number, a double's bits, 1 for true, where a text begins in the table with its length
unfoldable pub value_list : Value → List ℕ
value_list Val.Blank = blank ∷ 0 ∷ 0 ∷ 0 ∷ []
value_list (Val.Short z) = short ∷ signed_bits z ∷ 0 ∷ 0 ∷ []
value_list (Val.Long z) = long ∷ signed_bits z ∷ 0 ∷ 0 ∷ []
value_list (Val.Date d) = date ∷ d ∷ 0 ∷ 0 ∷ []
value_list (Val.Number x) = number ∷ to_bits binary64 x ∷ 0 ∷ 0 ∷ []
value_list (Val.Logical b) = logical ∷ cond b 1 0 ∷ 0 ∷ 0 ∷ []
value_list (Val.Text start len) = text ∷ start ∷ len ∷ 0 ∷ []

-- a cell among others: one that is refused has its refusal's number as its value
unfoldable pub cell_list : Cell → List ℕ
cell_list (Ok v) = value_list v
cell_list (Err refusal) = refused ∷ Refusals.number refusal ∷ 0 ∷ 0 ∷ []

abbrev pub cell_count : ℕ
cell_count = 4

-- a cell alone: its refusal is the call's
unfoldable pub cell_given : Cell → Result (List ℕ) Refusal
cell_given (Ok v) = Ok (value_list v)
cell_given (Err refusal) = Err refusal

-- the cell at a block, a place (from 0) and a field (from 1)
unfoldable pub cell_numbers : List ℕ → ℕ → ℕ → ℕ → List ℕ → ℕ × List ℕ
cell_numbers t b p f lent =
    given lent (room_first t (length lent) cell_count (cell_given (block_cell t (numbers_of t) b p f)))

-- ---- a record

-- the cells of its first fields, one behind another
unfoldable pub cells_list : List ℕ → Header → ℕ → ℕ → ℕ → List ℕ
cells_list t h b p zero = []
cells_list t h b p (suc f) = cells_list t h b p f ++ cell_list (block_cell t h b p (suc f))

-- where the record at a block and a place begins: 13 for no such block, 9 for its bad count, 13 for no such place
unfoldable pub record_place : List ℕ → Shape → ℕ → ℕ → Result ℕ Refusal
record_place t g b p = cond (has_block g b) (place_at t g b p 0) (Err BadArgument)

-- a record that is there has all its cells; a cell's own refusal is not the record's
unfoldable pub record_given : List ℕ → Result ℕ Refusal → Result (List ℕ) Refusal
record_given cells (Ok at) = Ok cells
record_given cells (Err refusal) = Err refusal

abbrev pub record_in : List ℕ → Header → ℕ → ℕ → Result (List ℕ) Refusal
record_in t h b p = record_given (cells_list t h b p h.fields) (record_place t (shape_of h) b p)

unfoldable pub record_numbers : List ℕ → ℕ → ℕ → List ℕ → ℕ × List ℕ
record_numbers t b p lent =
    given lent (room_first t (length lent) (cell_count * (numbers_of t).fields) (record_in t (numbers_of t) b p))
