-- What a cell means: by its bytes, and by block, place and field of a table. Definitions only.
use Rattle.std.specs.Prelude.{ℕ, ◌+◌, ◌-◌, ◌≡◌, Bool, true, false, cond, not, ◌&&◌, List, [], ◌∷◌, ◌++◌, ◌⊎◌}
use Rattle.std.specs.Prelude.{eqb, leb, ℤ, pos, negsuc, Float, Option, Some, None, Result, Ok, Err}
use Rattle.std.specs.Float.Ieee.Scale.{finite}
use Rattle.words.specs.Numbers.{big}
use Rattle.words.specs.Signed.{half, complemented, signed}
use Rattle.words.specs.Zeros.{all_zero, before_zero}
use Rattle.header.specs.declared.refusal.Refusal.{Refusal}
use Rattle.header.specs.declared.refusal.Refusal.TheVariants.{NoMeaning, BlobCell, BadArgument}
use Rattle.header.specs.Kinds.{is_blob}
use Rattle.header.specs.Numbers.{numbers_of}
use Rattle.header.specs.Answers.{header_first}
use Rattle.header.specs.declared.Header.{Header}
use Rattle.header.specs.declared.kind.FieldKind.{FieldKind}
use Rattle.header.specs.declared.kind.FieldKind.TheVariants as Kin
use Rattle.header.specs.declared.field.Field.{Field}
use Rattle.blocks.specs.Shape.{shape_of}
use Rattle.blocks.specs.declared.Shape.{Shape}
use Rattle.cell.specs.Values.{Cell, Content, answer_of, part_of}
use Rattle.cell.specs.Doubles.{double_of}
use Rattle.cell.specs.Locating.{field_at, place_at, place_refusals, BothSteps, Located}
use Rattle.cell.specs.declared.value.Value.{Value}
use Rattle.cell.specs.declared.value.Value.TheVariants as Val

-- ---- each kind, of the w bytes at an offset that are not all zero

-- short, long: the number with its top bit complemented, then signed
abbrev pub signed_at : List ℕ → ℕ → ℕ → ℤ
signed_at s at w = signed (half w) (complemented (half w) (big s at w))

-- date: the first and the last day that has a meaning, counted from 1 January 0001, which is day 1
abbrev pub least_date : ℕ
least_date = 36160

abbrev pub most_date : ℕ
most_date = 3652059

-- a day between the two, both included
abbrev pub is_date : ℕ → Bool
is_date d = leb least_date d && leb d most_date

-- date: the number of a long, where it is such a day (11 else)
unfoldable pub date_cell : ℤ → Cell
date_cell (pos d) = cond (is_date d) (Ok (Val.Date d)) (Err NoMeaning)
date_cell (negsuc d) = Err NoMeaning

-- number, currency: the double that the bytes, as one number, mean
abbrev pub double_at : List ℕ → ℕ → ℕ → Float
double_at s at w = double_of w (big s at w)

-- number, currency: a double that is not finite has no meaning (11)
unfoldable pub number_cell : Float → Cell
number_cell x = cond (finite x) (Ok (Val.Number x)) (Err NoMeaning)

-- logical: the bytes of false and true
abbrev pub false_byte : ℕ
false_byte = 0x80

abbrev pub true_byte : ℕ
true_byte = 0x81

-- logical: no other byte has a meaning (11)
unfoldable pub logical_cell : ℕ → Cell
logical_cell n =
    cond (eqb n false_byte) (Ok (Val.Logical false))
    (cond (eqb n true_byte) (Ok (Val.Logical true)) (Err NoMeaning))

-- text of which l bytes stand before the first zero: that part; a nonzero byte after the zero is refused (11)
unfoldable pub text_with : List ℕ → ℕ → ℕ → ℕ → Cell
text_with s at w l = cond (all_zero s (at + l) (w - l)) (Ok (Val.Text at l)) (Err NoMeaning)

-- the meaning by the kind; a blob cell is refused (12)
unfoldable pub value_at : FieldKind → List ℕ → ℕ → ℕ → Cell
value_at Kin.Text s at w = text_with s at w (before_zero s at w)
value_at Kin.Date s at w = date_cell (signed_at s at w)
value_at Kin.Short s at w = Ok (Val.Short (signed_at s at w))
value_at Kin.Long s at w = Ok (Val.Long (signed_at s at w))
value_at Kin.Number s at w = number_cell (double_at s at w)
value_at Kin.Logical s at w = logical_cell (big s at w)
value_at Kin.Blob s at w = Err BlobCell

-- all bytes zero is blank, whatever the kind; but a blob cell is refused, zeros too (12)
unfoldable pub cell_at : FieldKind → List ℕ → ℕ → ℕ → Cell
cell_at kind s at w = cond (not (is_blob kind) && all_zero s at w) (Ok Val.Blank) (value_at kind s at w)

-- ---- by block, place (from 0) and field (from 1): 1 to 7, then 13, 9, 13 of locating, then 12, 11 of the bytes

-- a cell that is located has the meaning of its bytes; what locating refuses, reading refuses
unfoldable pub place_cell : List ℕ → FieldKind → ℕ → Result ℕ Refusal → Cell
place_cell t kind width (Ok at) = cell_at kind t at width
place_cell t kind width (Err refusal) = Err refusal

-- 13 where step 1 finds no field; else by step 2
unfoldable pub field_cell : List ℕ → Shape → ℕ → ℕ → Option Field → Cell
field_cell t g b p (Some field) = place_cell t field.kind field.width (place_at t g b p field.offset)
field_cell t g b p None = Err BadArgument

-- step 1, step 2, then the bytes
unfoldable pub block_cell : List ℕ → Header → ℕ → ℕ → ℕ → Cell
block_cell t h b p f = field_cell t (shape_of h) b p (field_at t h b f)

-- what they refuse with
abbrev pub cell_refusals : List Refusal
cell_refusals = place_refusals ++ BlobCell ∷ NoMeaning ∷ []

-- 1 to 7 first, for any bytes and any numbers
unfoldable pub cell_of : List ℕ → ℕ → ℕ → ℕ → Cell
cell_of t b p f = header_first t Err (block_cell t (numbers_of t) b p f)

-- the same as document 01's number and value
unfoldable pub read_of : List ℕ → ℕ → ℕ → ℕ → ℕ × Content
read_of t b p f = answer_of t (cell_of t b p f)

-- where the text of a cell begins in the table; 0 where there is none
abbrev pub text_start : List ℕ → ℕ → ℕ → ℕ → ℕ
text_start t b p f = (part_of (cell_of t b p f)).start

-- the cell at a block, place and field reads as a value: it is located in the table, and its bytes mean the value
pub record Stands (t : List ℕ) (h : Header) (b p f : ℕ) (v : Value) : Type 0 where
  pub kind : FieldKind
  pub width : ℕ
  pub at : ℕ
  pub located : Located t h b p f kind width at
  pub means : cell_at kind t at width ≡ Ok v

-- ---- what an answer tells of the cell

-- the cell has a meaning: the answer is a value
abbrev pub HasMeaning : Cell → Type 0
HasMeaning c = (v : Value) × (c ≡ Ok v)

-- an answer by a cell's bytes: a value, or 11
abbrev pub ByBytes : Cell → Type 0
ByBytes c = HasMeaning c ⊎ (c ≡ Err NoMeaning)

-- the table has the cell at a block, place and field, and it is no blob's
pub record HasCell (t : List ℕ) (h : Header) (b p f : ℕ) : Type 0 where
  pub kind : FieldKind
  pub width : ℕ
  pub at : ℕ
  pub steps : BothSteps t h b p f kind width at
  pub no_blob : is_blob kind ≡ false
