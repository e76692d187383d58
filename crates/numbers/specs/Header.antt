-- The numbers of a header and of a field, in their order. Definitions only.
use Rattle.std.specs.Prelude.{ℕ, ◌-◌, List, [], ◌∷◌, length, Option, Some, None, Result, Ok, Err}
use Rattle.words.specs.declared.part.Part.{Part}
use Rattle.header.specs.declared.refusal.Refusal.{Refusal}
use Rattle.header.specs.declared.refusal.Refusal.TheVariants.{BadArgument}
use Rattle.header.specs.Fields.{code_at}
use Rattle.header.specs.Numbers.{numbers_of, field_of}
use Rattle.header.specs.Names.{name_in}
use Rattle.header.specs.declared.Header.{Header}
use Rattle.header.specs.declared.kind.FieldKind.{FieldKind}
use Rattle.header.specs.declared.kind.FieldKind.TheVariants as Kin
use Rattle.header.specs.declared.field.Field.{Field}
use Rattle.numbers.specs.What.{short, long, date, number, logical, text, blob}
use Rattle.numbers.specs.Lent.{given, room_first}

-- ---- the header's 14 numbers

unfoldable pub header_list : Header → List ℕ
header_list h =
    h.version
    ∷ h.header_size
    ∷ h.block_size
    ∷ h.blocks
    ∷ h.record_size
    ∷ h.records
    ∷ h.first
    ∷ h.last
    ∷ h.free
    ∷ h.fields
    ∷ h.key_fields
    ∷ h.key_length
    ∷ h.area
    ∷ h.names
    ∷ []

abbrev pub header_count : ℕ
header_count = 14

unfoldable pub header_numbers : List ℕ → List ℕ → ℕ × List ℕ
header_numbers t lent = given lent (room_first t (length lent) header_count (Ok (header_list (numbers_of t))))

-- ---- a field's 6 numbers

-- a kind by its number
unfoldable pub kind_number : FieldKind → ℕ
kind_number Kin.Text = text
kind_number Kin.Date = date
kind_number Kin.Short = short
kind_number Kin.Long = long
kind_number Kin.Number = number
kind_number Kin.Logical = logical
kind_number Kin.Blob = blob

abbrev pub field_count : ℕ
field_count = 6

-- by the name's place: code, kind, width, offset in the record, where the name begins, its length
unfoldable pub named_field : ℕ → Field → Result Part Refusal → Result (List ℕ) Refusal
named_field code field (Ok name) =
    Ok (code ∷ kind_number field.kind ∷ field.width ∷ field.offset ∷ name.start ∷ name.len ∷ [])
named_field code field (Err refusal) = Err refusal

-- 13 for no such field
unfoldable pub field_given : ℕ → Option Field → Result Part Refusal → Result (List ℕ) Refusal
field_given code (Some field) name = named_field code field name
field_given code None name = Err BadArgument

-- the type code that is stored for field f, counted from 1
abbrev pub stored_code : List ℕ → Header → ℕ → ℕ
stored_code t h f = code_at t h.area (f - 1)

abbrev pub field_in : List ℕ → Header → ℕ → Result (List ℕ) Refusal
field_in t h f = field_given (stored_code t h f) (field_of t h f) (name_in t h f)

unfoldable pub field_numbers : List ℕ → ℕ → List ℕ → ℕ × List ℕ
field_numbers t f lent = given lent (room_first t (length lent) field_count (field_in t (numbers_of t) f))
