-- Field rules (refusal 7): the pairs of code and width, their sum, and the names. Fields count from 0 here.
-- Definitions only.
use Rattle.std.specs.Prelude.{ℕ, zero, suc, ◌+◌, ◌*◌, Bool, true, false, not, ◌&&◌, List, eqb, leb, ltb, replicate, set}
use Rattle.std.specs.Prelude.{Option, Some, None}
use Rattle.words.specs.Each.{each}
use Rattle.words.specs.Numbers.{byte}
use Rattle.words.specs.Zeros.{before_zero}
use Rattle.header.specs.Kinds.{kind_of, is_blob}
use Rattle.header.specs.Stored.{area_at, names_at}
use Rattle.header.specs.declared.stored.Stored.{Stored}
use Rattle.header.specs.declared.kind.FieldKind.{FieldKind}

-- ---- pairs: a type byte and a width byte a field

-- the code that is stored for field f of a field area
abbrev pub code_at : List ℕ → ℕ → ℕ → ℕ
code_at t area f = byte t (area + 2 * f)

-- the width that is stored for field f of a field area
abbrev pub width_at : List ℕ → ℕ → ℕ → ℕ
width_at t area f = byte t (area + 2 * f + 1)

-- the kind that is stored for field f of a field area
abbrev pub kind_at : List ℕ → ℕ → ℕ → Option FieldKind
kind_at t area f = kind_of (code_at t area f) (width_at t area f)

-- whether a field may be of this kind: one that the table has, and no blob where it is a key field
unfoldable pub allowed : Bool → Option FieldKind → Bool
allowed keyed None = false
allowed keyed (Some kind) = not (keyed && is_blob kind)

-- whether the pair of field f is right; the first `keys` fields are the key fields
abbrev pub pair_right : List ℕ → ℕ → ℕ → ℕ → Bool
pair_right t area keys f = allowed (ltb f keys) (kind_at t area f)

-- the widths of the first fields added up: the offset of the field after them
unfoldable pub width_sum : List ℕ → ℕ → ℕ → ℕ
width_sum t area zero = 0
width_sum t area (suc f) = width_sum t area f + width_at t area f

-- 256 numbers: at each place up to n the widths of so many fields added up, and 0 after that
unfoldable pub offsets_of : List ℕ → ℕ → ℕ → List ℕ
offsets_of t area zero = replicate 256 0
offsets_of t area (suc n) = set (offsets_of t area n) (suc n) (width_sum t area (suc n))

-- ---- names

-- the longest name, without its ending zero
abbrev pub longest_name : ℕ
longest_name = 25

-- the length of the name at a place; one more than the longest where it is longer than that
abbrev pub name_length : List ℕ → ℕ → ℕ
name_length t at = before_zero t at (suc longest_name)

-- a name of 1 to 25 bytes whose ending zero is inside the header
unfoldable pub name_fits : List ℕ → ℕ → ℕ → Bool
name_fits t end at = leb 1 (name_length t at) && leb (name_length t at) longest_name && ltb (at + name_length t at) end

-- n such names, one after another
unfoldable pub names_fit : List ℕ → ℕ → ℕ → ℕ → Bool
names_fit t end zero at = true
names_fit t end (suc n) at = name_fits t end at && names_fit t end n (at + name_length t at + 1)

-- where the name behind so many others begins, the first at a place: each ends with a zero
unfoldable pub name_start : List ℕ → ℕ → ℕ → ℕ
name_start t zero at = at
name_start t (suc n) at = name_start t n (at + name_length t at + 1)

-- 7: the pairs are right, the widths add up to the record size, and the names are inside the header
unfoldable pub fields_right : List ℕ → Stored → Bool
fields_right t s =
    each (pair_right t (area_at s.version) s.key_fields) s.fields
    && eqb (width_sum t (area_at s.version) s.fields) s.record_size
    && names_fit t s.header_size s.fields (names_at s)
