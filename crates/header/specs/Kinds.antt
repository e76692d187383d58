-- Field kinds: document 01's table of codes and permitted widths. Definitions only.
use Rattle.std.specs.Prelude.{ℕ, ◌≤◌, ◌≡◌, Bool, true, false, cond, ◌&&◌, List, [], ◌∷◌, eqb, leb, Option, Some, None}
use Rattle.header.specs.declared.kind.FieldKind.{FieldKind}
use Rattle.header.specs.declared.kind.FieldKind.TheVariants.{Text, Date, Short, Long, Number, Logical, Blob}

-- a row of the table: a code, its kind, the least and the most width
pub data Row : Type 0 where
  row : ℕ → FieldKind → ℕ → ℕ → Row

-- the table; currency (05) shares number's kind. A memo (0C) and the other blobs, binary, formatted memo, OLE and
-- graphic (0D to 10), share one
unfoldable pub kinds : List Row
kinds =
    row 0x01 Text 1 255
    ∷ row 0x02 Date 4 4
    ∷ row 0x03 Short 2 2
    ∷ row 0x04 Long 4 4
    ∷ row 0x05 Number 8 8
    ∷ row 0x06 Number 8 8
    ∷ row 0x09 Logical 1 1
    ∷ row 0x0C Blob 11 250
    ∷ row 0x0D Blob 10 250
    ∷ row 0x0E Blob 10 250
    ∷ row 0x0F Blob 10 250
    ∷ row 0x10 Blob 10 250
    ∷ []

-- a kind, where the width is permitted
unfoldable pub permit : FieldKind → ℕ → ℕ → ℕ → Option FieldKind
permit kind width least most = cond (leb least width && leb width most) (Some kind) None

-- the kind of the row with this code
unfoldable pub kind_in : List Row → ℕ → ℕ → Option FieldKind
kind_in [] code width = None
kind_in (row its kind least most ∷ rest) code width =
    cond (eqb code its) (permit kind width least most) (kind_in rest code width)

-- the kind of a field stored as this code and width, where the table has such a pair
unfoldable pub kind_of : ℕ → ℕ → Option FieldKind
kind_of code width = kind_in kinds code width

-- whether a kind is a blob's
unfoldable pub is_blob : FieldKind → Bool
is_blob Text = false
is_blob Date = false
is_blob Short = false
is_blob Long = false
is_blob Number = false
is_blob Logical = false
is_blob Blob = true

-- the widths that a kind has, by any of its codes; a memo (0C) has them from 11
unfoldable pub Permitted : FieldKind → ℕ → Type 0
Permitted Text width = (1 ≤ width) × (width ≤ 255)
Permitted Date width = width ≡ 4
Permitted Short width = width ≡ 2
Permitted Long width = width ≡ 4
Permitted Number width = width ≡ 8
Permitted Logical width = width ≡ 1
Permitted Blob width = (10 ≤ width) × (width ≤ 250)
