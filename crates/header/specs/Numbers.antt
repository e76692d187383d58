-- The numbers of a header, for any bytes: no rule is asked for here. Definitions only.
use Rattle.std.specs.Prelude.{ℕ, ◌-◌, cond, ◌&&◌, List, leb, Option, Some, None}
use Rattle.header.specs.Stored.{stored_of, block_size, area_at, names_at}
use Rattle.header.specs.Fields.{width_at, kind_at, width_sum, offsets_of}
use Rattle.header.specs.declared.Header.{Header}
use Rattle.header.specs.declared.stored.Stored.{Stored}
use Rattle.header.specs.declared.kind.FieldKind.{FieldKind}
use Rattle.header.specs.declared.field.Field.{Field}

-- the stored numbers, with a key length and the fields' offsets
unfoldable pub numbers_with : Stored → ℕ → List ℕ → Header
numbers_with s key offsets =
    record {
      version = s.version;
      header_size = s.header_size;
      block_size = block_size s;
      blocks = s.blocks;
      record_size = s.record_size;
      records = s.records;
      first = s.first;
      last = s.last;
      free = s.free;
      fields = s.fields;
      key_fields = s.key_fields;
      area = area_at s.version;
      names = names_at s;
      key_length = key;
      offsets = offsets;
    }

-- the key length is the widths of the key fields added up, an offset those of the fields before it
unfoldable pub numbers_in : List ℕ → Stored → Header
numbers_in t s =
    numbers_with s (width_sum t (area_at s.version) s.key_fields) (offsets_of t (area_at s.version) s.fields)

-- the header's numbers of any bytes
unfoldable pub numbers_of : List ℕ → Header
numbers_of t = numbers_in t (stored_of t)

-- ---- a field, counted from 1 as document 01 counts them

-- a field by its kind, its width and its offset
abbrev pub field_is : FieldKind → ℕ → ℕ → Option Field
field_is kind width offset = Some (record { kind = kind; width = width; offset = offset })

-- a field of a kind that the table has; a header that keeps the rules has no other
unfoldable pub field_with : Option FieldKind → ℕ → ℕ → Option Field
field_with (Some kind) width offset = field_is kind width offset
field_with None width offset = None

-- kind, width and offset of field f; None where there is no such field
unfoldable pub field_of : List ℕ → Header → ℕ → Option Field
field_of t h f =
    cond (leb 1 f && leb f h.fields)
    (field_with (kind_at t h.area (f - 1)) (width_at t h.area (f - 1)) (width_sum t h.area (f - 1)))
    None
