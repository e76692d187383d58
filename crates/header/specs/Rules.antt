-- The header rules as plain propositions: what document 01 asks of a table's header, with each rule's refusal.
-- Definitions only.
use Rattle.std.specs.Prelude.{ℕ, suc, ◌+◌, ◌-◌, ◌*◌, ◌≤◌, ◌<◌, ◌≡◌, ◌⊎◌, length, get_or, true, Some, None}
use mathlib.Core.List.{List, Memᴰ}
use Rattle.words.specs.Numbers.{byte}
use Rattle.header.specs.Kinds.{row, kinds, kind_of, Permitted}
use Rattle.header.specs.Stored.{stored_of, unit, block_size, encryption_at, area_at, names_at}
use Rattle.header.specs.Fields.{code_at, width_at, kind_at, width_sum, longest_name, names_fit}
use Rattle.header.specs.Header.{least_header, least_version, most_version, most_units}
use Rattle.header.specs.Header.{block_head, most_blocks, most_fields, most_records}
use Rattle.header.specs.Numbers.{numbers_of}
use Rattle.header.specs.declared.Header.{Header}
use Rattle.header.specs.declared.stored.Stored.{Stored}
use Rattle.header.specs.declared.kind.FieldKind.{FieldKind}
use Rattle.header.specs.declared.kind.FieldKind.TheVariants.{Blob}

-- 5: every number within its limit
pub record Limits (s : Stored) : Type 0 where
  pub units_least : 1 ≤ s.units
  pub units_most : s.units ≤ most_units
  pub size_least : 1 ≤ s.record_size
  pub size_most : s.record_size + block_head ≤ block_size s
  pub header_least : least_header ≤ s.header_size
  pub blocks_most : s.blocks ≤ most_blocks
  pub fields_least : 1 ≤ s.fields
  pub fields_most : s.fields ≤ most_fields
  pub keys_most : s.key_fields ≤ s.fields
  pub records_most : s.records ≤ most_records
  pub keyed_by_byte : s.kind ≡ 0 → 1 ≤ s.key_fields
  pub byte_by_keyed : 1 ≤ s.key_fields → s.kind ≡ 0
  pub plain_order : 1 ≤ s.key_fields → s.sort ≡ 0

-- a zero-ended name of 1 to 25 bytes at a place
pub record NameAt (t : List ℕ) (at l : ℕ) : Type 0 where
  pub least : 1 ≤ l
  pub most : l ≤ longest_name
  pub nonzero : (i : ℕ) → i < l → byte t (at + i) ≡ 0 → ⊥
  pub ended : byte t (at + l) ≡ 0

-- n such names from a place, one after another, each with its zero inside the header
pub data Names (t : List ℕ) (end : ℕ) : ℕ → ℕ → Type 0 where
  none : {at : ℕ} → Names t end 0 at
  some : {n at l : ℕ} → NameAt t at l → at + l < end → Names t end n (at + l + 1) → Names t end (suc n) at

-- a pair that the table of kinds permits: a row has this code and this kind, and the width is within its limits
pub record GoodPair (code width : ℕ) (kind : FieldKind) : Type 0 where
  pub least : ℕ
  pub most : ℕ
  pub listed : Memᴰ (row code kind least most) kinds
  pub wide_enough : least ≤ width
  pub narrow_enough : width ≤ most

-- 7: the table of kinds permits every pair, no key field is a blob, the widths add up, the names are there
pub record FieldRules (t : List ℕ) (s : Stored) : Type 0 where
  pub pairs : (f : ℕ) → f < s.fields →
      (kind : FieldKind) × GoodPair (code_at t (area_at s.version) f) (width_at t (area_at s.version) f) kind
  pub keys : (f : ℕ) → f < s.key_fields →
      GoodPair (code_at t (area_at s.version) f) (width_at t (area_at s.version) f) Blob → ⊥
  pub widths : width_sum t (area_at s.version) s.fields ≡ s.record_size
  pub names : Names t s.header_size s.fields (names_at s)

-- rules 1 to 7, of a file by its front and its length
pub record HeaderRules (front : List ℕ) (long : ℕ) : Type 0 where
  -- 1
  pub long_enough : least_header ≤ long
  -- 2
  pub kind : ((stored_of front).kind ≡ 0) ⊎ ((stored_of front).kind ≡ 2)
  -- 3
  pub version_least : least_version ≤ (stored_of front).version
  pub version_most : (stored_of front).version ≤ most_version
  -- 4: no encryption
  pub unencrypted : (i : ℕ) → i < 4 → byte front (encryption_at (stored_of front).version + i) ≡ 0
  -- 5
  pub limits : Limits (stored_of front)
  -- 6
  pub whole : long ≡ (stored_of front).header_size + (stored_of front).blocks * block_size (stored_of front)
  -- 7
  pub fields : FieldRules front (stored_of front)

-- what a file that keeps rules 1 to 7 gives the crates above: the header's numbers, their bounds, where a field is
pub record Accepted (t : List ℕ) (h : Header) : Type 0 where
  pub same : h ≡ numbers_of t
  pub whole : length t ≡ h.header_size + h.blocks * h.block_size
  pub header_least : least_header ≤ h.header_size
  pub block_least : unit ≤ h.block_size
  pub block_most : h.block_size ≤ most_units * unit
  pub blocks_most : h.blocks ≤ most_blocks
  pub size_least : 1 ≤ h.record_size
  pub size_most : h.record_size + block_head ≤ h.block_size
  pub records_most : h.records ≤ most_records
  pub fields_least : 1 ≤ h.fields
  pub fields_most : h.fields ≤ most_fields
  pub keys_most : h.key_fields ≤ h.fields
  pub area_inside : h.area + 2 * h.fields ≤ h.header_size
  pub offsets_length : length h.offsets ≡ 256
  pub offset : (i : ℕ) → i ≤ h.fields → get_or h.offsets i 0 ≡ width_sum t h.area i
  pub widths : width_sum t h.area h.fields ≡ h.record_size
  pub key_length : h.key_length ≡ width_sum t h.area h.key_fields
  pub key_most : h.key_length ≤ h.record_size
  pub key_least : 1 ≤ h.key_fields → 1 ≤ h.key_length
  pub pairs : (f : ℕ) → f < h.fields → kind_at t h.area f ≡ None → ⊥
  pub named : names_fit t h.header_size h.fields h.names ≡ true

-- a field of such a table: its number is one of the fields', its kind and width are those of the stored pair, the
-- kind permits the width, and it ends inside the record
pub record FieldBounds (t : List ℕ) (h : Header) (f : ℕ) (kind : FieldKind) (width offset : ℕ) : Type 0 where
  pub least : 1 ≤ f
  pub most : f ≤ h.fields
  pub wide : width ≡ width_at t h.area (f - 1)
  pub stored : kind_of (code_at t h.area (f - 1)) width ≡ Some kind
  pub permitted : Permitted kind width
  pub starts : offset ≡ width_sum t h.area (f - 1)
  pub inside : offset + width ≤ h.record_size
