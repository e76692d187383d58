-- When a blob stands in the MB file, as plain propositions. Definitions only.
use Rattle.std.specs.Prelude.{ℕ, ◌+◌, ◌%◌, ◌≤◌, ◌<◌, ◌≡◌, ◌⊎◌, List, length}
use Rattle.header.specs.declared.Header.{Header}
use Rattle.header.specs.declared.kind.FieldKind.TheVariants.{Blob}
use Rattle.cell.specs.Locating.{BothSteps}
use Rattle.blob.specs.Leader.{leader_size, offset_at, length_at}
use Rattle.blob.specs.Mb.{low_byte, base_of, mb_unit, block_kind, units_at, mb_block_size, own_low_byte, own_kind}
use Rattle.blob.specs.Mb.{own_head}
use Rattle.blob.specs.Mb.{own_length, sub_kind, sub_unit, entries, entries_end, entry_place, entry_begin, entry_units}
use Rattle.blob.specs.Mb.{entry_last, entry_length}

-- the block at a base is a block of its own, and its head states a blob
pub record OwnBlock (mb : List ℕ) (base low begin len : ℕ) : Type 0 where
  pub own : low ≡ own_low_byte
  pub kind : block_kind mb base ≡ own_kind
  pub begins : begin ≡ own_head
  pub states : len ≡ own_length mb base

-- it is a suballocated block, and the entry of this number states a blob, with 1 to 16 bytes in its last unit
pub record SubBlock (mb : List ℕ) (base i begin len : ℕ) : Type 0 where
  pub number : i < entries
  pub kind : block_kind mb base ≡ sub_kind
  pub begins : begin ≡ entry_begin mb (entry_place base i)
  pub some : 1 ≤ entry_units mb (entry_place base i)
  pub least : 1 ≤ entry_last mb (entry_place base i)
  pub most : entry_last mb (entry_place base i) ≤ sub_unit
  pub states : len ≡ entry_length mb (entry_place base i)
  -- behind the head and all entries
  pub behind : entries_end ≤ begin

-- a cell's offset and length fit the MB file: the blob begins so far behind the block's begin
pub record BlobRules (mb : List ℕ) (offset len begin : ℕ) : Type 0 where
  -- the block begins at a multiple of 4,096
  pub multiple : base_of offset % mb_unit ≡ 0
  -- it has at least one unit, and all its units are in the file
  pub units : 1 ≤ units_at mb (base_of offset)
  pub block : base_of offset + mb_block_size mb (base_of offset) ≤ length mb
  -- its head, or an entry of it, states just this length
  pub stated : OwnBlock mb (base_of offset) (low_byte offset) begin len
      ⊎ SubBlock mb (base_of offset) (low_byte offset) begin len
  -- the blob is inside the block
  pub inside : begin + len ≤ mb_block_size mb (base_of offset)

-- a blob's cell of w bytes whose length is more than the leader
pub record LongBlob (t : List ℕ) (h : Header) (b p f w at : ℕ) : Type 0 where
  pub cell : BothSteps t h b p f Blob w at
  pub long : leader_size w < length_at t at w

-- the blob at a block, place and field stands in the MB file
pub record Body (t mb : List ℕ) (h : Header) (b p f start len : ℕ) : Type 0 where
  pub width : ℕ
  pub at : ℕ
  pub begin : ℕ
  pub cell : LongBlob t h b p f width at
  pub rules : BlobRules mb (offset_at t at width) (length_at t at width) begin
  pub starts : start ≡ base_of (offset_at t at width) + begin
  pub whole : len ≡ length_at t at width

-- it would stand there, but the rules do not hold
pub record Unfit (t mb : List ℕ) (h : Header) (b p f : ℕ) : Type 0 where
  pub width : ℕ
  pub at : ℕ
  pub cell : LongBlob t h b p f width at
  pub unfit : (begin : ℕ) → BlobRules mb (offset_at t at width) (length_at t at width) begin → ⊥
