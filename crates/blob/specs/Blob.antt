-- A blob by its cell, and by block, place and field of a table with its MB file. Definitions only.
use Rattle.std.specs.Prelude.{ℕ, ◌+◌, cond, ◌&&◌, List, [], ◌∷◌, ◌++◌, eqb, leb, Option, Some, None}
use Rattle.std.specs.Prelude.{Result, Ok, Err}
use Rattle.std.specs.Borrow.{Bor}
use Rattle.words.specs.Order.{range, behind}
use Rattle.words.specs.Zeros.{all_zero}
use Rattle.words.specs.declared.part.Part.{Part}
use Rattle.header.specs.Refusals.{number}
use Rattle.header.specs.declared.refusal.Refusal.{Refusal}
use Rattle.header.specs.declared.refusal.Refusal.TheVariants.{BadArgument, UnfitBlob}
use Rattle.header.specs.Kinds.{is_blob}
use Rattle.header.specs.Numbers.{numbers_of}
use Rattle.header.specs.Answers.{header_first}
use Rattle.header.specs.declared.Header.{Header}
use Rattle.header.specs.declared.field.Field.{Field}
use Rattle.blocks.specs.Shape.{shape_of}
use Rattle.blocks.specs.declared.Shape.{Shape}
use Rattle.cell.specs.Locating.{field_at, place_at, place_refusals}
use Rattle.blob.specs.Leader.{leader_size, offset_at, length_at}
use Rattle.blob.specs.Mb.{low_byte, base_of, on_unit, mb_block_size, block_inside, stated_at}
use Rattle.blob.specs.declared.mb.Stated.{Stated}
use Rattle.blob.specs.declared.answer.Blob.{Blob}
use Rattle.blob.specs.declared.answer.Blob.TheVariants.{Blank, InTable, InMb}

-- ---- the answer

-- a blob, or a refusal
abbrev pub Answer : Type 0
Answer = Result Blob Refusal

abbrev pub part : ℕ → ℕ → Part
part start len = record { start = start; len = len }

-- ---- the body, in the MB file

-- of a length in the block at a base: the blob that the block states, where the length is the same and it ends inside
-- the block (18 else)
unfoldable pub body_with : List ℕ → ℕ → ℕ → Option Stated → Answer
body_with mb base len (Some s) =
    cond (eqb s.len len && leb (s.begin + s.len) (mb_block_size mb base)) (Ok (InMb (part (base + s.begin) s.len)))
    (Err UnfitBlob)
body_with mb base len None = Err UnfitBlob

-- by an offset and a length: 18 where the offset is off the unit, or no block of a unit or more is there in the file
unfoldable pub body_of : List ℕ → ℕ → ℕ → Answer
body_of mb offset len =
    let base = base_of offset in
    cond (on_unit base && block_inside mb base) (body_with mb base len (stated_at mb base (low_byte offset)))
    (Err UnfitBlob)

-- ---- by the w bytes of the cell at a place in the table

-- all zeros is blank; a blob no longer than the leader is the leader's first bytes; any other is in the MB file
unfoldable pub blob_at : List ℕ → List ℕ → ℕ → ℕ → Answer
blob_at t mb at w =
    cond (all_zero t at w) (Ok Blank)
    (cond (leb (length_at t at w) (leader_size w)) (Ok (InTable (part at (length_at t at w))))
    (body_of mb (offset_at t at w) (length_at t at w)))

-- ---- by block, place (from 0) and field (from 1): 1 to 7, then 13, 9, 13 of locating, then 18

-- a cell that is located has the blob of its bytes; what locating refuses is refused
unfoldable pub place_blob : List ℕ → List ℕ → ℕ → Result ℕ Refusal → Answer
place_blob t mb width (Ok at) = blob_at t mb at width
place_blob t mb width (Err refusal) = Err refusal

-- 13 where step 1 finds no block or no field, and for a field that is no blob; else by step 2
unfoldable pub field_blob : List ℕ → List ℕ → Shape → ℕ → ℕ → Option Field → Answer
field_blob t mb g b p (Some d) =
    cond (is_blob d.kind) (place_blob t mb d.width (place_at t g b p d.offset)) (Err BadArgument)
field_blob t mb g b p None = Err BadArgument

-- step 1, step 2, then the bytes
unfoldable pub block_blob : List ℕ → List ℕ → Header → ℕ → ℕ → ℕ → Answer
block_blob t mb h b p f = field_blob t mb (shape_of h) b p (field_at t h b f)

-- what they refuse with
abbrev pub blob_refusals : List Refusal
blob_refusals = place_refusals ++ UnfitBlob ∷ []

-- 1 to 7 first, for any bytes and any numbers
unfoldable pub blob_of : List ℕ → List ℕ → ℕ → ℕ → ℕ → Answer
blob_of t mb b p f = header_first t Err (block_blob t mb (numbers_of t) b p f)

-- ---- what each case stands for

-- the files by their numbers
abbrev pub neither : ℕ
neither = 0

abbrev pub in_table : ℕ
in_table = 1

abbrev pub in_mb : ℕ
in_mb = 2

-- the refusal's number, 0 for none; the file; start and length in it
unfoldable pub part_numbers : Answer → ℕ × ℕ × ℕ × ℕ
part_numbers (Ok Blank) = (0, neither, 0, 0)
part_numbers (Ok (InTable p)) = (0, in_table, p.start, p.len)
part_numbers (Ok (InMb p)) = (0, in_mb, p.start, p.len)
part_numbers (Err refusal) = (number refusal, neither, 0, 0)

-- what asking answers, by these numbers
abbrev pub find_numbers : List ℕ → List ℕ → ℕ → ℕ → ℕ → ℕ × ℕ × ℕ × ℕ
find_numbers t mb b p f = part_numbers (blob_of t mb b p f)

-- the bytes of a blob; none where it is blank or refused
unfoldable pub blob_bytes : List ℕ → List ℕ → Answer → List ℕ
blob_bytes t mb (Ok Blank) = []
blob_bytes t mb (Ok (InTable p)) = range t p.start p.len
blob_bytes t mb (Ok (InMb p)) = range mb p.start p.len
blob_bytes t mb (Err refusal) = []

-- where they stand: behind the address of the table or of the MB file; the table's own where there are none
unfoldable pub blob_address : ℕ × ℕ → ℕ × ℕ → Answer → ℕ × ℕ
blob_address t mb (Ok Blank) = behind t 0
blob_address t mb (Ok (InTable p)) = behind t p.start
blob_address t mb (Ok (InMb p)) = behind mb p.start
blob_address t mb (Err refusal) = behind t 0

-- ---- reading, of a lent table and a lent MB file: each has its address and its bytes

abbrev pub read_bytes : Bor (List ℕ) → Bor (List ℕ) → ℕ → ℕ → ℕ → List ℕ
read_bytes t mb b p f = blob_bytes t.now mb.now (blob_of t.now mb.now b p f)

abbrev pub read_address : Bor (List ℕ) → Bor (List ℕ) → ℕ → ℕ → ℕ → ℕ × ℕ
read_address t mb b p f = blob_address t.ref_ptr mb.ref_ptr (blob_of t.now mb.now b p f)
