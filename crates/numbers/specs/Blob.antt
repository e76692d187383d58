-- A blob as numbers: in which file it is, and the part of that file. Definitions only.
use Rattle.std.specs.Prelude.{◌≡◌, ℕ, ◌*◌, true, false, List, [], ◌∷◌, ◌++◌, length, drop, replicate, Ok, Err}
use Rattle.std.specs.Borrow.{Bor}
use Rattle.header.specs.declared.refusal.Refusal.{Refusal}
use Rattle.header.specs.Numbers.{numbers_of}
use Rattle.blob.specs.Blob.{Answer, block_blob, neither, in_table, in_mb}
use Rattle.blob.specs.declared.answer.Blob.TheVariants.{Blank, InTable, InMb}
use Rattle.numbers.specs.Lent.{cleared, room_first, numbered, is_one}

abbrev pub part_count : ℕ
part_count = 2

-- the answer's bits 8 to 15: the file
abbrev pub of_file : ℕ → ℕ
of_file file = 0x100 * file

-- start and length stand in front, and the numbers behind them are as they were
abbrev pub with_part : List ℕ → ℕ → ℕ → ℕ → ℕ × List ℕ
with_part lent file start len = (of_file file, start ∷ len ∷ drop part_count lent)

-- a refusal's number is the whole answer
unfoldable pub blob_given : List ℕ → Answer → ℕ × List ℕ
blob_given lent (Ok Blank) = with_part lent neither 0 0
blob_given lent (Ok (InTable part)) = with_part lent in_table part.start part.len
blob_given lent (Ok (InMb part)) = with_part lent in_mb part.start part.len
blob_given lent (Err refusal) = cleared lent refusal

-- what it answers where it does not refuse: blank, in the table, in the MB file
abbrev pub blob_files : List ℕ
blob_files = of_file neither ∷ of_file in_table ∷ of_file in_mb ∷ []

-- the blob at a block, a place (from 0) and a field (from 1) of a table with its MB file
unfoldable pub blob_numbers : List ℕ → List ℕ → ℕ → ℕ → ℕ → List ℕ → ℕ × List ℕ
blob_numbers t mb b p f lent =
    blob_given lent (room_first t (length lent) part_count (block_blob t mb (numbers_of t) b p f))

-- the same of a lent table and a lent MB file
abbrev pub blob_in : Bor (List ℕ) → Bor (List ℕ) → ℕ → ℕ → ℕ → List ℕ → ℕ × List ℕ
blob_in t mb b p f lent = blob_numbers t.now mb.now b p f lent

-- an answer is blank, a file or one of these refusals; and where it is refused, every lent number is 0
pub record RefusesBlob (refusals : List Refusal) (lent : List ℕ) (answer : ℕ × List ℕ) : Type 0 where
  pub number_right : is_one (blob_files ++ numbered refusals) answer.0 ≡ true
  pub zeros : is_one blob_files answer.0 ≡ false → answer.1 ≡ replicate (length lent) 0
