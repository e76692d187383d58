-- Entries, a head and cells, that antt computes. Assumes nothing.
use mathlib.Core.Path.{◌≡◌, refl}
use mathlib.Core.List.{List, [], ◌∷◌, ◌++◌, map}
use Rattle.std.specs.Prelude.{Option, None, Ok, Err}
use Prim.Native.Nat.{ℕ}
use lib.ListN.{replicate}
use Rattle.words.specs.Each.{each}
use Rattle.words.specs.Numbers.{little}
use Rattle.header.specs.declared.refusal.Refusal.TheVariants.{UnfitBlob}
use Rattle.blob.specs.Mb.{stated_is, entry_blob, own_stated, entry_stated, stated_at}
use Rattle.blob.specs.Blob.{Answer, part, body_with, body_of, blob_at}
use Rattle.blob.specs.declared.mb.Stated.{Stated}
use Rattle.blob.specs.declared.answer.Blob.TheVariants.{Blank, InTable, InMb}

-- five bytes of an entry, and what they state. The first is the one that source document 001 explains
abbrev pub Row : Type 0
Row = List ℕ × Option Stated

abbrev pub rows : List Row
rows =
    (0x25 ∷ 0x03 ∷ 0x0F ∷ 0x00 ∷ 0x07 ∷ [], stated_is 0x250 39)
    ∷ (0x15 ∷ 0x01 ∷ 0x00 ∷ 0x00 ∷ 0x01 ∷ [], stated_is 0x150 1)
    ∷ (0x15 ∷ 0x01 ∷ 0x00 ∷ 0x00 ∷ 0x10 ∷ [], stated_is 0x150 16)
    ∷ (0x15 ∷ 0x02 ∷ 0xFF ∷ 0xFF ∷ 0x01 ∷ [], stated_is 0x150 17)
    ∷ (0x14 ∷ 0x01 ∷ 0x00 ∷ 0x00 ∷ 0x01 ∷ [], None)
    ∷ (0x15 ∷ 0x00 ∷ 0x00 ∷ 0x00 ∷ 0x10 ∷ [], None)
    ∷ (0x15 ∷ 0x01 ∷ 0x00 ∷ 0x00 ∷ 0x00 ∷ [], None)
    ∷ (0x15 ∷ 0x01 ∷ 0x00 ∷ 0x00 ∷ 0x11 ∷ [], None)
    ∷ []

pub rows_hold : map (λ (r : Row). entry_blob r.0 0) rows ≡ map (λ (r : Row). r.1) rows
unfolding entry_blob
rows_hold = refl

-- a head of a block of its own, of one unit with a blob of five bytes: FF alone names it
abbrev pub head : List ℕ
head = 0x02 ∷ 0x01 ∷ 0x00 ∷ 0x05 ∷ 0x00 ∷ 0x00 ∷ 0x00 ∷ 0x01 ∷ 0x00 ∷ []

pub head_holds :
    map (stated_at head 0) (0xFF ∷ 0x00 ∷ 0x3F ∷ 0x40 ∷ 0xFE ∷ [])
    ≡ stated_is 9 5 ∷ None ∷ None ∷ None ∷ None ∷ []
unfolding little own_stated entry_stated stated_at
head_holds = refl

-- its blob, by the cell's length and the stated one: another length, the end of the block, and one byte behind
abbrev pub Body : Type 0
Body = ℕ × ℕ × Answer

abbrev pub bodies : List Body
bodies =
    (5, 5, Ok (InMb (part 9 5)))
    ∷ (4, 5, Err UnfitBlob)
    ∷ (6, 5, Err UnfitBlob)
    ∷ (4087, 4087, Ok (InMb (part 9 4087)))
    ∷ (4088, 4088, Err UnfitBlob)
    ∷ []

pub bodies_hold : map (λ (c : Body). body_with head 0 c.0 (stated_is 9 c.1)) bodies ≡ map (λ (c : Body). c.2) bodies
unfolding little body_with
bodies_hold = refl

-- cells of 12 bytes: a leader of two, an offset, a length and a modification number. None looks at the MB file
abbrev pub Cell : Type 0
Cell = List ℕ × Answer

abbrev pub cells : List Cell
cells =
    (replicate 12 0x00, Ok Blank)
    ∷ (0x41 ∷ 0x42 ∷ 0xFF ∷ 0x10 ∷ 0x00 ∷ 0x00 ∷ 0x02 ∷ 0x00 ∷ 0x00 ∷ 0x00 ∷ 0x07 ∷ 0x00 ∷ [], Ok (InTable (part 0 2)))
    ∷ (0x41 ∷ replicate 11 0x00, Ok (InTable (part 0 0)))
    ∷ (replicate 10 0x00 ++ 0x01 ∷ 0x00 ∷ [], Ok (InTable (part 0 0)))
    ∷ (0x41 ∷ 0x42 ∷ 0x3F ∷ 0x10 ∷ 0x00 ∷ 0x00 ∷ 0x03 ∷ 0x00 ∷ 0x00 ∷ 0x00 ∷ 0x07 ∷ 0x00 ∷ [], Err UnfitBlob)
    ∷ []

-- with an MB file of no bytes
pub cells_hold : map (λ (c : Cell). blob_at c.0 [] 0 12) cells ≡ map (λ (c : Cell). c.1) cells
unfolding each little blob_at body_of
cells_hold = refl
